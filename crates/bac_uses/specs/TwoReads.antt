-- Two reads of analog input 5, and the entry of a tick on each after a datagram was received.
use Rattle.std.specs.{Option.option_map_or, Prelude.{[], List, ℕ, ◌+◌, ◌∷◌}}
use Rattle.{bac_pdu.specs.Station, bac_tsm.specs.{client_rules, Rules, Answers.outcome_of}}
use Rattle.bac_tsm.specs.{declared.due.DueEntry.{DueEntry, TheVariants.Resend}, Events.{Request, request_of}}

-- A timeout of three seconds, and three retries.
abbrev pub usual : Rules
usual = client_rules 3000 3

-- The body of a request for this property.
abbrev pub asking : ℕ → List ℕ
asking property = 0x0c ∷ 0 ∷ 0 ∷ 0 ∷ 5 ∷ 0x19 ∷ property ∷ []

-- The request for this property with this ticket; its invoke id is the ticket plus one.
abbrev pub read_of : Station → ℕ → ℕ → Request
read_of device ticket property = request_of usual ticket device 12 (asking property) (ticket + 1)

-- The request is to be sent again, unless this datagram from this station answers it.
abbrev pub again_unless : Station → List ℕ → Request → List DueEntry
again_unless from heard request =
    option_map_or (λ _. []) (outcome_of request from heard) (Resend request.ticket ∷ [])
