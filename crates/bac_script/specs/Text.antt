-- The texts of the client's notes, and of the device's replies.
use Rattle.std.specs.{List.flat_map, Prelude.{[], codes, decimal, List, None, Option, Some, ℕ, ◌++◌, ◌∷◌}}
use Rattle.{hex.specs.Hex.encode_lower, bac_pdu.specs.Station, bac_tsm.specs.{Done, Dropped, Note, Refused, Sent}}
use Rattle.bac_tsm.specs.declared.client.SubmitFault.{SubmitFault, TheVariants.{TableFull, TicketsSpent, TooLong}}
use Rattle.{bac_tsm.specs.Events.TimedOut, bac_print.specs.{peer_text, Outcomes.outcome_text}}

abbrev pub refusal_text : SubmitFault → List ℕ
refusal_text TooLong = codes "too-long"
refusal_text TableFull = codes "full"
refusal_text TicketsSpent = codes "spent"

-- The line that is printed for a note.
abbrev pub note_text : Note → List ℕ
note_text (Sent ticket peer octets) =
    codes "send " ++ (decimal ticket ++ 32 ∷ (peer_text peer ++ 32 ∷ (encode_lower octets ++ 10 ∷ [])))
note_text (Refused why) = refusal_text why ++ 10 ∷ []
note_text (Done ticket outcome) = codes "done " ++ (decimal ticket ++ 32 ∷ (outcome_text outcome ++ 10 ∷ []))
note_text Dropped = codes "drop" ++ 10 ∷ []
note_text (TimedOut ticket) = codes "timeout " ++ (decimal ticket ++ 10 ∷ [])

abbrev pub notes_text : List Note → List ℕ
notes_text = flat_map note_text

-- The line that is printed for the device's reply to a datagram.
abbrev pub reply_text : Option (Station × List ℕ) → List ℕ
reply_text None = codes "silent" ++ 10 ∷ []
reply_text (Some (to, octets)) = codes "reply " ++ (peer_text to ++ 32 ∷ (encode_lower octets ++ 10 ∷ []))
