-- The calls and answers of a link, one after another; and the parts from which it was made.
use Rattle.std.specs.Prelude.{[], Bool, Err, List, None, Ok, Option, Result, Some, ℕ, ◌++◌, ◌∷◌, ◌≡◌}
use Rattle.bac_pdu.specs.{Station, station, declared.peer.Peer.Peer}

-- The result of one receive.
pub data Heard : Type 0 where
  Silence : Heard
  Arrived : (from : Station) (octets : List ℕ) → Heard
  Failure : Heard

-- One call of a link, with its answer: a wait of this length, and what it received; the time; a datagram that was sent,
-- or that could not be sent; a datagram that was offered: the system took it, or refused it and it is lost.
pub data Entry : Type 0 where
  Waited : (wait : ℕ) (heard : Heard) → Entry
  Timed : (time : ℕ) → Entry
  Posted : (to : Station) (octets : List ℕ) → Entry
  Unposted : (to : Station) (octets : List ℕ) → Entry
  Offered : (to : Station) (octets : List ℕ) (taken : Bool) → Entry

-- A link as contracts see it: the parts from which it was made, and all its calls and answers.
pub record Account (Origin : Type 0) : Type 0 where
  pub made : Origin
  pub history : List Entry

-- The history of a link gains these entries, and its parts do not change.
abbrev pub GainsAll : {Origin : Type 0} → List Entry → Account Origin → Account Origin → Type 0
GainsAll gained before after = after ≡ record before { history = before.history ++ gained }

-- The history of a link gains this one entry.
abbrev pub Gains : {Origin : Type 0} → Entry → Account Origin → Account Origin → Type 0
Gains entry = GainsAll (entry ∷ [])

-- The result of a receive that returns this and leaves these octets in its datagram.
abbrev pub heard_by : {E : Type 0} → Result (Option Peer) E → List ℕ → Heard
heard_by (Ok None) octets = Silence
heard_by (Ok (Some from)) octets = Arrived (station from) octets
heard_by (Err fault) octets = Failure

-- The entry of a send with this result.
abbrev pub posted : {A E : Type 0} → Result A E → Station → List ℕ → Entry
posted (Ok x) = Posted
posted (Err e) = Unposted
