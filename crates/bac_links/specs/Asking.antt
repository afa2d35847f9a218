-- How a tool goes on: from all its questions and answers follows its next question to the link, or that it is over.
use Rattle.std.specs.{List.last_or, Prelude.[]}
use Rattle.std.specs.Prelude.{Err, if◌then◌else◌, List, nat_lt, None, Option, Result, suc, zero, ℕ, ⊤, ◌++◌, ◌∷◌, ◌≡◌}
use Rattle.{bac_pdu.specs.Station, bac_links.specs.declared.fault.ToolFault.{ToolFault, TheVariants.TurnsSpent}}
use Rattle.bac_links.specs.{History.{Account, Entry, GainsAll, Offered, Posted, Timed}}
use Rattle.bac_links.specs.{History.{Unposted, Waited}, Limits.most_turns}

-- A question to a link: for a datagram, in a wait of this length; for the time; to send a datagram; to offer one.
pub data Question : Type 0 where
  ForDatagram : (wait : ℕ) → Question
  ForTime : Question
  ToSend : (to : Station) (octets : List ℕ) → Question
  ToOffer : (to : Station) (octets : List ℕ) → Question

-- The question of an entry.
abbrev pub question_of : Entry → Question
question_of (Waited wait heard) = ForDatagram wait
question_of (Timed time) = ForTime
question_of (Posted to octets) = ToSend to octets
question_of (Unposted to octets) = ToSend to octets
question_of (Offered to octets taken) = ToOffer to octets

-- A tool has this next question, or is over with this result.
pub data Move (R : Type 0) : Type 0 where
  Asks : (question : Question) → Move R
  Over : (result : R) → Move R

-- The next move after these entries. A tool's moves depend on all entries, and on the last one.
abbrev pub next_move : {R : Type 0} → (List Entry → Option Entry → Move R) → List Entry → Move R
next_move move entries = move entries (last_or None entries)

-- After `before`, each of `later` answers the move that is due there.
abbrev pub Follows : {R : Type 0} → (List Entry → Option Entry → Move R) → (before later : List Entry) → Type 0
Follows move before [] = ⊤
Follows move before (entry ∷ later) =
    (next_move move before ≡ Asks (question_of entry)) × Follows move (before ++ entry ∷ []) later

-- The history of a link gained the entries of a tool's moves, one after another, until the tool is over with this
-- result.
pub record Plays {Origin R : Type 0} (move : List Entry → Option Entry → Move R) (seen left : Account Origin)
    (result : R) : Type 0 where
  pub gained : List Entry
  pub gains : GainsAll gained seen left
  pub follows : Follows move [] gained
  pub over : next_move move gained ≡ Over result

-- How many waits there were.
abbrev pub waits_in : List Entry → ℕ
waits_in [] = zero
waits_in (Waited wait heard ∷ later) = suc (waits_in later)
waits_in (_ ∷ later) = waits_in later

-- The times that were read, one after another.
abbrev pub times_in : List Entry → List ℕ
times_in [] = []
times_in (Timed time ∷ later) = time ∷ times_in later
times_in (_ ∷ later) = times_in later

-- After n turns there is another, which begins with a wait of this length; or all turns are spent.
abbrev pub turn_after : {X : Type 0} → (wait n : ℕ) → Move (Result X ToolFault)
turn_after wait n = if nat_lt n most_turns then Asks (ForDatagram wait) else Over (Err TurnsSpent)
