-- Single steps of the table: finding a rank, taking out a slot, passing a request that is due.
use Rattle.std.specs.Prelude.{◌≡◌, ◌≢◌, ℕ, suc, ◌<◌, List, ◌++◌, length, take, drop, remove, get_or, Option, Some, None}
use Rattle.std.specs.{Prelude.{true, nat_eq}, List.{All, find}}
use Rattle.bac_tsm.specs.{Events.Rules, declared.due.DueEntry.DueEntry, Machine.{Waiting, is_due, due_entry, kept}}
use Rattle.bac_tsm.specs.{Waiting.nothing, Table.{held_at, open_slots, IsInOrder}}

-- The invoke id of the request at this slot.
abbrev pub invoke_id_at : List Waiting → ℕ → ℕ
invoke_id_at slots slot = (get_or slots slot nothing).request.invoke_id

-- The open requests.
abbrev pub waiting_in : List Waiting → List ℕ → List ℕ → List Waiting
waiting_in slots order tickets = held_at slots (open_slots order tickets)

-- A whole table, and the fact Told.
pub record Leaves (Told : Type 0) (slots : List Waiting) (invoke_ids : List (Option ℕ)) (order tickets sends : List ℕ)
    : Type 0 where
  pub told : Told
  pub whole : IsInOrder slots invoke_ids order tickets sends

-- The rank of the request with this ticket, if there is one.
abbrev pub IsRankOf : ℕ → List Waiting → Option ℕ → Type 0
IsRankOf ticket ws None = All (λ w. w.request.ticket ≢ ticket) ws
IsRankOf ticket ws (Some rank) =
    (rank < length ws) × ((get_or ws rank nothing).request.ticket ≡ ticket)
    × (find (λ w. nat_eq w.request.ticket ticket) ws ≡ Some (get_or ws rank nothing))

-- The slot is taken out at one of the ranks where it stood.
pub record IsTakenOut (slot : ℕ) (before after : List ℕ) : Type 0 where
  pub rank : ℕ
  pub within : rank < length before
  pub stood : get_or before rank 0 ≡ slot
  pub left : after ≡ remove before rank

-- One request that is due is brought to this clock, with this entry.
abbrev pub IsPassed : Rules → ℕ → List Waiting → DueEntry → List Waiting → Type 0
IsPassed rules clock before entry after =
    (rank : ℕ) × (rank < length before) × (is_due rules clock (get_or before rank nothing) ≡ true)
    × (entry ≡ due_entry rules (get_or before rank nothing))
    × (after ≡ take rank before ++ (kept rules clock (get_or before rank nothing) ++ drop (suc rank) before))
