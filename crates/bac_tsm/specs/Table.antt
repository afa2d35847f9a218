-- The table of open requests, and its invariant.
use Rattle.std.specs.Prelude.{◌≡◌, ℕ, ◌<◌, ◌≤◌, List, length, map, take, get_or, Option, Some, None, nat_eq}
use Rattle.std.specs.List.{AllPairs, filter}
use Rattle.bac_tsm.specs.{Limits.table_size, Machine.Waiting, Waiting.nothing}

-- The request at each of these slots.
abbrev pub held_at : List Waiting → List ℕ → List Waiting
held_at slots order = map (λ slot. get_or slots slot nothing) order

-- How many elements of the list have this key.
abbrev pub times : {A : Type 0} → (A → ℕ) → ℕ → List A → ℕ
times key n xs = length (filter (λ x. nat_eq (key x) n) xs)

-- How often this slot is in the list.
abbrev pub times_of_slot : ℕ → List ℕ → ℕ
times_of_slot = times (λ slot. slot)

-- The slots of the open requests: the first of the order, as many as there are tickets.
abbrev pub open_slots : List ℕ → List ℕ → List ℕ
open_slots order tickets = take (length tickets) order

-- The entry of an invoke id is the slot of the open request with that invoke id, or none.
abbrev pub Names : List Waiting → List ℕ → ℕ → Option ℕ → Type 0
Names slots order invoke_id None = times (λ w. w.request.invoke_id) invoke_id (held_at slots order) ≡ 0
Names slots order invoke_id (Some slot) = (0 < times_of_slot slot order)
    × ((get_or slots slot nothing).request.invoke_id ≡ invoke_id)

-- No two open requests have the same invoke id, and each invoke id has a correct entry.
pub record AreNamed (slots : List Waiting) (invoke_ids : List (Option ℕ)) (order : List ℕ) : Type 0 where
  pub all_invoke_ids : length invoke_ids ≡ 256
  pub apart : (invoke_id : ℕ) → times (λ w. w.request.invoke_id) invoke_id (held_at slots order) ≤ 1
  pub named : (invoke_id : ℕ) → invoke_id < 256 → Names slots order invoke_id (get_or invoke_ids invoke_id None)

-- The parts of the table fit each other: each slot is in the order once, and the tickets are those of the open
-- requests, in ascending order.
pub record IsTable (slots : List Waiting) (invoke_ids : List (Option ℕ)) (order tickets : List ℕ) : Type 0 where
  pub all_slots : length slots ≡ table_size
  pub all_ranks : length order ≡ table_size
  pub within : (slot : ℕ) → table_size ≤ slot → times_of_slot slot order ≡ 0
  pub once : (slot : ℕ) → times_of_slot slot order ≤ 1
  pub names : AreNamed slots invoke_ids (open_slots order tickets)
  pub ticketed : map (λ w. w.request.ticket) (held_at slots (open_slots order tickets)) ≡ tickets
  pub rise : AllPairs (λ early late. early < late) tickets

-- The slots of the open requests are listed in the order of their last sends, each once.
pub record AreBySend (slots : List Waiting) (opened sends : List ℕ) : Type 0 where
  pub all : length sends ≡ length opened
  pub same : (slot : ℕ) → times_of_slot slot sends ≡ times_of_slot slot opened
  pub by_send : AllPairs (λ early late. early.last_sent ≤ late.last_sent) (held_at slots sends)

-- The parts of the table fit each other, and so does the list of sends.
pub record IsInOrder (slots : List Waiting) (invoke_ids : List (Option ℕ)) (order tickets sends : List ℕ)
    : Type 0 where
  pub table : IsTable slots invoke_ids order tickets
  pub queue : AreBySend slots (open_slots order tickets) sends
