-- Positions in a list of events, and the clock there.
use Rattle.std.specs.Prelude.{ℕ, zero, suc, ◌-◌, max, List, [], ◌∷◌, length, take, Option, Some, None, Bool, true}
use Rattle.std.specs.{Prelude.{false, nat_lt, if◌then◌else◌}, Option.option_map_or}
use Rattle.bac_tsm.specs.Events.{Event, Tick}

-- The first of n numbers from i on that passes the test.
abbrev pub first_within : (ℕ → Bool) → ℕ → ℕ → Option ℕ
first_within test i zero = None
first_within test i (suc n) = if test i then Some i else first_within test (suc i) n

-- The first position after i that passes the test.
abbrev pub first_after : List Event → (ℕ → Bool) → ℕ → Option ℕ
first_after events test i = first_within test (suc i) (length events - suc i)

-- The greatest tick, 0 if there is none.
abbrev pub greatest_tick : List Event → ℕ
greatest_tick [] = 0
greatest_tick (Tick now ∷ events) = max now (greatest_tick events)
greatest_tick (_ ∷ events) = greatest_tick events

-- The clock before position i.
abbrev pub clock : List Event → ℕ → ℕ
clock events i = greatest_tick (take i events)

-- The event is a tick.
abbrev pub is_tick : Option Event → Bool
is_tick (Some (Tick now)) = true
is_tick _ = false

-- A position is given, and it comes before i.
abbrev pub has_come : ℕ → Option ℕ → Bool
has_come i position = option_map_or (λ j. nat_lt j i) position false

-- Position i comes before the given one, or none is given.
abbrev pub is_before : ℕ → Option ℕ → Bool
is_before i j = option_map_or (nat_lt i) j true
