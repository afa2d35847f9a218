-- How long a request waits at most.
use Rattle.std.specs.Prelude.{◌≡◌, ◌<◌, ℕ, List, [], ◌∷◌, true, ⊤}
use Rattle.bac_tsm.specs.{Events.{Event, Rules}, Lookahead.has_waited}

-- The last of these positions, or `first` if there are none.
abbrev pub last_of : ℕ → List ℕ → ℕ
last_of first [] = first
last_of first (next ∷ later) = last_of next later

-- After position i there are ticks at these positions, in order, and the timeout passes from each to the next.
abbrev pub TimeoutsPass : Rules → List Event → ℕ → List ℕ → Type 0
TimeoutsPass rules events i [] = ⊤
TimeoutsPass rules events i (j ∷ later) = (i < j) × (has_waited rules events i j ≡ true)
    × TimeoutsPass rules events j later
