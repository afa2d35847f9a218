-- The longest time that a call takes.
use Rattle.std.specs.Prelude.{◌≡◌, ℕ, ◌+◌, ◌<◌, ◌≤◌, suc, List, [], ◌∷◌, ⊤}
use Rattle.bac_links.specs.History.{Entry, Waited, Timed}

-- A clock shows `time_behind n` after n waits.
module _ (time_behind : ℕ → ℕ) where
  -- The times among these entries, after this many waits, are those of the clock.
  abbrev pub AreTold : (waits : ℕ) → List Entry → Type 0
  AreTold n [] = ⊤
  AreTold n (Waited wait heard ∷ later) = AreTold (suc n) later
  AreTold n (Timed time ∷ later) = (time ≡ time_behind n) × AreTold n later
  AreTold n (_ ∷ later) = AreTold n later

  -- By the clock none of this many waits, with all that is done before it, takes longer than `longest`.
  abbrev pub ArePrompt : (longest waits : ℕ) → Type 0
  ArePrompt longest waits = (n : ℕ) → n < waits → time_behind (suc n) ≤ time_behind n + longest
