-- A search by lanes: the result of the lanes of one load.
use Rattle.std.specs.Prelude.{◌≡◌, ℕ, ◌+◌, ◌<◌, ◌≤◌, ◌==◌, Bool, true, false, List, slice_index, if◌then◌else◌}
use Rattle.std.specs.Int.{w64, trailing_zeros}

-- The position of the lowest bit that is set, or the number of lanes if no bit is set.
abbrev pub first_set : ℕ → ℕ → ℕ
first_set mask lanes = if mask == 0 then lanes else trailing_zeros w64 mask

-- From this position on, this many octets of the load fail the test. The next octet of the load, if there is one,
-- passes it.
pub record IsRunIn (test : ℕ → Bool) (octets : List ℕ) (at lanes run : ℕ) : Type 0 where
  pub within : run ≤ lanes
  pub fail : (k : ℕ) → at ≤ k → k < at + run → test (slice_index octets k) ≡ false
  pub stops : run < lanes → test (slice_index octets (at + run)) ≡ true
