use Rattle.std.proofs.Common.{false, get_or, length, ℕ, ◌-◌, ◌<◌, ◌≡◌, ◌≤◌}
use Rattle.bac_text.specs.{ends_at}
use Rattle.bac_text.proofs.search.position_by.Given as goal

abbrev pub invariant-loop-at : goal.invariant-loop-at
invariant-loop-at g l = record {
  before : (k : ℕ) → k < l.at → ends_at l.end (get_or l.octets k 0) ≡ false;
  within : l.at ≤ length l.octets;
}

abbrev pub decreases-loop-at : goal.decreases-loop-at
decreases-loop-at g l = l.last - l.at
