use Rattle.std.proofs.Common.{false, get_or, length, not, take, ℕ, ◌*◌, ◌-◌, ◌<◌, ◌≡◌, ◌≤◌}
use Rattle.{hex.specs.Hex.is_hex_digit, bac_text.specs.Inner.octets_by_lanes}
use Rattle.bac_text.proofs.hex_lanes.octets_from.Given as goal

abbrev pub invariant-loop-start : goal.invariant-loop-start
invariant-loop-start l = record {
  read : take l.start l.octets ≡ octets_by_lanes (take (2 * l.start) l.digits);
  digits : (k : ℕ) → k < 2 * l.start → not (is_hex_digit (get_or l.digits k 0)) ≡ false;
  within : l.start ≤ length l.octets;
  size : length l.digits ≡ 2 * length l.octets;
}

abbrev pub decreases-loop-start : goal.decreases-loop-start
decreases-loop-start l = length l.octets - l.start
