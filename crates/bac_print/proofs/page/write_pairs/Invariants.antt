use Rattle.std.proofs.Common.{drop, take, ◌*◌, ◌++◌, ◌≡◌}
use Rattle.hex.specs.Hex.{encode_lower}
use Rattle.bac_print.proofs.page.write_pairs.Given as goal

abbrev pub invariant-loop-at : goal.invariant-loop-at
invariant-loop-at l = take (2 * l.at) l.digits ++ encode_lower (drop l.at l.octets) ≡ encode_lower l.octets
