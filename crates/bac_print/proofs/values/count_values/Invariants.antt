use Rattle.std.proofs.Common.{length, ◌+◌, ◌≤◌}
use Rattle.bac_wire.proofs.DatumLaws.{Counted}
use Rattle.bac_print.proofs.values.count_values.Given as goal

abbrev pub invariant-loop-rest : goal.invariant-loop-rest
invariant-loop-rest l = record {
  counted : Counted l.region l.rest l.count;
  room : l.count + length l.rest ≤ length l.region;
}

abbrev pub decreases-loop-rest : goal.decreases-loop-rest
decreases-loop-rest l = length l.rest
