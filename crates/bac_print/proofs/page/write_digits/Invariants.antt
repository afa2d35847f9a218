use Rattle.std.proofs.Common.{decimal, drop, length, ◌++◌, ◌+◌, ◌≡◌, ◌≤◌}
use Rattle.bac_print.proofs.page.write_digits.Given as goal

abbrev pub invariant-loop-rest : goal.invariant-loop-rest
invariant-loop-rest l = record {
  digits : decimal l.number ++ drop l.end l.fn.room ≡ decimal l.rest ++ drop l.start l.room;
  fits : length (decimal l.rest) ≤ l.start;
  place : l.start + length (decimal l.number) ≡ l.end + length (decimal l.rest);
  size : length l.room ≡ length l.fn.room;
  within : l.start ≤ l.end;
}

abbrev pub decreases-loop-rest : goal.decreases-loop-rest
decreases-loop-rest l = l.rest
