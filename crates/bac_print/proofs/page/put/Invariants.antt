use Rattle.std.proofs.Common.{false, length, ◌≡◌}
use Rattle.bac_print.{proofs.Sent, specs.{has_failed, Inner.HasNotRead}}
use Rattle.bac_print.proofs.page.put.Given as goal

abbrev pub invariant-loop-rest : goal.invariant-loop-rest
invariant-loop-rest g l = record {
  sent : Sent g.W.Write.contents l.fn.writer l.writer l.text l.rest;
  sound : has_failed l.writer ≡ false;
  reads : HasNotRead l.fn.writer l.writer;
}

abbrev pub decreases-loop-rest : goal.decreases-loop-rest
decreases-loop-rest g l = length l.rest
