use Rattle.std.proofs.Common.{length}
use Rattle.bac_print.proofs.{PrintsFront}
use Rattle.bac_print.proofs.page.Page.print_values.Given as goal

abbrev pub invariant-loop-value : goal.invariant-loop-value
invariant-loop-value g l = PrintsFront g.W.Write.contents l.fn.self l.self l.region l.rest

abbrev pub decreases-loop-value : goal.decreases-loop-value
decreases-loop-value g l = length l.rest
