use Rattle.std.proofs.Common.{length}
use Rattle.bac_print.proofs.{PrintsHex}
use Rattle.bac_print.proofs.page.Page.print_hex.Given as goal

abbrev pub invariant-loop-rest : goal.invariant-loop-rest
invariant-loop-rest g l = PrintsHex g.W.Write.contents l.fn.self l.self l.octets l.rest

abbrev pub decreases-loop-rest : goal.decreases-loop-rest
decreases-loop-rest g l = length l.rest
