use Rattle.std.proofs.Common.{List, ℕ, ◌-◌, ◌^◌}
use Rattle.bac_print.specs.{Prints}
use Rattle.bac_tools.proofs.telling.print_text.Given as goal

abbrev pub invariant-pieces : goal.invariant-pieces
invariant-pieces g l = (octets : List ℕ) × Prints g.W.Write.contents l.fn.page l.page octets

abbrev pub decreases-pieces : goal.decreases-pieces
decreases-pieces g l = 2 ^ 64 - 1 - l.told
