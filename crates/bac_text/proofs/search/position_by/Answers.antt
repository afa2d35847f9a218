-- The last load may repeat some octets; none of the octets before it ends the piece.
use Rattle.std.proofs.Common.{arith}
use Rattle.bac_text.proofs.{position_is, position_none}
use Rattle.bac_text.proofs.search.position_by.Goals as goal

pub returns-then-run : goal.returns-then-run
returns-then-run g c = grind (arith, position_is)

pub returns-then-run-2 : goal.returns-then-run-2
returns-then-run-2 g c = grind (arith, position_is)

pub returns-else-run-2 : goal.returns-else-run-2
returns-else-run-2 g c = grind (arith, position_none)
