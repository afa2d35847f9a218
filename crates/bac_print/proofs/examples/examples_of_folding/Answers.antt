-- The texts are computed.
use Rattle.std.proofs.Common.{arith}
use Rattle.bac_print.proofs.examples.examples_of_folding.Goals as goal

pub returns : goal.returns
returns c = grind arith
