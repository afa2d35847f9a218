-- A folded journal is computed.
use Rattle.{std.proofs.Common.refl, bac_script.proofs.Computed.computed}
use Rattle.bac_run.proofs.examples.examples_of_folding.Goals as goal

pub returns : goal.returns
unfolding computed
returns c = record { folded = λ timed some. refl }
