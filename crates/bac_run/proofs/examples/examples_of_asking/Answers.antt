-- The second event moves the clock by 41.
use Rattle.std.proofs.Common.{arith}
use Rattle.bac_run.proofs.examples.examples_of_asking.Goals as goal

pub returns-clause-steady : goal.returns-clause-steady
returns-clause-steady c = λ j since_told. omega arith

pub returns-clause-leap : goal.returns-clause-leap
returns-clause-leap c = λ steady. absurd (omega (arith, steady 1 (omega arith)))
