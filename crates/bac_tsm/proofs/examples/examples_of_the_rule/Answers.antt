-- The slots are fewer than the invoke ids, so the rule is followed.
use Rattle.bac_tsm.proofs.{Calls.few_open, WholeRun.follows}
use Rattle.bac_tsm.proofs.examples.examples_of_the_rule.Goals as goal

pub returns-clause-followed : goal.returns-clause-followed
returns-clause-followed c = follows _ _ _ few_open
