-- The output that is written before a turn.
use Rattle.bac_print.proofs.Printed.{prints_nothing}
use Rattle.bac_run.proofs.turns.Runner.let_out.Goals as goal

pub returns-else-self-eq0-clause-printed : goal.returns-else-self-eq0-clause-printed
returns-else-self-eq0-clause-printed g c = prints_nothing c.args.page.now
