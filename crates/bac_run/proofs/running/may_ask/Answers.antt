-- Before a read no output must be written.
use Rattle.bac_print.proofs.Printed.{prints_nothing}
use Rattle.bac_run.proofs.running.may_ask.Goals as goal

pub returns-then-service-ne-WRITE_PROPERTY-clause-printed : goal.returns-then-service-ne-WRITE_PROPERTY-clause-printed
returns-then-service-ne-WRITE_PROPERTY-clause-printed g c = prints_nothing c.args.page.now
