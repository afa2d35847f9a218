-- If the request that was sent longest ago is not due, none is, since the others were sent later.
use Rattle.std.proofs.Common.{◌∙◌}
use Rattle.bac_tsm.{proofs.{front_below, rising, some_due}, specs.client_rules}
use Rattle.bac_tsm.proofs.table.Table.is_due.Goals as goal

pub held-requires : goal.held-requires
held-requires c =
    front_below c.self.invariant _ c.self.view_is _
    (rw c.deref.ensures.0 at c.in-Some.ensures.value)

pub returns-in-Some-clause-due : goal.returns-in-Some-clause-due
returns-in-Some-clause-due c =
    c.is_due.ensures ∙ some_due c.self.invariant _ c.self.view_is _
    (rw c.deref.ensures.0 at c.in-Some.ensures.value)
    (client_rules c.args.config.timeout c.args.config.retries) c.args.clock _ c.held.ensures

pub returns-in-Some-clause-rising : goal.returns-in-Some-clause-rising
returns-in-Some-clause-rising c = rising c.self.invariant.table _ c.self.view_is
