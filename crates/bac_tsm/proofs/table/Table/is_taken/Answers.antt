-- The entry of an invoke id says whether an open request has that id, by an invariant of the table.
use Rattle.std.proofs.Common.{◌∙◌}
use Rattle.bac_tsm.proofs.{taken}
use Rattle.bac_tsm.proofs.table.Table.is_taken.Goals as goal

pub returns : goal.returns
returns c = c.is_some.ensures
    ∙ taken c.self.invariant.table c.args.invoke_id c.ranges.invoke_id.fits _ c.from.ensures _ c.self.view_is
