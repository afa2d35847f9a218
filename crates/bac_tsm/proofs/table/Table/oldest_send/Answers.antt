-- The first of the sends is the oldest.
use Rattle.std.proofs.Common.{sym, ◌∙◌}
use Rattle.bac_tsm.proofs.{front_below, oldest}
use Rattle.bac_tsm.proofs.table.Table.oldest_send.Goals as goal

pub held-requires : goal.held-requires
held-requires c =
    front_below c.self.invariant _ c.self.view_is _ (rw c.deref.ensures.0 at c.in_ok-slot.ensures.value)

pub returns : goal.returns
returns c =
    sym (oldest c.self.invariant _ c.self.view_is _ (rw c.deref.ensures.0 at c.in_ok-slot.ensures.value) _
    (c.behind-self.view_is ∙ c.held.ensures))
