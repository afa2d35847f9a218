-- Taking one request out keeps the invariant: its slot goes after the free ones and out of the sends.
use Rattle.std.proofs.Common.{arith}
use Rattle.bac_tsm.proofs.{ended_by, rank_within, read_within, same_turn, sent_slot}
use Rattle.bac_tsm.proofs.table.Table.end.Goals as goal

pub held-requires : goal.held-requires
held-requires = grind (arith, read_within, rank_within, same_turn)

pub take_out-requires : goal.take_out-requires
take_out-requires = grind (arith, sent_slot)

pub invariant_of-self : goal.invariant_of-self
invariant_of-self c =
    (ended_by c.self.invariant.table _ c.self.view_is c.args.rank _ c.requires c.remove-slot.ensures.value
    c.held.ensures c.invoke_id-invoke_id.ensures c.from.ensures c.remove-slot.ensures.items c.push.ensures.items
    c.remove.ensures.items c.self.invariant.queue c.take_out.ensures).whole

pub returns : goal.returns
returns c =
    (ended_by c.self.invariant.table _ c.self.view_is c.args.rank _ c.requires c.remove-slot.ensures.value
    c.held.ensures c.invoke_id-invoke_id.ensures c.from.ensures c.remove-slot.ensures.items c.push.ensures.items
    c.remove.ensures.items c.self.invariant.queue c.take_out.ensures).told
