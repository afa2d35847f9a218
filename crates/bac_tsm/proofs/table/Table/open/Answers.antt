-- One more open request keeps the invariant: its slot was free, its ticket is the greatest, and it was sent last.
use Rattle.std.proofs.Common.{arith}
use Rattle.bac_tsm.proofs.{as_many, count, next_free, opened_by}
use Rattle.bac_tsm.proofs.table.Table.open.Goals as goal

pub begin_at-requires-clause-within : goal.begin_at-requires-clause-within
begin_at-requires-clause-within = grind (arith, next_free)

pub put_last-requires : goal.put_last-requires
put_last-requires = grind (arith, as_many, count)

pub invariant_of-self : goal.invariant_of-self
invariant_of-self c =
    (opened_by c.self.invariant.table _ c.self.view_is _ c.deref.ensures.0 _ c.len.ensures.value c.args.asked
    c.args.body.now c.requires.room c.requires.unused c.requires.latest c.self.invariant.queue c.requires.past
    c.from.ensures c.begin_at.ensures c.push.ensures.items c.put_last.ensures).whole

pub returns : goal.returns
returns c =
    (opened_by c.self.invariant.table _ c.self.view_is _ c.deref.ensures.0 _ c.len.ensures.value c.args.asked
    c.args.body.now c.requires.room c.requires.unused c.requires.latest c.self.invariant.queue c.requires.past
    c.from.ensures c.begin_at.ensures c.push.ensures.items c.put_last.ensures).told
