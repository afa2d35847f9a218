-- The entry of an invoke id leads to the one request that an answer may be to, or to none.
use Rattle.std.proofs.Common.{arith, sym, ◌∙◌}
use Rattle.bac_tsm.proofs.{closed_none, closed_not, closed_some_turn, closed_that, named_below}
use Rattle.bac_tsm.specs.Inner.{answer_seen}
use Rattle.bac_tsm.proofs.table.Table.close.Goals as goal

pub returns-in_err-slot : goal.returns-in_err-slot
returns-in_err-slot c =
    let both =
    closed_none c.self.invariant.table (answer_seen c.args.answer.now) c.from.result c.from.ensures (omega arith) _
    c.self.view_is c.in_err-slot.was in grind arith

pub held-request-requires : goal.held-request-requires
held-request-requires c =
    named_below c.self.invariant.table (answer_seen c.args.answer.now) c.from.result c.from.ensures (omega arith) _
    c.self.view_is c.in_ok-slot.slot c.in_ok-slot.was

pub returns-then-not-is_answered_by : goal.returns-then-not-is_answered_by
returns-then-not-is_answered_by c =
    let both =
    closed_not c.self.invariant.table (answer_seen c.args.answer.now) c.from.result c.from.ensures (omega arith) _
    c.self.view_is c.in_ok-slot.slot c.in_ok-slot.was
    _ c.held-request.ensures (sym c.is_answered_by.ensures ∙ c.if-not-is_answered_by.true) in
    grind arith

pub returns-in_err-rank : goal.returns-in_err-rank
returns-in_err-rank c =
    absurd (closed_some_turn c.self.invariant.table (answer_seen c.args.answer.now) c.from.result c.from.ensures
    (omega arith) _ c.self.view_is c.in_ok-slot.slot c.in_ok-slot.was _ c.held-request.ensures _ c.ticket-ticket.ensures
    (rw c.in_err-rank.was at c.rank_of.ensures))

pub returns : goal.returns
returns c =
    let both =
    closed_that c.self.invariant.table (answer_seen c.args.answer.now) c.from.result c.from.ensures (omega arith) _
    c.self.view_is c.in_ok-slot.slot c.in_ok-slot.was
    _ c.held-request.ensures _ c.ticket-ticket.ensures (sym c.is_answered_by.ensures ∙ c.if-not-is_answered_by.false)
    c.in_ok-rank.rank (rw c.in_ok-rank.was at c.rank_of.ensures) _ c.end.ensures in
    grind arith
