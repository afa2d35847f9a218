-- If any request is due, the one that was sent longest ago is; it goes after the others, or ends.
use Rattle.std.proofs.Common.{arith, subst, sym, ◌∙◌}
use Rattle.bac_tsm.{proofs.{ended, front_below, not_found, sent_again, some_sent}, specs.{client_rules, Inner.IsRankOf}}
use Rattle.bac_tsm.proofs.table.Table.pass.Goals as goal

pub first_sent-slot-requires : goal.first_sent-slot-requires
first_sent-slot-requires = grind (arith, some_sent)

pub held-requires : goal.held-requires
held-requires c = front_below c.self.invariant _ c.self.view_is _ c.first_sent-slot.ensures

pub send_again_at-requires-clause-within : goal.send_again_at-requires-clause-within
send_again_at-requires-clause-within c =
    front_below c.self.invariant _ c.self.view_is _ c.first_sent-slot.ensures

pub invariant_of-self : goal.invariant_of-self
invariant_of-self c =
    (sent_again c.self.invariant _ c.self.view_is _ c.first_sent-slot.ensures
    (client_rules c.args.config.timeout c.args.config.retries) c.args.clock _ c.held.ensures c.requires.due
    c.requires.past _ (sym c.due_entry-entry.ensures ∙ c.in-Resend.is) _ _ _ c.send_again_at.ensures
    c.remove.ensures.items c.push.ensures.items).whole

pub returns-in-Resend : goal.returns-in-Resend
returns-in-Resend c =
    rw c.due_entry-entry.ensures
    (sent_again c.self.invariant _ c.self.view_is _ c.first_sent-slot.ensures
    (client_rules c.args.config.timeout c.args.config.retries) c.args.clock _ c.held.ensures c.requires.due
    c.requires.past _ (sym c.due_entry-entry.ensures ∙ c.in-Resend.is) _ _ _ c.send_again_at.ensures
    c.remove.ensures.items c.push.ensures.items).told

pub returns-in-Some : goal.returns-in-Some
returns-in-Some c =
    ended c.self.invariant _ c.self.view_is _ c.first_sent-slot.ensures
    (client_rules c.args.config.timeout c.args.config.retries) c.args.clock _ c.held.ensures c.requires.due _
    c.in-Some.rank (sym c.due_entry-entry.ensures ∙ c.in-TimedOut.is)
    (subst (IsRankOf c.in-TimedOut.ticket c.args.self.now) c.in-Some.is c.rank_of.ensures) _ c.end.ensures

pub returns-in_default : goal.returns-in_default
returns-in_default c =
    absurd (not_found c.self.invariant _ c.self.view_is _ c.first_sent-slot.ensures
    (client_rules c.args.config.timeout c.args.config.retries) c.args.clock _ c.held.ensures _
    (sym c.due_entry-entry.ensures ∙ c.in-TimedOut.is)
    (subst (IsRankOf c.in-TimedOut.ticket c.args.self.now) c.in_default.is c.rank_of.ensures))
