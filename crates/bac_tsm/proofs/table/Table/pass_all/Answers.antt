-- Each turn passes one request; the notes in that order, sorted by ticket, are those of the definition.
use Rattle.std.proofs.{Common.{arith, List, subst, sym, ◌∙◌}, lemmas.List.Sorted.IsPermutation-trans}
use Rattle.std.specs.List.Sorted.{IsPermutation}
use Rattle.bac_tsm.{proofs.{all_passed, few_due, fewer, is_passed, refilled}, specs.{client_rules, DueEntry}}
use Rattle.bac_tsm.proofs.table.Table.pass_all.Goals as goal

pub put_last-requires : goal.put_last-requires
put_last-requires c =
    let rules = client_rules c.args.config.timeout c.args.config.retries in
    let less =
    (fewer rules c.args.clock c.args.config.positive c.loop-is_due.invariant.ticked _ _ c.pass-entry.ensures).room in
    let most = few_due rules c.args.clock c.args.self.now in
    omega arith

pub loop-is_due-smaller : goal.loop-is_due-smaller
loop-is_due-smaller c =
    (fewer _ c.args.clock c.args.config.positive c.loop-is_due.invariant.ticked _ _ c.pass-entry.ensures).fewer

pub loop-is_due-preserved : goal.loop-is_due-preserved
loop-is_due-preserved c = record {
  ticked = rw c.put_last.ensures
      (is_passed _ c.args.clock c.args.config.positive c.loop-is_due.invariant.ticked _ _ c.pass-entry.ensures);
  due = c.is_due-is_due.ensures.due;
}

pub returns-clause-told : goal.returns-clause-told
returns-clause-told c =
    rw (refilled c.loop-is_due.entries.items c.sort_by_ticket.new.entries (grind arith)) (IsPermutation-trans _ _ _
    (all_passed (client_rules c.args.config.timeout c.args.config.retries) c.args.clock c.args.config.positive
    c.loop-is_due.invariant.ticked (sym c.loop-is_due.invariant.due ∙ c.loop-is_due-test.false)).told
    (subst (λ (es : List DueEntry). IsPermutation es c.sort_by_ticket.new.entries) c.as_mut_slice.ensures.value
    c.sort_by_ticket.ensures.same))

pub returns-clause-kept : goal.returns-clause-kept
returns-clause-kept c =
    (all_passed _ c.args.clock c.args.config.positive c.loop-is_due.invariant.ticked
    (sym c.loop-is_due.invariant.due ∙ c.loop-is_due-test.false)).kept
