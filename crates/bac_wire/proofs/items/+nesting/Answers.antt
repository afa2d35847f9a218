-- Each exit from an item, and from the items, is a step of reading lists.
use Rattle.std.proofs.Common.{arith, inl, None, refl, Some, sym, ◌∙◌, ◌≡◌}
use Rattle.std.proofs.lemmas.{Bool.{eqb-false, eqb-true, ne_eqb}, List.nil_from_length}
use Rattle.bac_wire.proofs.{behind_shorter, count_reads, ended_again, ended_since, found_by, item_found, opening_found}
use Rattle.bac_wire.proofs.{rest_found, rest_none, rest_step}
use Rattle.bac_wire.proofs.items.+nesting.Goals as goal

pub behind_item-returns-in_err-checked_sub-in-Opening-clause-found
    : goal.behind_item-returns-in_err-checked_sub-in-Opening-clause-found
behind_item-returns-in_err-checked_sub-in-Opening-clause-found t c = λ octets e.
    let none : c.args.depth ≡ 0 = omega arith in
    rw c.from_residual.ensures (item_found _ _ _ _ e _ None c.in-Opening.is (rw none refl))

pub behind_item-returns-in_err-rest-in-Opening-clause-found
    : goal.behind_item-returns-in_err-rest-in-Opening-clause-found
behind_item-returns-in_err-rest-in-Opening-clause-found t c = λ octets e.
    rw c.from_residual-in_err-rest-in-Opening.ensures (opening_found _ _ _ _ e _ None _
    (omega arith) c.in-Opening.is c.in_err-rest-in-Opening.ensures.found refl)

pub behind_item-returns-in-App-clause-found : goal.behind_item-returns-in-App-clause-found
behind_item-returns-in-App-clause-found t c = λ octets e.
    item_found _ _ _ _ e _ (Some _) c.in-App.is (rw c.if-tag-eq1.true refl)

pub behind_item-returns-in_ok-rest-in-Opening-clause-found : goal.behind_item-returns-in_ok-rest-in-Opening-clause-found
behind_item-returns-in_ok-rest-in-Opening-clause-found t c = λ octets e.
    opening_found _ _ _ _ e _ (Some _) _ (omega arith)
    c.in-Opening.is c.in_ok-rest-in-Opening.ensures.found (sym c.behind_closing.ensures.found)

pub behind_item-returns-in-Closing-clause-found : goal.behind_item-returns-in-Closing-clause-found
behind_item-returns-in-Closing-clause-found t c = λ octets e. item_found _ _ _ _ e _ _ c.in-Closing.is refl

pub behind_item-returns-in-App-2-clause-found : goal.behind_item-returns-in-App-2-clause-found
behind_item-returns-in-App-2-clause-found t c = λ octets e.
    item_found _ _ _ _ e _ _ c.in-App-2.is (grind (arith, ne_eqb, found_by, count_reads))

pub behind_item-returns-in-Context-clause-found : goal.behind_item-returns-in-Context-clause-found
behind_item-returns-in-Context-clause-found t c = λ octets e.
    item_found _ _ _ _ e _ _ c.in-Context.is (grind (arith, found_by, count_reads))

pub behind_items-returns-in-Closing-clause-found : goal.behind_items-returns-in-Closing-clause-found
behind_items-returns-in-Closing-clause-found t c =
    rest_found _ _ _ (c.loop-tag.invariant.found ∙ ended_again _ _ _
    (ended_since _ _ _ (sym c.in-Some.ensures.tag) c.in-Closing.is))

pub behind_items-returns-in_err-rest-clause-found : goal.behind_items-returns-in_err-rest-clause-found
behind_items-returns-in_err-rest-clause-found t c =
    rw c.from_residual.ensures (rest_found _ _ _ (c.loop-tag.invariant.found
    ∙ rest_step _ _ _ _ c.in-Some.ensures.tag None c.in_default-shape.not-Closing
    (c.in_err-rest.ensures.found _ c.in-Some.ensures.tag)))

pub behind_items-loop-tag-smaller : goal.behind_items-loop-tag-smaller
behind_items-loop-tag-smaller t c = grind (arith, behind_shorter)

pub behind_items-loop-tag-preserved : goal.behind_items-loop-tag-preserved
behind_items-loop-tag-preserved t c = record {
  found = c.loop-tag.invariant.found ∙ rest_step _ _ _ _ c.in-Some.ensures.tag (Some _)
      c.in_default-shape.not-Closing (c.in_ok-rest.ensures.found _ c.in-Some.ensures.tag);
  work = grind arith;
}

pub behind_items-returns-then-is_empty-clause-found : goal.behind_items-returns-then-is_empty-clause-found
behind_items-returns-then-is_empty-clause-found t c =
    let empty = nil_from_length _ (grind (arith, eqb-true)) in
    rest_found _ _ _ (c.loop-tag.invariant.found ∙ ended_again _ _ _ (inl empty))

pub behind_items-returns-else-is_empty-clause-found : goal.behind_items-returns-else-is_empty-clause-found
behind_items-returns-else-is_empty-clause-found t c =
    rest_found _ _ _ (c.loop-tag.invariant.found ∙ rest_none _ _ c.in_default.ensures.tag (grind (arith, eqb-false)))
