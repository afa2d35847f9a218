-- If no word is left, the values so far are the region of all pairs.
use Rattle.std.proofs.Common.{ap, Bool, drop, List, subst, sym, ℕ, ◌∙◌}
use Rattle.bac_text.proofs.{pair_behind, Progress, progress-empty, progress-none}
use Rattle.bac_text.proofs.pairs.read_pairs.Goals as goal

pub returns-then-is_empty : goal.returns-then-is_empty
returns-then-is_empty g c =
    let (none_behind, left) = rw c.in_default.is at c.in_ok-tag.ensures in
    let before = subst
    (λ (b : Bool).
    Progress (g.S.WordSource.left c.args.words.now) (g.S.WordSource.left c.loop-tag.words) c.loop-tag.number
    c.loop-tag.region b) c.if-is_too_long.false c.loop-tag.invariant.progress in
    let none = c.is_empty.ensures.0 c.if-is_empty.true in
    record {
      value = progress-empty _ _ _ _ before none_behind none;
      left = left ∙ ap (λ (words : List (List ℕ)). drop 2 words) (sym (progress-none _ _ _ _ before none_behind none));
    }

pub returns-in-Err-Bad-clause-left : goal.returns-in-Err-Bad-clause-left
returns-in-Err-Bad-clause-left g c =
    pair_behind _ _ _ _ _ _ _ _ c.loop-tag.invariant.progress (rw c.in-Some.is at c.in_ok-tag.ensures)
