-- The words of the values are the typed ones, since marks are removed.
use Rattle.std.proofs.Common.{[], ap, codes, List, map, Option, refl, unwrap_or, ◌∙◌}
use Rattle.std.{proofs.lemmas.Result.err_from_is_err_and, specs.Borrow.Bor}
use Rattle.clap.{proofs.WalkLemmas.raw_values-rows, specs.{Walk.{Text, texts}, Words.found_of}}
use Rattle.bac_words.{proofs.pairs_typed, specs.unmarked}
use Rattle.bac_words.proofs.parse.write_body.Goals as goal

pub returns-in_err-body : goal.returns-in_err-body
returns-in_err-body c =
    let given = ap (λ (o : Option (List Text)). map unmarked (unwrap_or o []))
    (c.get_strs.ensures ∙ raw_values-rows (found_of c.args.matches.now) (codes "tag value")) in
    let typed = ap (λ (b : Bor (List (Bor Text))). map unmarked (texts b.now)) c.unwrap_or-pairs.ensures
    ∙ pairs_typed c.get_strs.result _ refl ∙ given in
    let (_, failed, same) = err_from_is_err_and c.from_residual.result c.from_residual.ensures.1 in
    rw (
      failed,
      same,
      ← c.object.ensures,
      ← c.needed.ensures.value,
      ← c.priority.ensures.value,
      ← typed,
      ← c.new-words.ensures,
    ) c.in_err-body.ensures.body

pub returns : goal.returns
returns c =
    let given = ap (λ (o : Option (List Text)). map unmarked (unwrap_or o []))
    (c.get_strs.ensures ∙ raw_values-rows (found_of c.args.matches.now) (codes "tag value")) in
    let typed = ap (λ (b : Bor (List (Bor Text))). map unmarked (texts b.now)) c.unwrap_or-pairs.ensures
    ∙ pairs_typed c.get_strs.result _ refl ∙ given in
    rw (
      c.copy_of.ensures,
      ← c.object.ensures,
      ← c.needed.ensures.value,
      ← c.priority.ensures.value,
      ← typed,
      ← c.new-words.ensures,
    ) c.in_ok-body.ensures.body
