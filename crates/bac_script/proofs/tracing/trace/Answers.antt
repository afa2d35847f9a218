-- The rest on the page is written at the end, or the writer fails there.
use Rattle.std.proofs.Common.{inl, inr, refl, rules}
use Rattle.bac_script.proofs.{traced}
use Rattle.bac_script.proofs.tracing.trace.Goals as goal

pub returns-in_err-finish-clause-script : goal.returns-in_err-finish-clause-script
returns-in_err-finish-clause-script g c =
    traced _ (inr (search rules)) (search rules) c.run_script-answer.ensures.script
    c.new-page.ensures.writer c.new-page.ensures.empty c.new-page.ensures.unfolded c.finish.ensures.printed

pub returns-clause-script : goal.returns-clause-script
returns-clause-script g c =
    traced _ (inl (search rules, refl)) (search rules) c.run_script-answer.ensures.script c.new-page.ensures.writer
    c.new-page.ensures.empty c.new-page.ensures.unfolded c.finish.ensures.printed
