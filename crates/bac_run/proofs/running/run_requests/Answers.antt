-- The rest on the page is written at the end, or the writer fails there.
use Rattle.{std.proofs.{Common.{inl, inr, refl, rules}, lemmas.Result.err_from_is_err_and}, bac_run.proofs.goes_out}
use Rattle.bac_run.proofs.{settings_read_back}
use Rattle.bac_run.proofs.running.run_requests.Goals as goal

pub returns-in_err-finish-clause-runs : goal.returns-in_err-finish-clause-runs
returns-in_err-finish-clause-runs g c =
    let (_, was, same) = err_from_is_err_and c.from_residual.result c.from_residual.ensures.1 in
    rw (was, same)
    (goes_out (inr refl) (search rules) c.run_lines-answer.ensures.runs
    (settings_read_back _ _ (search rules) (search rules) (search rules)) c.folding-page.ensures.writer
    c.folding-page.ensures.empty c.folding-page.ensures.folds c.finish.ensures.printed)

pub returns-clause-runs : goal.returns-clause-runs
returns-clause-runs g c =
    goes_out (inl refl) (search rules) c.run_lines-answer.ensures.runs
    (settings_read_back _ _ (search rules) (search rules) (search rules)) c.folding-page.ensures.writer
    c.folding-page.ensures.empty c.folding-page.ensures.folds c.finish.ensures.printed
