-- The wait at a line without words.
use Rattle.{std.proofs.{Common.{refl, ◌∷◌}, lemmas.Result.err_from_is_err_and}, bac_run.proofs.{went_at, went_failed}}
use Rattle.bac_run.{proofs.{went_more, went_silent}, specs.{Does, Paused}}
use Rattle.bac_run.proofs.turns.Runner.pause.Goals as goal

pub returns-in_err-wait-clause-went : goal.returns-in_err-wait-clause-went
returns-in_err-wait-clause-went g c =
    let (_, was, same) = err_from_is_err_and c.from_residual.result c.from_residual.ensures.1 in
    rw (was, same) (went_failed (Unit {0}) _ (went_at (λ later. Does Paused ∷ later) c.in_err-wait.ensures.went))

pub returns-clause-went : goal.returns-clause-went
returns-clause-went g c =
    went_more (went_at (λ later. Does Paused ∷ later) c.in_ok-wait.ensures.went)
    (went_silent _ Paused tt refl refl (λ later. (refl, refl, refl)) (λ later. refl) c.print.ensures
    (λ waits. waits) tt)
