-- A turn: the time is read, a wait follows, and after that the client may get the time.
use Rattle.std.proofs.{Common.{Bool, false, refl}, lemmas.Result.err_from_is_err_and}
use Rattle.bac_script.specs.declared.tracing.TraceFault.TheVariants.{WriteFailed}
use Rattle.bac_run.proofs.{went_failed, went_more, went_ok, went_stopped, went_to, went_turn, went_turned}
use Rattle.bac_run.proofs.turns.Runner.turn.Goals as goal

pub returns-then-failed-clause-went : goal.returns-then-failed-clause-went
returns-then-failed-clause-went g c =
    went_turned c.let_out.ensures.printed
    (rw c.from.ensures (went_stopped Bool _ _ _ _ _ WriteFailed (λ i. tt)))

pub returns-in_err-hear-clause-went : goal.returns-in_err-hear-clause-went
returns-in_err-hear-clause-went g c =
    let (_, was, same) = err_from_is_err_and c.from_residual.result c.from_residual.ensures.1 in
    rw (was, same)
    (went_failed Bool _ (went_turn _ c.let_out.ensures.printed c.now-now.ensures.told c.in_err-hear.ensures.went))

pub returns-then-branch-clause-went : goal.returns-then-branch-clause-went
returns-then-branch-clause-went g c =
    went_ok false
    (went_to (λ (until, left, later). rw c.if-branch.true refl)
    (went_turn _ c.let_out.ensures.printed c.now-now.ensures.told c.in_ok-hear.ensures.went))

pub returns-clause-went : goal.returns-clause-went
returns-clause-went g c =
    went_more
    (went_to (λ (until, left, later). rw c.if-branch.false refl)
    (went_turn _ c.let_out.ensures.printed c.now-now.ensures.told c.in_ok-hear.ensures.went))
    (went_ok c.tell_time.result c.tell_time.ensures.went)
