-- A wait, and then the run stops with the fault.
use Rattle.{std.proofs.Common.{Err, ◌∷◌}, bac_run.proofs.{stops_so, went_at, went_failed, went_more, went_stopped}}
use Rattle.bac_run.specs.{Ends}
use Rattle.bac_run.proofs.turns.Runner.stop.Goals as goal

pub returns-in-Ok-clause-went : goal.returns-in-Ok-clause-went
returns-in-Ok-clause-went g c =
    went_more (went_at (λ later. Ends (Err c.args.fault) ∷ later) c.in-Ok.ensures.went)
    (went_stopped (Unit {0}) _ _ _ _ _ c.args.fault (λ later. stops_so c.wait.new.self c.args.fault later))

pub returns-in-Err-clause-went : goal.returns-in-Err-clause-went
returns-in-Err-clause-went g c =
    went_failed (Unit {0}) _ (went_at (λ later. Ends (Err c.args.fault) ∷ later) c.in-Err.ensures.went)
