-- A wait, and then the closing remark.
use Rattle.{std.proofs.Common.{Ok, refl, ◌∷◌}, bac_run.proofs.{went_at, went_failed, went_more, went_ok, went_silent}}
use Rattle.bac_run.specs.{Closed, Does, Ends, TraceEnd}
use Rattle.bac_run.proofs.turns.Runner.end.Goals as goal

pub returns-in-Ok-clause-went : goal.returns-in-Ok-clause-went
returns-in-Ok-clause-went g c =
    went_more
    (went_at (λ later. Does Closed ∷ Ends (Ok (record { lines = c.args.lines })) ∷ later) c.in-Ok.ensures.went)
    (went_ok _
    (went_silent _ Closed tt refl refl (λ later. (refl, refl, refl)) (λ later. refl) c.remark_closing.ensures
    (λ waits. waits) tt))

pub returns-in-Err-clause-went : goal.returns-in-Err-clause-went
returns-in-Err-clause-went g c =
    went_failed TraceEnd _
    (went_at (λ later. Does Closed ∷ Ends (Ok (record { lines = c.args.lines })) ∷ later) c.in-Err.ensures.went)
