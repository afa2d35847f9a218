-- The time is read, and then the wait begins.
use Rattle.{std.proofs.Common.refl, bac_run.proofs.{went_more, went_read}}
use Rattle.bac_run.proofs.turns.Runner.rest.Goals as goal

pub returns-clause-went : goal.returns-clause-went
returns-clause-went g c =
    went_more
    (went_read _ refl refl (λ later. tt) (λ later. rw (c.saturating_add-until.ensures, c.from.ensures) refl)
    c.now-now.ensures.told) c.wait.ensures.went
