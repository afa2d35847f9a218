-- A wait, and its remark.
use Rattle.{std.proofs.Common.{refl, ◌∷◌}, bac_run.{proofs.{went_at, went_more, went_silent}, specs.{Does, Rested}}}
use Rattle.bac_run.proofs.turns.Runner.sit_out.Goals as goal

pub returns-clause-went : goal.returns-clause-went
returns-clause-went g c =
    let rested = Rested c.args.time in
    went_more (went_at (λ later. Does rested ∷ later) c.in_ok-rest.ensures.went)
    (went_silent _ rested tt refl refl (λ later. (refl, refl, refl)) (λ later. refl) c.remark_rest.ensures
    (λ waits. waits) tt)
