-- The client gets the time, and the request is made.
use Rattle.{std.proofs.Common.◌∷◌, bac_pdu.specs.station, bac_tsm.specs.Ask}
use Rattle.{bac_script.specs.declared.tracing.TraceFault.TheVariants.WriteFailed, bac_run.proofs.{went_at, went_more}}
use Rattle.bac_run.{proofs.{went_set, went_stopped, went_turned}, specs.{Asked, Does, room_for}}
use Rattle.bac_run.proofs.turns.Runner.ask.Goals as goal

pub returns-then-not-may_ask-clause-went : goal.returns-then-not-may_ask-clause-went
returns-then-not-may_ask-clause-went g c =
    let asked = Asked c.args.line.now (Ask (station c.args.peer) c.args.service c.args.body.now) in
    went_more (went_at (λ later. Does asked ∷ room_for c.args.self.now.setup.window ∷ later)
    c.in_ok-refresh_time.ensures.went)
    (went_turned c.may_ask.ensures.printed
    (went_stopped (Unit {0}) _ _ _ _ _ WriteFailed (λ later. tt)))

pub returns-clause-went : goal.returns-clause-went
returns-clause-went g c =
    let asked = Asked c.args.line.now (Ask (station c.args.peer) c.args.service c.args.body.now) in
    went_more (went_at (λ later. Does asked ∷ room_for c.args.self.now.setup.window ∷ later)
    c.in_ok-refresh_time.ensures.went)
    (went_turned c.may_ask.ensures.printed
    (went_set (Does asked) c.in_ok-refresh_time.ensures.went.same c.submit.ensures.went))
