-- The notes on a time, and the datagrams that are due then.
use Rattle.std.proofs.{Common.◌∷◌, Common.{arith, refl, rules}}
use Rattle.std.proofs.{Common.{sym, ◌∙◌}, lemmas.Bool.Decides.nat_tests}
use Rattle.{bac_links.specs.most_turns, bac_run.proofs.{tick_open, went_at, went_more}}
use Rattle.bac_run.{proofs.{went_still, went_told}, specs.Turns}
use Rattle.bac_run.proofs.turns.Runner.tell_time.Goals as goal

pub returns-then-now-clock-clause-went : goal.returns-then-now-clock-clause-went
returns-then-now-clock-clause-went g c =
    went_still _ _ _ _ refl refl
    (λ (until, left, later). grind (arith, nat_tests, c.if-now-clock.true, c.clock.ensures))

pub returns-clause-went : goal.returns-clause-went
returns-clause-went g c =
    went_more
    (went_told _ c.args.now (search rules) (grind (arith, nat_tests, c.if-now-clock.false, c.clock.ensures))
    (c.as_slice.ensures.value ∙ c.tick-due.ensures.answer)
    (c.as_slice-2.ensures.value ∙ sym c.as_slice.ensures.value) c.tick-due.ensures.left c.print_time.ensures
    c.remark_due.ensures)
    (went_at (λ (until, left, aims). Turns until most_turns ∷ aims) c.send_due.ensures.went)

pub returns-clause-kept : goal.returns-clause-kept
returns-clause-kept g c = rw c.tick-due.ensures.left (tick_open c.args.self.now.client c.args.now)
