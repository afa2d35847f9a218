-- The client gets the time before a request.
use Rattle.std.proofs.Common.{arith, refl}
use Rattle.{std.proofs.lemmas.Bool.Decides.nat_tests, bac_links.specs.most_turns, bac_run.proofs.went_at}
use Rattle.bac_run.{proofs.{went_more, went_read, went_to}, specs.{TimeTold}}
use Rattle.bac_run.proofs.turns.Runner.refresh_time.Goals as goal

pub returns-then-open_count-eq0-clause-went : goal.returns-then-open_count-eq0-clause-went
returns-then-open_count-eq0-clause-went g c =
    went_more
    (went_read _ refl refl (λ later. tt)
    (λ later. grind (arith, nat_tests, c.open_count.ensures.count, c.if-open_count-eq0.true)) c.now-now.ensures.told)
    (went_to (λ later. grind (arith, nat_tests, c.tell_time.ensures.told))
    (went_at (λ later. (TimeTold, most_turns, later)) c.tell_time.ensures.went))

pub returns-then-saturating_sub-late-clause-went : goal.returns-then-saturating_sub-late-clause-went
returns-then-saturating_sub-late-clause-went g c =
    went_read _ refl refl (λ later. tt)
    (λ later. grind (
      arith,
      nat_tests,
      c.open_count.ensures.count,
      c.if-open_count-eq0.false,
      c.from-late.ensures,
      c.clock.ensures,
      c.saturating_sub.ensures,
      c.if-saturating_sub-late.true,
    )) c.now-now.ensures.told

pub returns-clause-went : goal.returns-clause-went
returns-clause-went g c =
    went_more
    (went_read _ refl refl (λ later. tt)
    (λ later. grind (
      arith,
      nat_tests,
      c.open_count.ensures.count,
      c.if-open_count-eq0.false,
      c.from-late.ensures,
      c.clock.ensures,
      c.saturating_sub.ensures,
      c.if-saturating_sub-late.false,
      c.max-self.ensures,
    )) c.now-now.ensures.told) c.wait.ensures.went
