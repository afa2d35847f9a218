-- One turn after another.
use Rattle.std.proofs.Common.{ap, arith, refl, sym, ℕ, ◌-◌, ◌∷◌}
use Rattle.{std.proofs.lemmas.Result.err_from_is_err_and, bac_run.proofs.went_at}
use Rattle.bac_run.{proofs.{went_failed, went_more, went_ok, went_still, went_to}, specs.Turns}
use Rattle.bac_run.specs.Inner.{started}
use Rattle.bac_run.proofs.turns.Runner.wait.Goals as goal

pub turns-init : goal.turns-init
turns-init g c = record {
  sound = c.requires;
  kept = omega arith;
  few = omega (arith, c.most_turns-left.ensures);
  went = went_still _ _ _ _ refl refl (λ later. rw c.most_turns-left.ensures refl);
}

pub turns-preserved : goal.turns-preserved
turns-preserved g c = record {
  sound = c.in_ok-told.ensures.fault;
  kept = omega (arith, c.turns.invariant.kept, c.in_ok-told.ensures.kept);
  few = grind (arith, c.left_after-left.ensures, c.turns.invariant.few);
  went = went_more
      (went_to (λ later. grind (arith, c.has_reached.ensures, c.turns-test.true, c.if-left-eq0.false))
      c.turns.invariant.went)
      (went_to (λ later. ap (λ (n : ℕ). started c.turn.new.self (Turns c.args.until n ∷ later))
      (sym c.left_after-left.ensures)) (went_ok tt
      (went_at (λ later. (c.args.until, c.turns.left - 1, later)) c.in_ok-told.ensures.went)));
}

pub returns-in_err-told-clause-went : goal.returns-in_err-told-clause-went
returns-in_err-told-clause-went g c =
    let (_, was, same) = err_from_is_err_and c.from_residual.result c.from_residual.ensures.1 in
    rw (was, same)
    (went_more
    (went_to (λ later. grind (arith, c.has_reached.ensures, c.turns-test.true, c.if-left-eq0.false))
    c.turns.invariant.went)
    (went_failed (Unit {0}) _
    (went_at (λ later. (c.args.until, c.turns.left - 1, later)) c.in_err-told.ensures.went)))

pub returns-clause-went : goal.returns-clause-went
returns-clause-went g c =
    went_to (λ later. grind (arith, c.has_reached.ensures, c.turns-test.false)) c.turns.invariant.went
