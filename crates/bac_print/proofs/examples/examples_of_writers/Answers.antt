-- A writer with no call yet took nothing.
use Rattle.std.proofs.Common.{[], arith, refl, ◌∷◌}
use Rattle.bac_print.{proofs.Took-none, specs.Inner.unasked}
use Rattle.bac_print.proofs.examples.examples_of_writers.Goals as goal

pub returns : goal.returns
returns c = record {
  took = Took-none unasked;
  took_less = λ t. let passed = t.passed in grind arith;
  took_one =
      record { passed = refl; known = tt; made = _; calls = refl; asked = (refl, (λ none. grind arith), refl) };
  took_front = ([], 1 ∷ [], refl, Took-none unasked);
  held = record {
    taken = [];
    rest = 1 ∷ 2 ∷ [];
    took = Took-none unasked;
    whole = refl;
    sound = λ sound. (refl, refl);
    stopped = λ stopped. grind arith;
  };
  dropped = λ w.
      let passed = w.took.passed in let whole = w.whole in let sound = (w.sound refl).1 in grind arith;
  took_other = λ w. let passed = w.took.passed in let whole = w.whole in grind arith;
  kept_other = λ w.
      let passed = w.took.passed in let whole = w.whole in let sound = (w.sound refl).1 in grind arith;
  asked_again = λ w. let same = (w.stopped refl).0 in grind arith;
}
