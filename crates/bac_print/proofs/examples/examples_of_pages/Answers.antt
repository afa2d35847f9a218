-- A page whose writer had no call yet holds all that was printed on it.
use Rattle.std.proofs.Common.{[], arith, List, refl, ℕ, ◌++◌, ◌∷◌}
use Rattle.bac_print.{proofs.Took-none, specs.{laid_out, Prints, room_after, Wrote, Inner.{page, unasked, unknown}}}
use Rattle.bac_print.proofs.examples.examples_of_pages.Goals as goal

holds : (held text : List ℕ) → Prints unknown (page held) (page (held ++ text)) text
unfolding Wrote laid_out room_after
holds held text = record {
  same = refl;
  wrote = record {
    writes = record {
      taken = [];
      rest = held ++ text;
      took = Took-none unasked;
      whole = refl;
      sound = λ sound. (refl, refl);
      stopped = λ stopped. grind arith;
    };
    room = refl;
  };
}

pub returns : goal.returns
unfolding Wrote laid_out
returns c = record {
  printed = holds [] (1 ∷ []);
  behind = holds (1 ∷ []) (2 ∷ []);
  lost = λ h.
      let w = h.wrote.writes in let passed = w.took.passed in let whole = w.whole in let kept = (w.sound refl).1 in
      grind arith;
  other = λ h.
      let w = h.wrote.writes in let passed = w.took.passed in let whole = w.whole in let kept = (w.sound refl).1 in
      grind arith;
  elsewhere = λ h. let same = h.same in grind arith;
}
