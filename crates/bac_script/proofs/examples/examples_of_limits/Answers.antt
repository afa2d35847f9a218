-- Each row is computed; a negative row follows from one field.
use Rattle.std.proofs.Common.{[], arith, refl, ◌∷◌}
use Rattle.bac_script.proofs.examples.examples_of_limits.Goals as goal

pub returns : goal.returns
returns c = record {
  reads = refl;
  front = (2 ∷ [], refl);
  no_front = λ h. let e = h.1 in grind arith;
  written = refl;
  cut_off = (2 ∷ [], refl);
  not_written = λ h. grind arith;
  alike = record { text = 1 ∷ 2 ∷ []; wrote = (2 ∷ [], refl); other_wrote = refl; same = λ one other. grind arith };
  unlike = λ h. let wrote = h.wrote in let other = h.other_wrote in grind arith;
  other_unlike = λ h. let wrote = h.wrote in let other = h.other_wrote in grind arith;
  ended_otherwise = λ h. let same = h.same (λ e. grind arith) (λ e. grind arith) in grind arith;
}
