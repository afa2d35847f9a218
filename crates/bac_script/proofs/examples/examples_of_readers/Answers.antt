-- Each row is computed, or is arithmetic; a negative row follows from one field.
use Rattle.std.proofs.Common.{[], ◌∷◌, arith, inl, refl}
use Rattle.bac_script.proofs.examples.examples_of_readers.Goals as goal

pub returns : goal.returns
returns c = record {
  same = record { octets = refl; ends = refl };
  other = λ h. let octets = h.octets in grind arith;
  other_end = λ h. let ends = h.ends in grind arith;
  front = record { front = (2 ∷ [], refl); unended = refl };
  no_front = λ h. let front = h.front.1 in grind arith;
  front_to_end = λ h. let unended = h.unended in grind arith;
  few = grind arith;
  many = λ h. grind arith;
  going = record { sound = refl; unended = refl };
  not_going = λ h. let unended = h.unended in grind arith;
  at_end = record { empty = refl; sound = refl; ended = refl; once = refl; left = tt };
  not_at_end = λ h. let ended = h.ended in grind arith;
  held_at_end = λ h. let empty = h.empty in grind arith;
  failed = record { empty = refl; failed = inl refl; unended = refl };
  not_failed = λ h. grind arith;
  taken = record { given = 1 ∷ 2 ∷ []; gave = record { passed = refl; known = tt }; order = refl };
  dropped = λ h. let passed = h.gave.passed in let order = h.order in grind arith;
  not_given = λ h. let passed = h.gave.passed in let order = h.order in grind arith;
}
