-- One or two numbers refute a copy or a test that is wrong.
use Rattle.std.proofs.{Common.{arith, refl}, lemmas.Bool.{eq-eqb, eqb-true}}
use Rattle.bac_wire.proofs.examples.examples_of_copies.Goals as goal

pub returns : goal.returns
returns c = record {
  copied = grind arith;
  changed = λ h. let e = h.0 0 1 tt in grind arith;
  costly = λ h. h.1 0;
  compared = λ x y. grind (arith, eqb-true, eq-eqb);
  always_equal = λ h. let e = (h 0 1).0 refl in grind arith;
  never_equal = λ h. let e = (h 0 0).1 refl in grind arith;
  seen = refl;
  room = refl;
  depth = refl;
}
