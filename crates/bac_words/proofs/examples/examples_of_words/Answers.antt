-- Each row is computed, or is arithmetic.
use Rattle.std.proofs.Common.{arith, refl}
use Rattle.bac_words.proofs.examples.examples_of_words.Goals as goal

pub returns : goal.returns
returns c = record {
  tool = λ program e. rw e refl;
  no_tool = λ program e. rw e refl;
  memory = tt;
  bad_mac = λ h. h;
  no_words = λ a. let is = a.answer_is in grind arith;
  ready = λ serve e. grind arith;
  unready = λ serve e h. grind arith;
  script = tt;
  no_device = λ serve e h. grind arith;
  opens = λ batch e w. (grind arith, grind arith);
  shut = λ batch e h. let some = h.1 in grind arith;
}
