-- Each row is computed: `clap` accepts the words, and the job that they ask for.
use Rattle.std.proofs.Common.{arith, refl}
use Rattle.clap.specs.{Faults.{defaults_fault, walk_fault}, Walk.walked}
use Rattle.bac_words.proofs.examples.examples_of_other_tools.Goals as goal

pub returns : goal.returns
unfolding walk_fault walked defaults_fault
returns c = record {
  all = record { taken = refl; answer_is = refl };
  one = record { taken = refl; answer_is = refl };
  some = record { taken = refl; answer_is = refl };
  device = record { taken = refl; answer_is = refl };
  batch = record { taken = refl; answer_is = refl };
  window = record { taken = refl; answer_is = refl };
  script = record { taken = refl; answer_is = refl };
  not_taken = λ a. let taken = a.taken in grind arith;
  other_job = λ a. let is = a.answer_is in grind arith;
}
