-- What `clap` finds in the words is computed.
use Rattle.std.proofs.Common.{arith, inl}
use Rattle.clap.specs.{Faults.{defaults_fault, walk_fault}, Walk.walked}
use Rattle.bac_words.proofs.examples.examples_of_refusals.Goals as goal

pub returns : goal.returns
unfolding walk_fault walked defaults_fault
returns c = record {
  help = λ e is. (is, inl is);
  help_as_words = λ e is h. h.0 is;
  no_help = λ e is h. h.1;
  words = λ e is. (λ same. grind arith, inl is);
  words_as_help = λ e is h. grind arith;
  good_words = λ e is h. h.1;
}
