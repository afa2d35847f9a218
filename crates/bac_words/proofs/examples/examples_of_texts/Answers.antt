-- Each row is computed.
use Rattle.std.proofs.Common.{refl}
use Rattle.bac_words.proofs.examples.examples_of_texts.Goals as goal

pub returns : goal.returns
returns c = record {
  read = refl;
  write = refl;
  who_is = refl;
  device = refl;
  batch = refl;
  script = refl;
  no_tool = refl;
  marked = refl;
  bad_pair = refl;
  long_pairs = refl;
  memory = refl;
  bad_mac = refl;
  bad_index = refl;
  bad_value = λ number. refl;
  too_long = refl;
}
