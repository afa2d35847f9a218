-- Each row is computed: `clap` accepts the words, and the job that they ask for.
use Rattle.std.proofs.Common.{refl}
use Rattle.clap.specs.{Faults.{defaults_fault, walk_fault}, Walk.walked}
use Rattle.{bac_wire.specs.{plain, plain_tag}, bac_pdu.specs.plain_parameter, bac_text.specs.ValueWords.value_under}
use Rattle.bac_words.proofs.examples.examples_of_requests.Goals as goal

pub returns : goal.returns
unfolding walk_fault walked defaults_fault plain plain_tag plain_parameter value_under
returns c = record {
  read = record { taken = refl; answer_is = refl };
  element = record { taken = refl; answer_is = refl };
  write = record { taken = refl; answer_is = refl };
  relinquish = record { taken = refl; answer_is = refl };
  negative = record { taken = refl; answer_is = refl };
  bad_mac = record { taken = refl; answer_is = refl };
  bad_index = record { taken = refl; answer_is = refl };
  bad_value = record { taken = refl; answer_is = refl };
}
