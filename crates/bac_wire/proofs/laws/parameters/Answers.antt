-- The parts of the law are lemmas.
use Rattle.bac_wire.proofs.{context_reader, enclosed_reader, enclosed_spells, number_reader, number_spells}
use Rattle.bac_wire.proofs.{object_reader, object_spells}
use Rattle.bac_wire.proofs.laws.parameters.Goals as goal

pub returns : goal.returns
returns c = record {
  context = context_reader;
  number = number_reader;
  object = object_reader;
  enclosed = enclosed_reader;
  of_number = number_spells;
  of_object = object_spells;
  of_region = enclosed_spells;
}
