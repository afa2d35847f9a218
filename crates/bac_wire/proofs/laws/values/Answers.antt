-- The parts of the law are lemmas.
use Rattle.bac_wire.proofs.{held_sound, one_value, plain_shortest, plain_spells, spelled_back, value_reader}
use Rattle.bac_wire.proofs.laws.values.Goals as goal

pub returns : goal.returns
returns c = record {
  one = one_value;
  shortest = plain_shortest;
  read_back = λ value h. spelled_back _ _ _ (plain_spells _ h);
  reading = value_reader;
  sound = λ octets value s. held_sound _ _ s.held;
}
