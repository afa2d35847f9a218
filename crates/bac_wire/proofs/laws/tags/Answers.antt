-- The parts of the law are lemmas.
use Rattle.bac_wire.proofs.{one_tag, plain_tag_shortest, plain_tag_spells, spelled_back, tag_reader}
use Rattle.bac_wire.proofs.laws.tags.Goals as goal

pub returns : goal.returns
returns c = record {
  one = one_tag;
  shortest = plain_tag_shortest;
  read_back = λ tag h. spelled_back _ _ _ (plain_tag_spells _ h);
  reading = tag_reader;
}
