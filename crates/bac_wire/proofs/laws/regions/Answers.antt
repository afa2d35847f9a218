-- The parts of the law are lemmas.
use Rattle.bac_wire.proofs.{items_is, one_region, region_reader, whole_is}
use Rattle.bac_wire.proofs.laws.regions.Goals as goal

pub returns : goal.returns
returns c = record {
  one = one_region;
  rest = items_is;
  whole = whole_is;
  reading = region_reader;
}
