-- Octets are a region if nothing is left after their items.
use Rattle.std.proofs.{Common.arith, lemmas.Bool.eqb-true}
use Rattle.bac_wire.proofs.{one_left, region_whole, whole_region}
use Rattle.bac_wire.proofs.items.is_region.Goals as goal

pub returns-in-Some-clause-found : goal.returns-in-Some-clause-found
returns-in-Some-clause-found c = grind (arith, whole_region, eqb-true, one_left, region_whole)

pub returns-in-None-clause-found : goal.returns-in-None-clause-found
returns-in-None-clause-found c = grind (arith, region_whole)
