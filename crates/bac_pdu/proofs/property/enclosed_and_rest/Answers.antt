-- The region ends where its closing tag begins, so this tag and the rest are the octets after it.
use Rattle.std.proofs.Common.{refl}
use Rattle.bac_wire.{proofs.ItemLaws.{no_region, region_found}, specs.enclosed_at}
use Rattle.bac_pdu.proofs.property.enclosed_and_rest.Goals as goal

pub returns-in_err-region-clause-found : goal.returns-in_err-region-clause-found
unfolding enclosed_at
returns-in_err-region-clause-found c =
    rw (c.from_residual-in_err-region.ensures, ← c.in_ok-inside.ensures.found)
    (no_region 3 _ (rw c.in_err-region.was at c.region.ensures.found))

pub returns-in_err-rest-clause-found : goal.returns-in_err-rest-clause-found
unfolding enclosed_at
returns-in_err-rest-clause-found c =
    let region = rw c.in_ok-region.was at c.region.ensures.found in
    let found = region_found 3 _ _ _ _ c.split_at.ensures.front c.split_at.ensures.back region in
    rw (c.from_residual-in_err-rest.ensures, ← c.in_ok-inside.ensures.found, found, ← c.in_err-rest.ensures) refl

pub returns-clause-found : goal.returns-clause-found
unfolding enclosed_at
returns-clause-found c =
    let region = rw c.in_ok-region.was at c.region.ensures.found in
    let found = region_found 3 _ _ _ _ c.split_at.ensures.front c.split_at.ensures.back region in
    rw (← c.in_ok-inside.ensures.found, found, ← c.in_ok-rest.ensures) refl
