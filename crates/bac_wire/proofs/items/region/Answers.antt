-- The rest after items is unique, so a region that is found is the only one.
use Rattle.std.proofs.Common.{None}
use Rattle.bac_wire.proofs.{closing_reads, finds_by, region_finds, region_leaves}
use Rattle.bac_wire.proofs.items.region.Goals as goal

pub returns-in_err-rest-clause-found : goal.returns-in_err-rest-clause-found
returns-in_err-rest-clause-found c =
    rw c.from_residual.ensures (record {
      within = tt;
      found = tt;
      all = λ front r. absurd (c.in_err-rest.ensures.found _ (region_leaves 32 3 _ _ r));
    })

pub returns-in_err-behind_closing-clause-found : goal.returns-in_err-behind_closing-clause-found
returns-in_err-behind_closing-clause-found c =
    let none = rw (← c.in_err-behind_closing.ensures.found) at (finds_by _ (closing_reads 3 c.in_ok-rest.rest.now)) in
    rw c.from_residual-in_err-behind_closing.ensures (region_finds 32 3 _ _ None c.in_ok-rest.ensures.found none)

pub returns-clause-found : goal.returns-clause-found
returns-clause-found c =
    rw (← c.in_ok-behind_closing.ensures.found) at (region_finds 32 3 _ _ _ c.in_ok-rest.ensures.found
    (finds_by _ (closing_reads 3 _)))
