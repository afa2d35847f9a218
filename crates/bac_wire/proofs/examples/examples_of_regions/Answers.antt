-- A reader finds what is spelled; what a bracket holds is given item by item.
use Rattle.std.proofs.Common.{[], arith, inr, refl, ◌∷◌, ◌≤◌}
use Rattle.bac_wire.proofs.{Computed.computed, ItemLaws.{closed_region, enclosed_reader, nesting, number_reader}}
use Rattle.bac_wire.proofs.{ItemLaws.{one_region, region_reader, whole_is}, TagLaws.{is_spelled, tag_reader}}
use Rattle.bac_wire.specs.{here, into, IsClosedRegion, IsPrimitive, more, none, past, Inner.{unsigned_tag}}
use Rattle.bac_wire.proofs.examples.examples_of_regions.Goals as goal

-- the number 5
five : IsPrimitive (0x21 ∷ 0x05 ∷ [])
unfolding computed
five = record { tag = unsigned_tag 1; contents = 0x05 ∷ []; tagged = tag_reader.takes _ _ _ refl; counted = refl }

-- the number 5, and the closing tag 3 after it
ended : IsClosedRegion 32 3 (0x21 ∷ 0x05 ∷ 0x3f ∷ []) (0x21 ∷ 0x05 ∷ [])
unfolding computed
ended = closed_region _ _ _ [] ((region_reader 3).takes _ _ _ refl)

pub returns-clause-item : goal.returns-clause-item
returns-clause-item c = five

pub returns-clause-bracketed : goal.returns-clause-bracketed
unfolding computed
returns-clause-bracketed c = inr (
  1,
  0x21 ∷ 0x05 ∷ [],
  record {
    closing = 0x1f ∷ [];
    opened = tag_reader.takes _ _ _ refl;
    parts = more {first = 0x21 ∷ 0x05 ∷ []} five none;
    closed = is_spelled tag_reader _ _ refl;
  },
)

pub returns-clause-region : goal.returns-clause-region
unfolding computed
returns-clause-region c = (whole_is 1 _).0 refl

pub returns-clause-left_open : goal.returns-clause-left_open
unfolding computed
returns-clause-left_open c = λ r. let e = (whole_is 32 _).1 r in grind arith

pub returns-clause-closed : goal.returns-clause-closed
unfolding computed
returns-clause-closed c = is_spelled (region_reader 3) _ _ refl

pub returns-clause-ends : goal.returns-clause-ends
unfolding computed
returns-clause-ends c = closed_region _ _ _ (0x00 ∷ []) ((region_reader 3).takes _ _ _ refl)

pub returns-clause-size : goal.returns-clause-size
returns-clause-size c = record {
  within = grind arith;
  found = ended;
  all = λ front r. let same = (one_region 32 32 3 3 _ front _ r ended).0 in grind arith;
}

pub returns-clause-no_size : goal.returns-clause-no_size
returns-clause-no_size c = λ f. let e = f.all _ ended in grind arith

pub returns-clause-opens : goal.returns-clause-opens
unfolding computed
returns-clause-opens c = into {opening = 0x1e ∷ []} {rest = 0x21 ∷ 0x05 ∷ []} 1 (is_spelled tag_reader _ _ refl)
    (past {rest = []} 0 (0x21 ∷ 0x05 ∷ []) five here)

pub returns-clause-opens_more : goal.returns-clause-opens_more
unfolding computed
returns-clause-opens_more c = λ o.
    let region = (whole_is 1 (0x1e ∷ 0x21 ∷ 0x05 ∷ 0x1f ∷ [])).0 refl in
    let deep : 2 ≤ 1 = nesting 1 2 _ _ (0x1f ∷ []) region o refl in grind arith

pub returns-clause-context : goal.returns-clause-context
unfolding computed
returns-clause-context c = tag_reader.takes _ _ _ refl

pub returns-clause-number : goal.returns-clause-number
unfolding computed
returns-clause-number c = is_spelled (number_reader 1) _ _ refl

pub returns-clause-enclosed : goal.returns-clause-enclosed
unfolding computed
returns-clause-enclosed c = is_spelled (enclosed_reader 3) _ _ refl
