-- One more value: its octets are among those of all, so if there is no room for it, there is none for all.
use Rattle.std.proofs.Common.{[], arith, flat_map, length, List, slice_get, Some, sym, take, ℕ, ◌++◌, ◌+◌, ◌∙◌, ◌∷◌}
use Rattle.std.proofs.{Common.{◌≡◌, ◌≤◌}, lemmas.{Grind.common_steps, List.{take_more, Folds.length-flat_map-take}}}
use Rattle.std.proofs.lemmas.Option.{get_or_from_slice_get, none-some, slice_get-get_or, slice_get_within}
use Rattle.{bac_wire.specs.{null, plain, Datum.Datum}, bac_device.specs.Inner.property_seen}
use Rattle.bac_device.proofs.property.append_region.Goals as goal

-- The octets of one more value are among those of all.
one_more : (values : List Datum) (i : ℕ) (value : Datum) → Some value ≡ slice_get values i →
    (take (i + 1) values ≡ take i values ++ value ∷ [])
    × (length (flat_map plain (take i values)) + length (plain value) ≤ length (flat_map plain values))
one_more values i value read =
    let within = slice_get_within values i value (sym read) in
    let here = get_or_from_slice_get values i value value (sym read) in
    (grind (arith, take_more), grind (arith, length-flat_map-take))

pub unreachable-requires : goal.unreachable-requires
unreachable-requires c =
    none-some _ (c.in-None.ensures.value
    ∙ slice_get-get_or (property_seen c.args.property.now).values c.loop-position.position null (omega arith))

pub returns-in_err-write_value-in-Some-clause-full : goal.returns-in_err-write_value-in-Some-clause-full
returns-in_err-write_value-in-Some-clause-full c =
    let more = one_more (property_seen c.args.property.now).values c.loop-position.position _ c.in-Some.ensures.value in
    grind (arith, common_steps)

pub loop-position-preserved : goal.loop-position-preserved
loop-position-preserved c =
    let more = one_more (property_seen c.args.property.now).values c.loop-position.position _ c.in-Some.ensures.value in
    grind (arith, common_steps)
