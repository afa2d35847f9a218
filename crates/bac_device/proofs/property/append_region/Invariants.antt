use Rattle.std.proofs.Common.{flat_map, take, ◌++◌, ◌≡◌}
use Rattle.{bac_wire.specs.plain, bac_device.specs.Inner.property_seen}
use Rattle.bac_device.proofs.property.append_region.Given as goal

abbrev pub invariant-loop-position : goal.invariant-loop-position
invariant-loop-position l =
    l.frame ≡ l.initial.frame ++ flat_map plain (take l.position (property_seen l.property).values)
