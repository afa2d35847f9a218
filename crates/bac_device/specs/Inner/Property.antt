-- A property as the code keeps it.
use Rattle.std.specs.Prelude.{[], false, map, ◌∷◌}
use Rattle.bac_wire.specs.{datum, identifier, IsSound, object}
use Rattle.bac_device.specs.declared.property.Property.{Property as AnyProperty}
use Rattle.bac_device.specs.declared.property.Property.TheVariants.{EmptyList, ObjectList, PriorityArray, Single}
use Rattle.bac_device.specs.{Kind.place_value, Property.{array, point_objects, Property, single}}

-- A property as the code keeps it, as one of these definitions.
abbrev pub property_seen : AnyProperty → Property
property_seen (Single value) = single (datum value)
property_seen EmptyList = record { is_array = false; values = [] }
property_seen (ObjectList device points) = array (object (identifier device) ∷ point_objects points.now)
property_seen (PriorityArray family places) = array (map (place_value family) places.now)

-- A property of the code whose values can be written. A list or an array has only identifiers, numbers and NULL, which
-- always can.
abbrev pub IsSoundProperty : AnyProperty → Type 0
IsSoundProperty (Single value) = IsSound (datum value)
IsSoundProperty _ = Unit {0}
