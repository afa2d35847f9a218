-- The values of a property, and the properties of a point (clause 12).
use Rattle.std.specs.{List.flat_map, Map.lookup, Option.{ok_or, option_map, option_or}}
use Rattle.std.specs.Prelude.{[], Bool, Err, false, if◌then◌else◌, length, List, map, nat_eq, None, not, Ok, Option}
use Rattle.std.specs.Prelude.{Result, slice_get, Some, true, ℕ, ◌&&◌, ◌-◌, ◌==◌, ◌∷◌}
use Rattle.bac_wire.specs.{bit_string, boolean, char_string, enumerated, object, plain, unsigned, Datum.Datum}
use Rattle.bac_device.specs.declared.failure.Failure.{Failure, TheVariants.{InvalidIndex, NotAnArray}}
use Rattle.bac_device.specs.declared.kind.{Family.{Family, TheVariants.{Analog, Binary, MultiState}}, Role.Role}
use Rattle.bac_device.specs.{Kind.{is_commandable, place_value, value_of}, Places.{present, Standing}}
use Rattle.bac_device.specs.declared.kind.Role.TheVariants as roles

-- The values of a property. If it is an array, an index can choose from them.
pub record Property : Type 0 where
  pub is_array : Bool
  pub values : List Datum

-- A property of one value.
abbrev pub single : Datum → Property
single value = record { is_array = false; values = value ∷ [] }

-- A property that is an array of these values.
abbrev pub array : List Datum → Property
array values = record { is_array = true; values = values }

-- The identifiers of the points.
abbrev pub point_objects : List Standing → List Datum
point_objects standings = map (λ standing. object standing.point.object) standings

-- The octets of the values, one after the other.
abbrev pub region_octets : Property → List ℕ
region_octets property = flat_map plain property.values

-- The part of a property that an index selects: without an index the whole property. In an array, 0 selects the number
-- of its elements, and from 1 on the elements; a property that is not an array has none.
unfoldable pub element : Property → Option ℕ → Result Property Failure
element property None = Ok property
element property (Some index) =
    if not property.is_array then Err NotAnArray
    else if index == 0 then Ok (single (unsigned (length property.values)))
    else ok_or (option_map single (slice_get property.values (index - 1))) InvalidIndex

-- ---- the properties of a point

-- `extra` as the property with this number: the units (117) of an analog point, the polarity (84) of a binary input or
-- output, or the number of states (74) of a multi-state point. Otherwise None.
abbrev pub extra_value : Family → Role → ℕ → ℕ → Option Datum
extra_value Analog role extra number = if number == 117 then Some (enumerated extra) else None
extra_value Binary roles.Value extra number = None
extra_value Binary role extra number = if number == 84 then Some (enumerated extra) else None
extra_value MultiState role extra number = if number == 74 then Some (unsigned extra) else None

-- The properties that only points of some types have: priority-array and relinquish-default, if the point can be
-- written; units, polarity and number-of-states.
unfoldable pub kind_property : Standing → ℕ → Option Property
kind_property standing number =
    if number == 87 && is_commandable standing.point.kind.role
    then Some (array (map (place_value standing.point.kind.family) standing.places))
    else if number == 104 && is_commandable standing.point.kind.role
    then Some (single (value_of standing.point.kind.family standing.point.start))
    else option_map single (extra_value standing.point.kind.family standing.point.kind.role standing.point.extra number)

-- The property of a point of this number: one value that every point has, or one of its type.
unfoldable pub point_property : Standing → ℕ → Option Property
point_property standing number = option_or (option_map single (lookup (nat_eq number) (
    (75, object standing.point.object)  -- object-identifier
    ∷ (77, char_string 0 standing.point.name)  -- object-name
    ∷ (79, enumerated standing.point.object.kind)  -- object-type
    ∷ (85, value_of standing.point.kind.family (present standing))  -- present-value
    ∷ (36, enumerated 0)  -- event-state: normal
    ∷ (81, boolean false)  -- out-of-service
    ∷ (111, bit_string 4 (0 ∷ []))  -- status-flags: four, none set
    ∷ []))) (kind_property standing number)
