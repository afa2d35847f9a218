-- The device: its state, its own properties, and the points that can be added to it (clause 12.11).
use Rattle.std.specs.{List.list_any, Map.lookup, Option.{is_some, ok_or, option_and_then, option_map, option_or}}
use Rattle.std.specs.Prelude.{[], Bool, codes, Err, false, find, if◌then◌else◌, length, List, map, nat_eq, Option}
use Rattle.std.specs.{Prelude.{Result, ℕ, ◌&&◌, ◌++◌, ◌==◌, ◌||◌, ◌∷◌, ◌≡◌}, Str.bytes_eq}
use Rattle.bac_wire.specs.{char_string, enumerated, unsigned, Datum.Datum, Identifier.Identifier}
use Rattle.bac_device.specs.declared.device.AddFault.{AddFault, TheVariants.{BadPoint, NameTwice, TooMany, Twice}}
use Rattle.bac_device.specs.{Info.Info, Limits.{device_room, greatest_apdu, no_instance, no_segmentation, own_vendor}}
use Rattle.bac_device.specs.Places.{place_at, present, Standing, standing_after, Write}
use Rattle.bac_device.specs.Point.{Description, description_of, Given, same_object}
use Rattle.bac_device.specs.Property.{array, point_objects, Property, single}
use Rattle.bac_wire.specs.Datum as values

-- The state of a device: its identity, and its points with their places.
pub record DeviceState : Type 0 where
  pub info : Info
  pub standings : List Standing

-- The points of a device, in the order in which they were added.
abbrev pub points_of : DeviceState → List Description
points_of device = map (λ standing. standing.point) device.standings

-- The device with these points, after these writes.
abbrev pub device_after : Info → List Description → List Write → DeviceState
device_after info points writes = record { info = info; standings = map (standing_after writes) points }

-- The places of the device's points are those after these writes.
abbrev pub Holds : DeviceState → List Write → Type 0
Holds device writes = device ≡ device_after device.info (points_of device) writes

-- The point that is this object, with its places.
abbrev pub standing_at : DeviceState → Identifier → Option Standing
standing_at device object = find (λ standing. same_object standing.point.object object) device.standings

-- ---- the values that a caller asks for

-- The point that is this object, among those that were added.
abbrev pub point_at : List Description → Identifier → Option Description
point_at points object = find (λ point. same_object point.object object) points

-- The present value of the object after these writes. `None` if it is not a point.
abbrev pub present_after : List Description → List Write → Identifier → Option ℕ
present_after points writes object =
    option_map (λ point. present (standing_after writes point)) (point_at points object)

-- The value in the object's place of this priority after these writes. `None` if it has no such place.
abbrev pub place_after : List Description → List Write → Identifier → ℕ → Option (Option ℕ)
place_after points writes object priority =
    option_and_then (λ point. place_at (standing_after writes point) priority) (point_at points object)

-- ---- adding a point

-- Whether a point is this object.
abbrev pub has_object : DeviceState → Identifier → Bool
has_object device object = is_some (standing_at device object)

-- Whether the device or a point has this name, octet by octet.
abbrev pub has_name : DeviceState → List ℕ → Bool
has_name device name =
    bytes_eq device.info.name name || list_any (λ standing. bytes_eq standing.point.name name) device.standings

-- The device with one more point, which no write has reached.
abbrev pub with_point : DeviceState → Description → DeviceState
with_point device point = record device { standings = device.standings ++ standing_after [] point ∷ [] }

-- The device with this point, or the first fault that applies: there is no room left; a point is this object; a point
-- or the device has this name; no device can have this point.
unfoldable pub add_point : DeviceState → Given → Result DeviceState AddFault
add_point device point =
    if length device.standings == device_room then Err TooMany
    else if has_object device point.object then Err Twice
    else if has_name device point.name then Err NameTwice
    else ok_or (option_map (with_point device) (description_of point)) BadPoint

-- ---- the properties of the device

-- The object of the device itself: type 8, and its instance.
abbrev pub device_object : Info → Identifier
device_object info = record { kind = 8; instance = info.instance }

-- Whether the object is the device: with its own instance, or the one that stands for every device.
abbrev pub is_device : Info → Identifier → Bool
is_device info object = (object.kind == 8) && ((object.instance == info.instance) || (object.instance == no_instance))

-- The values that each device of this kind has, by the number of the property.
unfoldable pub fixed_value : ℕ → Option Datum
fixed_value number = lookup (nat_eq number) (
    (79, enumerated 8)  -- object-type: device
    ∷ (112, enumerated 0)  -- system-status: operational
    ∷ (121, char_string 0 (codes "Property tools"))  -- vendor-name
    ∷ (120, unsigned own_vendor)  -- vendor-identifier
    ∷ (70, char_string 0 (codes "bacdev"))  -- model-name
    ∷ (44, char_string 0 (codes "1"))  -- firmware-revision
    ∷ (12, char_string 0 (codes "1"))  -- application-software-version
    ∷ (28, char_string 0 (codes "Small BACnet/IP device"))  -- description
    ∷ (98, unsigned 1)  -- protocol-version
    ∷ (139, unsigned 4)  -- protocol-revision
    ∷ (62, unsigned greatest_apdu)  -- max-apdu-length-accepted
    ∷ (107, enumerated no_segmentation)  -- segmentation-supported
    ∷ (11, unsigned 3000)  -- apdu-timeout
    ∷ (73, unsigned 3)  -- number-of-apdu-retries
    ∷ (155, unsigned 1)  -- database-revision
    ∷ [])

-- The properties of the device by their numbers: those that follow from its state, its empty list of address bindings,
-- and those that each device of this kind has.
unfoldable pub device_property : DeviceState → ℕ → Option Property
device_property device number = option_or (lookup (nat_eq number) (
    (75, single (values.object (device_object device.info)))  -- object-identifier
    ∷ (76, array (values.object (device_object device.info) ∷ point_objects device.standings))  -- object-list
    ∷ (77, single (char_string 0 device.info.name))  -- object-name
    ∷ (30, record { is_array = false; values = [] })  -- device-address-binding
    ∷ [])) (option_map single (fixed_value number))
