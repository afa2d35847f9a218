-- The values that a device gives, and the writes that it accepts (clauses 15.5 and 15.9).
use Rattle.std.specs.Option.{ok_or, option_and_then}
use Rattle.std.specs.Prelude.{Err, if◌then◌else◌, is_some, None, not, Ok, Option, Result, Some, ℕ, ◌&&◌, ◌==◌, ◌||◌}
use Rattle.{bac_wire.specs.Identifier.Identifier, bac_pdu.specs.{Order, Reference, ◌>>=◌}}
use Rattle.bac_device.specs.declared.failure.Failure.{Failure, TheVariants.NotAnArray}
use Rattle.bac_device.specs.declared.failure.Failure.TheVariants.{UnknownObject, UnknownProperty, WriteDenied}
use Rattle.bac_device.specs.{Device.{device_property, DeviceState, is_device, standing_at}, Kind.is_commandable}
use Rattle.bac_device.specs.{Places.{Standing, Write, written_value}, Property.{element, point_property, Property}}

-- ---- ReadProperty (clause 15.5)

-- The property of the object with this number, or why there is none: no such object, or no such property.
unfoldable pub property_of : DeviceState → Identifier → ℕ → Result Property Failure
property_of device object number =
    if is_device device.info object then ok_or (device_property device number) UnknownProperty
    else do
      standing ← ok_or (standing_at device object) UnknownObject
      ok_or (point_property standing number) UnknownProperty

-- The property or the element that is asked for, or why it cannot be read.
unfoldable pub read_property : DeviceState → Reference → Result Property Failure
read_property device r = do
  property ← property_of device r.object r.property
  element property r.index

-- ---- WriteProperty (clause 15.9)

-- The point whose present value the reference names, if points of its type can be written.
abbrev pub commanded_point : DeviceState → Reference → Option Standing
commanded_point device r =
    if not (r.property == 85) || is_device device.info r.object then None
    else option_and_then (λ standing. if is_commandable standing.point.kind.role then Some standing else None)
    (standing_at device r.object)

-- The priority of a write: 16, the least urgent, if it names none. Priority 6 is kept for minimum on and off times
-- (clause 19.2), and is refused.
abbrev pub urgency : Option ℕ → Result ℕ Failure
urgency None = Ok 16
urgency (Some priority) = if priority == 6 then Err WriteDenied else Ok priority

-- The write that an order asks of a point, or the first failure that applies: priority 6, a value of another type, a
-- value out of range.
unfoldable pub ordered_write : Standing → Order → Result Write Failure
ordered_write standing o = do
  priority ← urgency o.priority
  value ← written_value standing.point o.value
  Ok (record { object = o.reference.object; priority = priority; value = value })

-- The write that is ordered, or the first failure that applies: an unknown object, an unknown property, an index at a
-- property that is not an array, a property that cannot be written, and then those of the point.
unfoldable pub accepted_write : DeviceState → Order → Result Write Failure
accepted_write device o = do
  property ← property_of device o.reference.object o.reference.property
  if is_some o.reference.index && not property.is_array then Err NotAnArray
      else do
        standing ← ok_or (commanded_point device o.reference) WriteDenied
        ordered_write standing o
