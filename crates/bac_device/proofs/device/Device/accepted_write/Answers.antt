-- The code looks for the point first, the definition for the property.
use Rattle.std.proofs.Common.{arith, Err, if◌then◌else◌, is_some, Ok, refl, Some, sym, ◌≡◌}
use Rattle.{bac_wire.specs.Datum.Datum, bac_pdu.specs.{Order, Property.order}}
use Rattle.bac_device.specs.{accepted_write, commanded_point, DeviceState, ordered_write, property_of, single, Standing}
use Rattle.bac_device.specs.declared.failure.Failure.TheVariants.{NotAnArray}
use Rattle.bac_device.proofs.device.Device.accepted_write.Goals as goal

-- The result of an order for the present value of a point.
accepted_at : (device : DeviceState) (o : Order) (standing : Standing) (value : Datum)
    → commanded_point device o.reference ≡ Some standing
    → property_of device o.reference.object o.reference.property ≡ Ok (single value)
    → accepted_write device o ≡ if is_some o.reference.index then Err NotAnArray else ordered_write standing o
unfolding accepted_write
accepted_at _ o standing value found property = grind arith

-- An index is refused, since a present value is not an array.
pub returns-then-is_some-2 : goal.returns-then-is_some-2
returns-then-is_some-2 c =
    let at = accepted_at c.args.self.now (order c.args.request.now) c.in-Some.point.now _
    (sym c.in-Some.ensures.point) c.in-Some.ensures.property in
    rw (at, ← c.if-is_some-2.ensures) refl

pub returns : goal.returns
returns c =
    let at = accepted_at c.args.self.now (order c.args.request.now) c.in-Some.point.now _
    (sym c.in-Some.ensures.point) c.in-Some.ensures.property in
    rw (at, ← c.if-is_some-2.ensures) c.ordered_write.ensures
