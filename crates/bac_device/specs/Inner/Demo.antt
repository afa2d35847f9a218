-- The demonstration device, as it is made point by point.
use Rattle.std.specs.{Prelude.unwrap_or, Option.option_map}
use Rattle.bac_device.specs.{Point.{Given, description_of}, Device.{DeviceState, with_point}}

-- The device with one more point. If no device can have the point, it stays as it is; this is not the case for any of
-- the eleven.
unfoldable pub with_row : DeviceState → Given → DeviceState
with_row device given = unwrap_or (option_map (with_point device) (description_of given)) device
