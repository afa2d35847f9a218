-- The limits of a device, and the numbers in its own properties. The code has constants with the same numbers.
use Rattle.std.specs.Prelude.{ℕ}

-- The number of points that a device has room for.
abbrev pub device_room : ℕ
device_room = 32

-- The octets of the longest name of a device or a point.
abbrev pub longest_name : ℕ
longest_name = 64

-- The instance that no object has (clause 12). With the type of a device it stands for the device that is asked (clause
-- 15.5).
abbrev pub no_instance : ℕ
no_instance = 4194303

-- The octets of the greatest APDU that the device accepts.
abbrev pub greatest_apdu : ℕ
greatest_apdu = 1476

-- The number of "no segmentation" (clause 21, BACnetSegmentation): the device neither sends nor accepts segments.
abbrev pub no_segmentation : ℕ
no_segmentation = 3

-- The number of the vendor, which is this project's own choice.
abbrev pub own_vendor : ℕ
own_vendor = 260
