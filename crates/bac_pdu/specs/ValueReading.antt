-- Reading the bodies of Who-Is, I-Am and Error from left to right.
use Rattle.std.specs.Prelude.{[], if◌then◌else◌, List, None, Option, Some, ℕ, ◌==◌}
use Rattle.bac_wire.specs.{kind_at, number_at, ◌>>=◌, ParameterReading.{enumerated_in, object_in, unsigned_in}}
use Rattle.bac_pdu.specs.{declared.discovery.WhoIs.WhoIs, Discovery.Introduction, PropertyReading.whole_of}
use Rattle.bac_pdu.specs.declared.discovery.WhoIs.TheVariants as limits

-- The devices that the body of a Who-Is asks for: all, or those between two limits.
unfoldable pub who_is_of : List ℕ → Option WhoIs
who_is_of [] = Some limits.All
who_is_of body = do
  (low, behind) ← number_at 0 body
  (high, rest) ← number_at 1 behind
  whole_of (limits.Range low high) rest

-- The contents of the body of an I-Am, if its object is a device.
unfoldable pub introduction_of : List ℕ → Option Introduction
introduction_of body = do
  (device, behind) ← kind_at object_in body
  (max_apdu, behind) ← kind_at unsigned_in behind
  (segmentation, behind) ← kind_at enumerated_in behind
  (vendor, rest) ← kind_at unsigned_in behind
  if device.kind == 8
      then whole_of (record { device = device; max_apdu = max_apdu; segmentation = segmentation; vendor = vendor }) rest
      else None

-- The class and the code at the beginning of the body of an Error.
unfoldable pub error_of : List ℕ → Option (ℕ × ℕ)
error_of body = do
  (class, behind) ← kind_at enumerated_in body
  (code, _) ← kind_at enumerated_in behind
  Some (class, code)
