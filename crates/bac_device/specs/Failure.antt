-- Why a property is not read or written: the class and the code of the Error (clause 18).
use Rattle.std.specs.Prelude.{ℕ}
use Rattle.bac_device.specs.declared.failure.Failure.{Failure, TheVariants.{UnknownObject, UnknownProperty, NotAnArray}}
use Rattle.bac_device.specs.declared.failure.Failure.TheVariants.{InvalidIndex, WriteDenied, WrongType, OutOfRange}

-- The number of the error class: 1 is object, 2 is property.
abbrev pub error_class : Failure → ℕ
error_class UnknownObject = 1
error_class _ = 2

-- The number of the error code.
abbrev pub error_code : Failure → ℕ
error_code UnknownObject = 31  -- unknown-object
error_code UnknownProperty = 32  -- unknown-property
error_code NotAnArray = 50  -- property-is-not-an-array
error_code InvalidIndex = 42  -- invalid-array-index
error_code WriteDenied = 40  -- write-access-denied
error_code WrongType = 9  -- invalid-data-type
error_code OutOfRange = 37  -- value-out-of-range
