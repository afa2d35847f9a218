-- The device at the beginning of a script.
use Rattle.std.specs.Prelude.{codes}
use Rattle.bac_device.specs.Info.{Info}

-- The number and the name of a script's device.
abbrev pub small_device : Info
small_device = record { instance = 1234; name = codes "Small device" }
