-- A device with one valve.
use Rattle.std.specs.Prelude.{codes}
use Rattle.bac_device.specs.{Demo.row, Info.Info, Kind.kind, Point.{Description, described}}
use Rattle.bac_device.specs.declared.kind.{Family.TheVariants.Analog, Role.TheVariants.Output}

-- The identity of the device.
abbrev pub heating : Info
heating = record { instance = 1234; name = codes "Heating" }

-- The device's valve: analog output 1, at 0 if nobody commands it, in percent (98).
abbrev pub valve : Description
valve = described (kind Analog Output) (row 1 1 (codes "Valve") 0 98)
