-- The points of the demonstration device.
use Rattle.std.specs.Prelude.{ℕ, List, [], ◌∷◌, codes}
use Rattle.bac_device.specs.{declared.kind.Family.TheVariants.{Analog, Binary, MultiState}, Kind.kind}
use Rattle.bac_device.specs.Point.{Given, Description, described}
use Rattle.bac_device.specs.declared.kind.Role.TheVariants as roles

-- The description of a point: its object type, instance, name, start and extra.
abbrev pub row : ℕ → ℕ → List ℕ → ℕ → ℕ → Given
row kind instance name start extra =
    record { object = record { kind = kind; instance = instance }; name = name; start = start; extra = extra }

-- The eleven points: what each of them is.
abbrev pub demo_points : List Description
demo_points =
    described (kind Analog roles.Input) (row 0 5 (codes "Outdoor temperature") 0x4290999A 64)
    ∷ described (kind Analog roles.Input) (row 0 35 (codes "01234567890123456789012345678901234") 0 95)
    ∷ described (kind Analog roles.Input) (row 0 36 (codes "012345678901234567890123456789012345") 0 95)
    ∷ described (kind Analog roles.Output) (row 1 1 (codes "Valve") 0 98)
    ∷ described (kind Analog roles.Value) (row 2 2 (codes "Setpoint") 0x41A80000 62)
    ∷ described (kind Binary roles.Input) (row 3 3 (codes "Door") 0 0)
    ∷ described (kind Binary roles.Output) (row 4 4 (codes "Fan") 0 0)
    ∷ described (kind Binary roles.Value) (row 5 5 (codes "Occupied") 0 0)
    ∷ described (kind MultiState roles.Input) (row 13 1 (codes "Mode seen") 1 3)
    ∷ described (kind MultiState roles.Output) (row 14 1 (codes "Mode") 1 3)
    ∷ described (kind MultiState roles.Value) (row 19 1 (codes "Season") 1 4)
    ∷ []
