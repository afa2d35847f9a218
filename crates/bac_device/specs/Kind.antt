-- The types of point, and the values of each (clause 12).
use Rattle.std.specs.{Int.{from_be_bytes, to_be_bytes, w32}, Map.lookup, Option.option_map, Prelude.{[], Bool, false}}
use Rattle.std.specs.Prelude.{List, nat_eq, nat_le, nat_lt, None, Option, Some, true, ℕ, ◌&&◌, ◌==◌, ◌^◌, ◌∷◌}
use Rattle.bac_wire.specs.{enumerated, null, real, unsigned, value_at, ◌>>=◌, Datum.Datum}
use Rattle.{bac_pdu.specs.PropertyReading.whole_of, bac_device.specs.declared.kind.Family.Family}
use Rattle.bac_device.specs.declared.kind.{Family.TheVariants.{Analog, Binary, MultiState}, Kind.Kind, Role.Role}
use Rattle.bac_device.specs.declared.kind.Role.TheVariants as roles

-- The kind of this family and role.
abbrev pub kind : Family → Role → Kind
kind family role = record { family = family; role = role }

-- The kind of each object type that a point can have (clause 21, BACnetObjectType).
unfoldable pub kind_of : ℕ → Option Kind
kind_of number = lookup (nat_eq number) (
    (0, kind Analog roles.Input)
    ∷ (1, kind Analog roles.Output)
    ∷ (2, kind Analog roles.Value)
    ∷ (3, kind Binary roles.Input)
    ∷ (4, kind Binary roles.Output)
    ∷ (5, kind Binary roles.Value)
    ∷ (13, kind MultiState roles.Input)
    ∷ (14, kind MultiState roles.Output)
    ∷ (19, kind MultiState roles.Value)
    ∷ [])

-- Whether points of this role can be written, and have a priority array (clause 19.2).
abbrev pub is_commandable : Role → Bool
is_commandable roles.Input = false
is_commandable _ = true

-- The value with this number. The number of a Real is that of its four octets.
abbrev pub value_of : Family → ℕ → Datum
value_of Analog n = real (to_be_bytes w32 n)
value_of Binary n = enumerated n
value_of MultiState n = unsigned n

-- The value of a place of a priority array: NULL, or a value of the family.
abbrev pub place_value : Family → Option ℕ → Datum
place_value family None = null
place_value family (Some n) = value_of family n

-- The number of a value. `None` if it is of another family.
abbrev pub number_in : Family → Datum → Option ℕ
number_in Analog (real octets) = Some (from_be_bytes w32 octets)
number_in Binary (enumerated n) = Some n
number_in MultiState (unsigned n) = Some n
number_in _ _ = None

-- The number that a value puts in a place, or NULL. `None` if the value is of another family.
abbrev pub place_in : Family → Datum → Option (Option ℕ)
place_in family null = Some None
place_in family value = option_map Some (number_in family value)

-- The value in these octets. `None` if they are not exactly one value.
unfoldable pub one_value : List ℕ → Option Datum
one_value octets = value_at octets >>= (λ (value, rest). whole_of value rest)

-- Whether a present value can have this number: any of four octets, one of the two binary values, or a state from 1 to
-- `extra`.
abbrev pub allows : Family → ℕ → ℕ → Bool
allows Analog extra n = nat_lt n (2 ^ 32)
allows Binary extra n = nat_lt n 2
allows MultiState extra n = nat_lt 0 n && nat_le n extra

-- Whether a point of this kind can have this `extra`: any units, one of two polarities (0 alone for a binary value), or
-- at least one state.
abbrev pub allows_extra : Family → Role → ℕ → Bool
allows_extra Analog role extra = true
allows_extra Binary roles.Value extra = extra == 0
allows_extra Binary role extra = nat_lt extra 2
allows_extra MultiState role extra = nat_lt 0 extra
