-- A parameter that may be absent.
use Rattle.std.specs.{Option.{option_map, option_to_list}, Prelude.{[], List, None, Option, Some, ℕ}}
use Rattle.bac_wire.specs.{number_octets}

-- The parameter, if there is a value for it; otherwise nothing.
abbrev pub optional : {A B : Type 0} → (A → B) → Option A → List B
optional made x = option_to_list (option_map made x)

-- A number under this tag, if there is one.
abbrev pub optional_octets : ℕ → Option ℕ → List ℕ
optional_octets number None = []
optional_octets number (Some n) = number_octets number n
