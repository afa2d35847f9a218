-- The parameters of ReadProperty, WriteProperty and Who-Is (clauses 15.5, 15.9, 16.10 and 21).
use Rattle.std.specs.Prelude.{List, ℕ, ◌<◌, ◌^◌}
use Rattle.bac_wire.specs.{IsIdentifier, IsRegion, number_octets, object_octets, Identifier.Identifier, Limits.deepest}
use Rattle.bac_wire.specs.Parameter.{enclosed_octets, SpellsEnclosed, SpellsIn}
use Rattle.bac_wire.specs.Datum as values

-- A parameter: an object, a number with its tag, or a value.
pub data Parameter : Type 0 where
  object : Identifier → Parameter
  numbered : ℕ → ℕ → Parameter
  value : List ℕ → Parameter

-- The octets of a parameter: an object has tag 0, a number its own tag, and a value is a list of whole items between an
-- opening and a closing tag 3.
abbrev pub SpellsParameter : List ℕ → Parameter → Type 0
SpellsParameter octets (object id) = SpellsIn values.object 0 octets id
SpellsParameter octets (numbered tag n) = SpellsIn values.enumerated tag octets n
SpellsParameter octets (value region) = SpellsEnclosed 3 octets region

-- The parameters that can be written.
abbrev pub IsParameter : Parameter → Type 0
IsParameter (object id) = IsIdentifier id
IsParameter (numbered tag n) = (tag < 255) × (n < 2 ^ 32)
IsParameter (value region) = IsRegion deepest region

-- ---- the form that is written

-- The octets that are written for a parameter: numbers in the fewest octets, each tag in its shortest form.
unfoldable pub plain_parameter : Parameter → List ℕ
plain_parameter (object id) = object_octets 0 id
plain_parameter (numbered tag n) = number_octets tag n
plain_parameter (value region) = enclosed_octets 3 region
