-- Reading a tag from left to right: the tag, and the octets after it. The relation is `SpellsTag`.
use Rattle.std.specs.Prelude.{[], if◌then◌else◌, List, nat_lt, None, Option, Some, ℕ, ◌%◌, ◌-◌, ◌/◌, ◌==◌, ◌∷◌}
use Rattle.byteorder.specs.Endian.{big_number}
use Rattle.bac_wire.specs.declared.tag.{Shape.{Shape, TheVariants.{App, Closing, Context, Opening}}, Tag.Tag}
use Rattle.bac_wire.specs.Steps.{◌>>=◌}

-- The tag's number in the octet after the initial one, if it is less than 255.
abbrev pub extended_number : List ℕ → Option (ℕ × List ℕ)
extended_number [] = None
extended_number (octet ∷ rest) = if nat_lt octet 255 then Some (octet, rest) else None

-- The tag's number, from the high half of the initial octet, and the octets after it.
unfoldable pub tag_number_at : ℕ → List ℕ → Option (ℕ × List ℕ)
tag_number_at high octets =
    if nat_lt high 15 then Some (high, octets) else if high == 15 then extended_number octets else None

-- A number in two octets.
abbrev pub two_at : List ℕ → Option (ℕ × List ℕ)
two_at (b ∷ c ∷ rest) = Some (big_number 2 (b ∷ c ∷ []), rest)
two_at _ = None

-- A number in four octets.
abbrev pub four_at : List ℕ → Option (ℕ × List ℕ)
four_at (b ∷ c ∷ d ∷ e ∷ rest) = Some (big_number 4 (b ∷ c ∷ d ∷ e ∷ []), rest)
four_at _ = None

-- A length in octets of its own: one, or two after 254, or four after 255.
unfoldable pub long_length_at : List ℕ → Option (ℕ × List ℕ)
long_length_at [] = None
long_length_at (a ∷ rest) =
    if nat_lt a 254 then Some (a, rest) else if a == 254 then two_at rest else if a == 255 then four_at rest else None

-- The length, from the low bits of the initial octet.
unfoldable pub length_at : ℕ → List ℕ → Option (ℕ × List ℕ)
length_at low octets = if nat_lt low 5 then Some (low, octets) else if low == 5 then long_length_at octets else None

-- Class and length, or the bracket, from the low half of the initial octet.
unfoldable pub shape_at : ℕ → List ℕ → Option (Shape × List ℕ)
shape_at low octets =
    if nat_lt low 8 then length_at low octets >>= (λ (n, rest). Some (App n, rest))
    else if low == 14 then Some (Opening, octets)
    else if low == 15 then Some (Closing, octets)
    else length_at (low - 8) octets >>= (λ (n, rest). Some (Context n, rest))

-- The tag at the front, and the octets after it.
unfoldable pub tag_at : List ℕ → Option (Tag × List ℕ)
tag_at [] = None
tag_at (initial ∷ octets) = do
  (number, behind) ← tag_number_at (initial / 16) octets
  (shape, rest) ← shape_at (initial % 16) behind
  Some (record { number = number; shape = shape }, rest)
