-- Reading a value from left to right: its tag, and then the table of kinds. The relation is `Spells`.
use Rattle.std.specs.Prelude.{ℕ, zero, suc, nat_lt, ◌==◌, true, false, if◌then◌else◌, List, [], ◌∷◌, length, take, drop}
use Rattle.std.specs.Prelude.{Option, Some, None, option_map}
use Rattle.byteorder.specs.Endian.{big_number, twos_complement}
use Rattle.bac_wire.specs.{declared.tag.{Shape.{Shape, TheVariants.App}, Tag.Tag}, Identifier.identifier_of}
use Rattle.bac_wire.specs.Datum.{Datum, null, boolean, unsigned, signed, real, double, octet_string, char_string}
use Rattle.bac_wire.specs.{Datum.{bit_string, enumerated, date, time, object}, Steps.◌>>=◌, TagReading.tag_at}

-- The contents, if they have this length.
abbrev pub exactly : ℕ → List ℕ → Option (List ℕ)
exactly n contents = if length contents == n then Some contents else None

-- The number in the contents, if they have one octet to this many.
abbrev pub number_within : ℕ → List ℕ → Option ℕ
number_within most contents =
    if nat_lt 0 (length contents)
    then (if nat_lt most (length contents) then None else Some (big_number (length contents) contents))
    else None

-- A CharacterString: the first octet is the number of its character set, the others are its text.
abbrev pub chars_of : List ℕ → Option Datum
chars_of [] = None
chars_of (set ∷ x) = Some (char_string set x)

-- A BitString: the first octet is the number of unused bits at the end, the others are the bits.
abbrev pub bits_of : List ℕ → Option Datum
bits_of [] = None
bits_of (unused ∷ []) = if unused == 0 then Some (bit_string unused []) else None
bits_of (unused ∷ x ∷ xs) = if nat_lt 7 unused then None else Some (bit_string unused (x ∷ xs))

-- The value in contents after an application tag with this number.
unfoldable pub contents_of : ℕ → List ℕ → Option Datum
contents_of number contents =
    if number == 0 then option_map (λ _. null) (exactly 0 contents)
    else if number == 2 then option_map unsigned (number_within 8 contents)
    else if number == 3 then option_map (λ n. signed (twos_complement (length contents) n)) (number_within 8 contents)
    else if number == 4 then option_map real (exactly 4 contents)
    else if number == 5 then option_map double (exactly 8 contents)
    else if number == 6 then Some (octet_string contents)
    else if number == 7 then chars_of contents
    else if number == 8 then bits_of contents
    else if number == 9 then option_map enumerated (number_within 4 contents)
    else if number == 10 then option_map date (exactly 4 contents)
    else if number == 11 then option_map time (exactly 4 contents)
    else if number == 12 then option_map (λ c. object (identifier_of (big_number 4 c))) (exactly 4 contents)
    else None

-- The Boolean in a tag with this number.
abbrev pub boolean_of : ℕ → Option Datum
boolean_of n = if n == 0 then Some (boolean false) else if n == 1 then Some (boolean true) else None

-- The value after an application tag with this number and length, and the octets after it.
abbrev pub behind_at : ℕ → ℕ → List ℕ → Option (Datum × List ℕ)
behind_at number n rest =
    if number == 1 then boolean_of n >>= (λ value. Some (value, rest))
    else if nat_lt (length rest) n then None
    else contents_of number (take n rest) >>= (λ value. Some (value, drop n rest))

-- The value after this tag, if the tag is of the application class.
abbrev pub with_shape : Tag → Shape → List ℕ → Option (Datum × List ℕ)
with_shape tag (App n) rest = behind_at tag.number n rest
with_shape tag _ rest = None

-- The value at the front, and the octets after it.
unfoldable pub value_at : List ℕ → Option (Datum × List ℕ)
value_at spelling = tag_at spelling >>= (λ (tag, rest). with_shape tag tag.shape rest)

-- The values in the octets, one after another, if there are at most this many octets.
unfoldable pub values_within : ℕ → List ℕ → Option (List Datum)
values_within count [] = Some []
values_within zero (octet ∷ octets) = None
values_within (suc count) (octet ∷ octets) = do
  (first, rest) ← value_at (octet ∷ octets)
  others ← values_within count rest
  Some (first ∷ others)

-- The values in a region, if it is only values. Each has at least one octet.
abbrev pub values_of : List ℕ → Option (List Datum)
values_of region = values_within (length region) region
