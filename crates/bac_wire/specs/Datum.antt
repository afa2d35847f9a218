-- The values after application tags, and the octets that spell them (ANSI/ASHRAE 135, 20.2.2 to 20.2.14).
use Rattle.std.specs.Prelude.{FitsSigned, ◌≡◌, ℕ, ℤ, pos, negsuc, ◌*◌, ◌^◌, ◌<◌, ◌≤◌, Bool, nat_lt, if◌then◌else◌, List}
use Rattle.std.specs.{Prelude.{[], ◌∷◌, ◌++◌, length, find, unwrap_or}, Int.w64}
use Rattle.byteorder.specs.Endian.{big_number, big_bytes, twos_complement, low_bytes}
use Rattle.bac_wire.specs.{declared.{tag.{Shape.TheVariants.App, Tag.Tag}, value.Value.Value}, Front.Begins}
use Rattle.bac_wire.specs.{Identifier.{Identifier, IsIdentifier, identifier, number_of}, Tag.{SpellsTag, plain_tag}}
use Rattle.bac_wire.specs.declared.value.Value.TheVariants as values

-- A value, without where its octets lie in memory.
pub data Datum : Type 0 where
  null : Datum
  boolean : Bool → Datum
  unsigned : ℕ → Datum
  signed : ℤ → Datum
  real : List ℕ → Datum
  double : List ℕ → Datum
  octet_string : List ℕ → Datum
  char_string : ℕ → List ℕ → Datum
  bit_string : ℕ → List ℕ → Datum
  enumerated : ℕ → Datum
  date : List ℕ → Datum
  time : List ℕ → Datum
  object : Identifier → Datum

-- A `Value` of the code as a datum.
abbrev pub datum : Value → Datum
datum values.Null = null
datum (values.Bool b) = boolean b
datum (values.Unsigned n) = unsigned n
datum (values.Signed z) = signed z
datum (values.Real r) = real r
datum (values.Double d) = double d
datum (values.Octets x) = octet_string x.now
datum (values.Chars set x) = char_string set x.now
datum (values.Bits unused x) = bit_string unused x.now
datum (values.Enumerated n) = enumerated n
datum (values.Date d) = date d
datum (values.Time t) = time t
datum (values.Object id) = object (identifier id)

-- The number of the application tag before a value (20.2.1.4).
abbrev pub tag_number : Datum → ℕ
tag_number null = 0
tag_number (boolean _) = 1
tag_number (unsigned _) = 2
tag_number (signed _) = 3
tag_number (real _) = 4
tag_number (double _) = 5
tag_number (octet_string _) = 6
tag_number (char_string _ _) = 7
tag_number (bit_string _ _) = 8
tag_number (enumerated _) = 9
tag_number (date _) = 10
tag_number (time _) = 11
tag_number (object _) = 12

-- At most 7 bits of the last octet are unused, and none if there is no octet (20.2.10).
pub record AreBits (unused : ℕ) (x : List ℕ) : Type 0 where
  pub most : unused ≤ 7
  pub empty : x ≡ [] → unused ≡ 0

-- The contents of a value. Numbers may have more octets than they need.
abbrev pub StandsFor : List ℕ → Datum → Type 0
StandsFor contents (unsigned n) = (1 ≤ length contents) × (length contents ≤ 8)
    × (n ≡ big_number (length contents) contents)
StandsFor contents (signed z) = (1 ≤ length contents) × (length contents ≤ 8)
    × (z ≡ twos_complement (length contents) (big_number (length contents) contents))
StandsFor contents (real r) = (length contents ≡ 4) × (contents ≡ r)
StandsFor contents (double d) = (length contents ≡ 8) × (contents ≡ d)
StandsFor contents (octet_string x) = contents ≡ x
StandsFor contents (char_string set x) = contents ≡ set ∷ x
StandsFor contents (bit_string unused x) = (contents ≡ unused ∷ x) × AreBits unused x
StandsFor contents (enumerated n) = (1 ≤ length contents) × (length contents ≤ 4)
    × (n ≡ big_number (length contents) contents)
StandsFor contents (date d) = (length contents ≡ 4) × (contents ≡ d)
StandsFor contents (time t) = (length contents ≡ 4) × (contents ≡ t)
StandsFor contents (object id) = (length contents ≡ 4) × (id.instance < 2 ^ 22) × (big_number 4 contents ≡ number_of id)
StandsFor contents _ = contents ≡ []

-- The number in the tag: the length of the contents, or, for a Boolean, its value (20.2.3).
abbrev pub shape_number : Datum → ℕ → ℕ
shape_number (boolean b) n = if b then 1 else 0
shape_number _ n = n

-- The tag before a value with contents of this length.
abbrev pub tag_before : Datum → ℕ → Tag
tag_before value n = record { number = tag_number value; shape = App (shape_number value n) }

-- A spelling of a value: its application tag, and its contents.
pub record Spells (spelling : List ℕ) (value : Datum) : Type 0 where
  pub contents : List ℕ
  pub tagged : Begins SpellsTag spelling (tag_before value (length contents)) contents
  pub held : StandsFor contents value

-- ---- the shortest spelling

-- The number of octets in which a number is written: the first count from 1 to 7 that is enough, or 8.
abbrev pub octet_count : ℕ → ℕ
octet_count n = unwrap_or (find (λ count. nat_lt n (256 ^ count)) (1 ∷ 2 ∷ 3 ∷ 4 ∷ 5 ∷ 6 ∷ 7 ∷ [])) 8

-- The fewest octets of a number in two's complement, where the sign needs one bit more: for n from 0 on, and for the
-- negative number -1 - n, the count of 2 * n.
abbrev pub signed_count : ℤ → ℕ
signed_count (pos n) = octet_count (2 * n)
signed_count (negsuc n) = octet_count (2 * n)

-- The contents that are written: a number in the fewest octets, all else unchanged.
abbrev pub plain_contents : Datum → List ℕ
plain_contents (unsigned n) = big_bytes (octet_count n) n
plain_contents (signed z) = big_bytes (signed_count z) (low_bytes w64 (signed_count z) z)
plain_contents (real r) = r
plain_contents (double d) = d
plain_contents (octet_string x) = x
plain_contents (char_string set x) = set ∷ x
plain_contents (bit_string unused x) = unused ∷ x
plain_contents (enumerated n) = big_bytes (octet_count n) n
plain_contents (date d) = d
plain_contents (time t) = t
plain_contents (object id) = big_bytes 4 (number_of id)
plain_contents _ = []

-- The spelling that is written for a value.
unfoldable pub plain : Datum → List ℕ
plain value = plain_tag (tag_before value (length (plain_contents value))) ++ plain_contents value

-- The values that can be written: all but a BitString with more than 7 unused bits, or with unused bits and no octet.
abbrev pub IsSound : Datum → Type 0
IsSound (bit_string unused x) = AreBits unused x
IsSound _ = Unit {0}

-- A value within the range of its kind.
abbrev pub InRange : Datum → Type 0
InRange (unsigned n) = n < 2 ^ 64
InRange (signed z) = FitsSigned w64 z
InRange (real r) = length r ≡ 4
InRange (double d) = length d ≡ 8
InRange (bit_string unused x) = AreBits unused x
InRange (enumerated n) = n < 2 ^ 32
InRange (date d) = length d ≡ 4
InRange (time t) = length t ≡ 4
InRange (object id) = IsIdentifier id
InRange _ = Unit {0}

-- The values that have a spelling: within their range, with contents whose length fits a tag.
pub record IsDatum (value : Datum) : Type 0 where
  pub range : InRange value
  pub short : length (plain_contents value) < 2 ^ 32
