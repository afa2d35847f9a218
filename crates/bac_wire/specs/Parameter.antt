-- The parameters of a service: contents under a context tag, or items between an opening and a closing tag (20.2.1.5,
-- 20.2.15).
use Rattle.std.specs.Prelude.{◌++◌, length, List, ℕ}
use Rattle.byteorder.specs.Endian.{big_bytes}
use Rattle.bac_wire.specs.{Datum.{Datum, octet_count, StandsFor}, declared.tag.{Shape.TheVariants.Context, Tag.Tag}}
use Rattle.bac_wire.specs.{Front.Begins, Identifier.{Identifier, number_of}, Limits.deepest, Tag.{plain_tag, SpellsTag}}
use Rattle.bac_wire.specs.Region.{closing_tag, IsBracketed, IsItem, opening_tag}

-- The context tag with this number and this length of contents.
abbrev pub context_tag : ℕ → ℕ → Tag
context_tag number count = record { number = number; shape = Context count }

-- A context tag with this number, and its contents.
abbrev pub SpellsContext : ℕ → List ℕ → List ℕ → Type 0
SpellsContext number octets contents = Begins SpellsTag octets (context_tag number (length contents)) contents

-- A context tag with this number, and the contents of a value of this kind: a number as in an Enumerated, in one to
-- four octets, the high octet first (20.2.4), or an object's identifier in four (20.2.14).
pub record SpellsIn {A : Type 0} (kind : A → Datum) (number : ℕ) (octets : List ℕ) (x : A) : Type 0 where
  pub contents : List ℕ
  pub context : SpellsContext number octets contents
  pub stands : StandsFor contents (kind x)

-- An opening tag with this number, whole items, and the closing tag with this number.
abbrev pub SpellsEnclosed : ℕ → List ℕ → List ℕ → Type 0
SpellsEnclosed number octets region = IsBracketed (IsItem deepest) number octets region

-- ---- the shortest form of each

-- A context tag with this number, and its contents.
abbrev pub context_octets : ℕ → List ℕ → List ℕ
context_octets number contents = plain_tag (context_tag number (length contents)) ++ contents

-- A number in the fewest octets, under this context tag.
abbrev pub number_octets : ℕ → ℕ → List ℕ
number_octets number n = context_octets number (big_bytes (octet_count n) n)

-- An identifier in four octets, under this context tag.
abbrev pub object_octets : ℕ → Identifier → List ℕ
object_octets number id = context_octets number (big_bytes 4 (number_of id))

-- The items between an opening and a closing tag with this number.
abbrev pub enclosed_octets : ℕ → List ℕ → List ℕ
enclosed_octets number region = plain_tag (opening_tag number) ++ (region ++ plain_tag (closing_tag number))
