-- Reading a parameter, or a value of one kind, from left to right.
use Rattle.std.specs.Prelude.{ℕ, nat_lt, ◌==◌, if◌then◌else◌, List, length, take, drop, Option, Some, None}
use Rattle.byteorder.specs.Endian.{big_number}
use Rattle.bac_wire.specs.{declared.tag.{Shape.{Shape, TheVariants.{Context, Opening}}, Tag.Tag}, Steps.◌>>=◌}
use Rattle.bac_wire.specs.{Identifier.{Identifier, identifier_of}, TagReading.tag_at, ItemReading.region_at}
use Rattle.bac_wire.specs.{Datum.{Datum, unsigned, enumerated, object}, DatumReading.{number_within, value_at}}

-- The contents of this tag, and the octets after them, if it is a context tag with this number.
abbrev pub counted_of : ℕ → Tag → Shape → List ℕ → Option (List ℕ × List ℕ)
counted_of number tag (Context n) rest =
    if tag.number == number then (if nat_lt (length rest) n then None else Some (take n rest, drop n rest)) else None
counted_of number tag _ rest = None

-- The contents under a context tag with this number, and the octets after them.
unfoldable pub context_at : ℕ → List ℕ → Option (List ℕ × List ℕ)
context_at number octets = tag_at octets >>= (λ (tag, rest). counted_of number tag tag.shape rest)

-- The object's identifier in four octets.
abbrev pub object_of_contents : List ℕ → Option Identifier
object_of_contents contents = if length contents == 4 then Some (identifier_of (big_number 4 contents)) else None

-- The value that was read, converted to another type if it can be, and the octets after it.
abbrev pub read_as : {A B : Type 0} → (A → Option B) → Option (A × List ℕ) → Option (B × List ℕ)
read_as taken read = read >>= (λ (x, rest). taken x >>= (λ y. Some (y, rest)))

-- The number in one to four octets under this tag, and the octets after it.
unfoldable pub number_at : ℕ → List ℕ → Option (ℕ × List ℕ)
number_at number octets = read_as (number_within 4) (context_at number octets)

-- The object's identifier under this tag, and the octets after it.
unfoldable pub object_at : ℕ → List ℕ → Option (Identifier × List ℕ)
object_at number octets = read_as object_of_contents (context_at number octets)

-- ---- items between two tags

-- The octets after a tag, if it is the opening tag with this number.
abbrev pub opening_of : ℕ → Tag → Shape → List ℕ → Option (List ℕ)
opening_of number tag Opening rest = if tag.number == number then Some rest else None
opening_of number tag _ rest = None

-- The octets after an opening tag with this number.
unfoldable pub behind_opening : ℕ → List ℕ → Option (List ℕ)
behind_opening number octets = tag_at octets >>= (λ (tag, rest). opening_of number tag tag.shape rest)

-- The items between an opening and a closing tag with this number, and the octets after these.
unfoldable pub enclosed_at : ℕ → List ℕ → Option (List ℕ × List ℕ)
enclosed_at number octets = behind_opening number octets >>= region_at number

-- ---- values of one kind

-- The number, if the value is an Unsigned.
abbrev pub unsigned_in : Datum → Option ℕ
unsigned_in (unsigned n) = Some n
unsigned_in _ = None

-- The number, if the value is an Enumerated.
abbrev pub enumerated_in : Datum → Option ℕ
enumerated_in (enumerated n) = Some n
enumerated_in _ = None

-- The identifier, if the value is an ObjectIdentifier.
abbrev pub object_in : Datum → Option Identifier
object_in (object id) = Some id
object_in _ = None

-- The value at the front, if `in_kind` accepts its kind, and the octets after it.
unfoldable pub kind_at : {A : Type 0} → (Datum → Option A) → List ℕ → Option (A × List ℕ)
kind_at in_kind octets = read_as in_kind (value_at octets)
