-- Values, objects and tags for the examples; and very simple spellings and tests, for examples of general definitions.
use Rattle.std.specs.Prelude.{◌≡◌, ℕ, Bool, true, false, List, [], ◌∷◌, Option, Some, None, Result, Ok, Err}
use Rattle.bac_wire.specs.declared.tag.{Shape.TheVariants.App, Tag.Tag}
use Rattle.bac_wire.specs.{Identifier.Identifier, Datum.{Datum, plain}, DatumReading.value_at}

-- These octets are written for the value, and it is read from them.
abbrev pub WritesValue : Datum → List ℕ → Type 0
WritesValue value octets = (plain value ≡ octets) × (value_at octets ≡ Some (value, []))

-- Analog-input (type 0) 5.
abbrev pub input : Identifier
input = record { kind = 0; instance = 5 }

-- Device (type 8) 1234.
abbrev pub device : Identifier
device = record { kind = 8; instance = 1234 }

-- The tag of an unsigned number (type 2) of this many octets.
abbrev pub unsigned_tag : ℕ → Tag
unsigned_tag count = record { number = 2; shape = App count }

-- One octet spells itself.
abbrev pub SpellsOne : List ℕ → ℕ → Type 0
SpellsOne octets x = octets ≡ x ∷ []

-- Any octets spell themselves, so one spelling begins another.
abbrev pub SpellsAny : List ℕ → List ℕ → Type 0
SpellsAny octets x = octets ≡ x

-- The first octet, and those after it.
abbrev pub first_at : List ℕ → Option (ℕ × List ℕ)
first_at [] = None
first_at (x ∷ rest) = Some (x, rest)

-- A reader that finds nothing.
abbrev pub nothing_at : List ℕ → Option (ℕ × List ℕ)
nothing_at octets = None

-- A reader that finds 0 in no octets.
abbrev pub zero_at : List ℕ → Option (ℕ × List ℕ)
zero_at [] = Some (0, [])
zero_at (x ∷ rest) = Some (x, rest)

-- A test that all numbers pass, and one that none does.
abbrev pub always : ℕ → ℕ → Bool
always x y = true

abbrev pub never : ℕ → ℕ → Bool
never x y = false

-- A copied number; any number in its place; a need for nothing; and a need that cannot be met.
abbrev pub Same : ℕ → ℕ → Type 0
Same x y = y ≡ x

abbrev pub Any : ℕ → ℕ → Type 0
Any x y = Unit {0}

abbrev pub Free : ℕ → Type 0
Free x = Unit {0}

abbrev pub Costly : ℕ → Type 0
Costly x = ⊥

-- A write that ended well.
abbrev pub written : Result ℕ ℕ
written = Ok 0

abbrev pub refused : Result ℕ ℕ
refused = Err 0
