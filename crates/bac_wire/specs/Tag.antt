-- The spellings of a tag: an initial octet, perhaps a number octet, perhaps length octets (ANSI/ASHRAE 135, 20.2.1).
use Rattle.std.specs.Prelude.{[], if◌then◌else◌, List, min, nat_lt, ℕ, ◌%◌, ◌*◌, ◌++◌, ◌+◌, ◌-◌, ◌/◌, ◌<◌, ◌^◌, ◌∷◌}
use Rattle.std.specs.Prelude.{◌≡◌, ◌≤◌}
use Rattle.byteorder.specs.Endian.{big_bytes, big_number}
use Rattle.bac_wire.specs.declared.tag.{Shape.{Shape, TheVariants.{App, Closing, Context, Opening}}, Tag.Tag}

-- The number (20.2.1.2): up to 14 it is the high half of the initial octet; if that is 15, it is the next octet, up to
-- 254.
abbrev pub SpellsNumber : ℕ → List ℕ → ℕ → Type 0
SpellsNumber high [] number = (high < 15) × (number ≡ high)
SpellsNumber high (octet ∷ []) number = (high ≡ 15) × (octet < 255) × (number ≡ octet)
SpellsNumber high (_ ∷ _ ∷ _) number = ⊥

-- The length (20.2.1.3.1): up to 4 it is the low bits of the initial octet. If these are 5, it is in the octets after
-- the number: one up to 253, or two after 254, or four after 255, the high octet first. A longer form than needed is a
-- spelling too.
abbrev pub SpellsLength : ℕ → List ℕ → ℕ → Type 0
SpellsLength low [] n = (low < 5) × (n ≡ low)
SpellsLength low (a ∷ []) n = (low ≡ 5) × (a < 254) × (n ≡ a)
SpellsLength low (a ∷ b ∷ c ∷ []) n = (low ≡ 5) × (a ≡ 254) × (n ≡ big_number 2 (b ∷ c ∷ []))
SpellsLength low (a ∷ b ∷ c ∷ d ∷ e ∷ []) n = (low ≡ 5) × (a ≡ 255) × (n ≡ big_number 4 (b ∷ c ∷ d ∷ e ∷ []))
SpellsLength low _ n = ⊥

-- The low half of the initial octet (20.2.1.1, 20.2.1.3): its highest bit, 8, means the context class, and the bits
-- below are the length; 14 is an opening tag, and 15 a closing one.
abbrev pub SpellsShape : ℕ → List ℕ → Shape → Type 0
SpellsShape low octets (App n) = SpellsLength low octets n
SpellsShape low octets (Context n) = (8 ≤ low) × SpellsLength (low - 8) octets n
SpellsShape low octets Opening = (low ≡ 14) × (octets ≡ [])
SpellsShape low octets Closing = (low ≡ 15) × (octets ≡ [])

-- An initial octet, the number octet if its high half is 15, and the length octets if its low bits are 5.
pub record SpellsTag (octets : List ℕ) (tag : Tag) : Type 0 where
  pub initial : ℕ
  pub number_octets : List ℕ
  pub length_octets : List ℕ
  pub whole : octets ≡ initial ∷ (number_octets ++ length_octets)
  pub number : SpellsNumber (initial / 16) number_octets tag.number
  pub shape : SpellsShape (initial % 16) length_octets tag.shape

-- The second number in a tag: a length, or the value of a Boolean; 0 for a bracket.
abbrev pub count_of : Shape → ℕ
count_of (App n) = n
count_of (Context n) = n
count_of _ = 0

-- The tags that have a spelling: their number is below 255, and their length fits four octets.
pub record IsTag (tag : Tag) : Type 0 where
  pub number : tag.number < 255
  pub count : count_of tag.shape < 2 ^ 32

-- ---- the shortest spelling

-- The octet of the tag's number, if the number is above 14.
abbrev pub plain_number : ℕ → List ℕ
plain_number number = if nat_lt number 15 then [] else number ∷ []

-- The length octets: none for a length up to 4, one up to 253, three up to 65,535, otherwise five.
abbrev pub plain_length : ℕ → List ℕ
plain_length n =
    if nat_lt n 5 then []
    else if nat_lt n 254 then n ∷ []
    else if nat_lt n 65536 then 254 ∷ big_bytes 2 n
    else 255 ∷ big_bytes 4 n

-- The low half of the initial octet: the class bit, and the length or the bracket.
abbrev pub low_half : Shape → ℕ
low_half (App n) = min n 5
low_half (Context n) = 8 + min n 5
low_half Opening = 14
low_half Closing = 15

-- The spelling that is written for a tag. A bracket has no length octets, like the length 0.
unfoldable pub plain_tag : Tag → List ℕ
plain_tag tag =
    (16 * min tag.number 15 + low_half tag.shape) ∷ (plain_number tag.number ++ plain_length (count_of tag.shape))
