-- Items, and regions: lists of whole items, which are the contents of a parameter of any type (ANSI/ASHRAE 135,
-- 20.2.1.3.2, 20.2.19).
use Rattle.std.specs.Prelude.{[], IfSome, if◌then◌else◌, length, List, Option, Some, suc, take, zero, ℕ, ◌++◌, ◌==◌}
use Rattle.std.specs.Prelude.{◌≡◌, ◌≤◌, ◌⊎◌}
use Rattle.bac_wire.specs.declared.tag.{Shape.{Shape, TheVariants.{App, Closing, Context, Opening}}, Tag.Tag}
use Rattle.bac_wire.specs.{Front.Begins, Limits.deepest, Tag.SpellsTag}

-- The opening tag with this number, which begins constructed data.
abbrev pub opening_tag : ℕ → Tag
opening_tag number = record { number = number; shape = Opening }

-- The closing tag with this number, which ends constructed data.
abbrev pub closing_tag : ℕ → Tag
closing_tag number = record { number = number; shape = Closing }

-- How many octets of contents a tag with this number and shape has: an application Boolean has none.
abbrev pub Counts : ℕ → Shape → ℕ → Type 0
Counts number (App n) count = count ≡ (if number == 1 then 0 else n)
Counts number (Context n) count = count ≡ n
Counts number _ count = ⊥

-- Primitive data: a tag and its contents.
pub record IsPrimitive (octets : List ℕ) : Type 0 where
  pub tag : Tag
  pub contents : List ℕ
  pub tagged : Begins SpellsTag octets tag contents
  pub counted : Counts tag.number tag.shape (length contents)

-- Any number of these parts, one after the other.
pub data IsSequence (Part : List ℕ → Type 0) : List ℕ → Type 0 where
  none : IsSequence Part []
  more : {first rest : List ℕ} → Part first → IsSequence Part rest → IsSequence Part (first ++ rest)

-- Constructed data: an opening tag with this number, the sequence inside, and the closing tag with this number.
pub record IsBracketed (Part : List ℕ → Type 0) (number : ℕ) (octets inside : List ℕ) : Type 0 where
  pub closing : List ℕ
  pub opened : Begins SpellsTag octets (opening_tag number) (inside ++ closing)
  pub parts : IsSequence Part inside
  pub closed : SpellsTag closing (closing_tag number)

-- An item with at most this many opening tags open at once.
abbrev pub IsItem : ℕ → List ℕ → Type 0
IsItem zero octets = IsPrimitive octets
IsItem (suc depth) octets = IsPrimitive octets
    ⊎ ((number : ℕ) × (inside : List ℕ) × IsBracketed (IsItem depth) number octets inside)

-- Whole items, the empty list included.
abbrev pub IsRegion : ℕ → List ℕ → Type 0
IsRegion depth octets = IsSequence (IsItem depth) octets

-- ---- the octets after the items at the front

-- The octets are empty, or begin with a closing tag.
abbrev pub HasEnded : List ℕ → Type 0
HasEnded octets = (octets ≡ []) ⊎ ((number : ℕ) × (rest : List ℕ) × Begins SpellsTag octets (closing_tag number) rest)

-- The octets are whole items, and then this rest, which is empty or begins with a closing tag.
pub record LeavesRest (depth : ℕ) (octets rest : List ℕ) : Type 0 where
  pub front : List ℕ
  pub region : IsRegion depth front
  pub whole : octets ≡ front ++ rest
  pub ended : HasEnded rest

-- The octets begin with this front, which is whole items, and a closing tag with this number follows.
pub record IsClosedRegion (depth number : ℕ) (octets front : List ℕ) : Type 0 where
  pub behind : List ℕ
  pub rest : List ℕ
  pub region : IsRegion depth front
  pub whole : octets ≡ front ++ behind
  pub closed : Begins SpellsTag behind (closing_tag number) rest

-- The size that was found is that of a region before a closing tag with this number. If there is such a region, its
-- size is found.
pub record FindsRegion (depth number : ℕ) (octets : List ℕ) (size : Option ℕ) : Type 0 where
  pub within : IfSome size (λ k. k ≤ length octets)
  pub found : IfSome size (λ k. IsClosedRegion depth number octets (take k octets))
  pub all : (front : List ℕ) → IsClosedRegion depth number octets front → size ≡ Some (length front)

-- The whole list: a region, and the closing tag with this number.
pub record SpellsClosed (number : ℕ) (octets region : List ℕ) : Type 0 where
  pub closing : List ℕ
  pub whole : octets ≡ region ++ closing
  pub items : IsRegion deepest region
  pub closed : SpellsTag closing (closing_tag number)

-- The beginning of a list in which this many opening tags are open: whole items, and opening tags whose closing tags
-- are still to come.
pub data Opens : ℕ → List ℕ → Type 0 where
  here : Opens 0 []
  past : {count : ℕ} {rest : List ℕ} (depth : ℕ) (item : List ℕ) → IsItem depth item → Opens count rest
      → Opens count (item ++ rest)
  into : {count : ℕ} {opening rest : List ℕ} (number : ℕ) → SpellsTag opening (opening_tag number) → Opens count rest
      → Opens (suc count) (opening ++ rest)
