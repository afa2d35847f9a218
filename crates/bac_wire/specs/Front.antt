-- Spellings at the front of a list of octets.
use Rattle.std.specs.Prelude.{◌≡◌, ℕ, ◌≤◌, ◌<◌, slice_index, List, [], ◌∷◌, ◌++◌, length, take, Option, Some, IfSome}

-- A reader's result is spelled at the front, and a spelling at the front is found.
pub record FindsFront {A : Type 0} (Spells : List ℕ → A → Type 0) (octets : List ℕ) (found : Option (A × ℕ))
    : Type 0 where
  pub spelled : IfSome found (λ (x, count). (count ≤ length octets) × Spells (take count octets) x)
  pub all : (front rest : List ℕ) (x : A) → Spells front x → octets ≡ front ++ rest → found ≡ Some (x, length front)

-- The octets begin with a spelling of this value, and this rest follows.
pub record Begins {A : Type 0} (Spells : List ℕ → A → Type 0) (octets : List ℕ) (x : A) (rest : List ℕ) : Type 0 where
  pub front : List ℕ
  pub spelled : Spells front x
  pub whole : octets ≡ front ++ rest

-- The octets are spellings of these values, one after the other, and then this rest.
abbrev pub SpellsTo : {A : Type 0} → (List ℕ → A → Type 0) → List ℕ → List A → List ℕ → Type 0
SpellsTo Spells octets [] rest = octets ≡ rest
SpellsTo Spells octets (x ∷ xs) rest = (next : List ℕ) × Begins Spells octets x next × SpellsTo Spells next xs rest

-- The octets are spellings of these values, one after the other, and nothing else.
abbrev pub SpellsAll : {A : Type 0} → (List ℕ → A → Type 0) → List ℕ → List A → Type 0
SpellsAll Spells octets xs = SpellsTo Spells octets xs []

-- A function that reads from left to right: it accepts exactly the spellings at the front, whatever follows.
pub record IsReader {A : Type 0} (Spells : List ℕ → A → Type 0) (at : List ℕ → Option (A × List ℕ)) : Type 0 where
  pub takes : (octets : List ℕ) (x : A) (rest : List ℕ) → at octets ≡ Some (x, rest) → Begins Spells octets x rest
  pub again : (front : List ℕ) (x : A) (rest : List ℕ) → Spells front x → at (front ++ rest) ≡ Some (x, rest)

-- Each number of the list is an octet.
abbrev pub AreOctets : List ℕ → Type 0
AreOctets octets = (i : ℕ) → slice_index octets i < 256

-- No spelling begins another, and a list of octets spells at most one value.
abbrev pub IsPrefixFree : {A : Type 0} → (List ℕ → A → Type 0) → Type 0
IsPrefixFree {A} Spells = (a b u v : List ℕ) (x y : A) → Spells a x → Spells b y → a ++ u ≡ b ++ v → (a ≡ b) × (x ≡ y)

-- This is a spelling of the value, and no other has fewer octets.
pub record IsShortest {A : Type 0} (Spells : List ℕ → A → Type 0) (plain : List ℕ) (x : A) : Type 0 where
  pub spelled : Spells plain x
  pub shortest : (other : List ℕ) → AreOctets other → Spells other x → length plain ≤ length other

-- Whatever follows these octets, a reader finds this value at the front, with these octets as its spelling.
abbrev pub IsReadBack : {A : Type 0} → (List ℕ → A → Type 0) → List ℕ → A → Type 0
IsReadBack {A} Spells plain x = (rest : List ℕ) (found : Option (A × ℕ)) → FindsFront Spells (plain ++ rest) found
    → found ≡ Some (x, length plain)
