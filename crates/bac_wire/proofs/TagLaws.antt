-- Readers and writers in sequence, and those of tags: reading finds what is spelled, and writing appends the shortest
-- spelling.
use Rattle.std.proofs.Common.{[], ap, append-nil, append_assoc, arith, Bool, cond, eqb, Err, false, inl, inr, length}
use Rattle.std.proofs.Common.{length-append, List, ltb, None, Ok, Option, refl, Result, Some, subst, suc, sym, take}
use Rattle.std.proofs.Common.{take-take, take_all, take_at, true, ℕ, ◌++◌, ◌-◌, ◌<◌, ◌∙◌, ◌∷◌, ◌≡◌, ◌≤◌, ◌⊎◌}
use Rattle.std.proofs.lemmas.{Bool.{eqb-true, ltb-false, ltb-true}, List.append_cancel_right, Option.some_pair_parts}
use Rattle.std.specs.Result.{IsErr}
use Rattle.bac_wire.specs.{App, Appends, AreOctets, Begins, count_of, extended_number, FindsFront, four_at, IsReadBack}
use Rattle.bac_wire.specs.{IsReader, IsShortest, IsTag, length_at, long_length_at, low_half, plain_length, plain_number}
use Rattle.bac_wire.specs.{plain_tag, Shape, shape_at, SpellsLength, SpellsNumber, SpellsShape, SpellsTag, tag_at}
use Rattle.bac_wire.specs.{tag_number_at, two_at, ◌>>=◌, declared.tag.Tag.Tag, Inner.AppendsFront}

-- a spelling at the front, as the steps of a reader find it
abbrev pub Took : {A : Type 0} → (List ℕ → A → Type 0) → List ℕ → A → List ℕ → Type 0
Took Spells octets x rest = (front : List ℕ) × Spells front x × (octets ≡ front ++ rest)

abbrev pub found_at : {A : Type 0} → A → List ℕ → Option (A × List ℕ)
found_at x rest = Some (x, rest)

-- a spelling at the front that was read whole
pub took : {A : Type 0} (Spells : List ℕ → A → Type 0) (front : List ℕ) (x y : A) (after rest : List ℕ)
    → found_at x after ≡ found_at y rest → Spells front x → Took Spells (front ++ after) y rest
took = grind arith

-- a spelling at the front that was read as one value, and spells another
pub took_as : {A B : Type 0} (As : List ℕ → A → Type 0) (Spells : List ℕ → B → Type 0) (octets : List ℕ) (a : A)
    (x y : B) (after rest : List ℕ)
    → Took As octets a after → found_at x after ≡ found_at y rest → ((front : List ℕ) → As front a → Spells front x)
    → Took Spells octets y rest
took_as As Spells _ a x y _ _ t e to = grind (arith, took)

pub reader_of : {A : Type 0} (Spells : List ℕ → A → Type 0) (at : List ℕ → Option (A × List ℕ))
    → ((octets : List ℕ) (x : A) (rest : List ℕ) → at octets ≡ Some (x, rest) → Took Spells octets x rest)
    → ((front : List ℕ) (x : A) (rest : List ℕ) → Spells front x → at (front ++ rest) ≡ Some (x, rest))
    → IsReader Spells at
reader_of = grind arith

-- the front, found from the length of the octets after it
pub record IsFrontBefore (octets front rest : List ℕ) : Type 0 where
  pub within : length rest ≤ length octets
  pub count : length octets - length rest ≡ length front
  pub taken : take (length octets - length rest) octets ≡ front

pub take_front : (octets front rest : List ℕ) → octets ≡ front ++ rest → IsFrontBefore octets front rest
take_front = grind (arith, length-append, take_at)

-- the branch that a test took
pub chosen : {A : Type 0} (b : Bool) (x y z : A) → cond b x y ≡ z → ((b ≡ true) × (x ≡ z)) ⊎ ((b ≡ false) × (y ≡ z))
chosen true x y z e = inl (refl, e)
chosen false x y z e = inr (refl, e)

-- the result, if a test had to succeed for it
pub only_if : {A : Type 0} (b : Bool) {x : Option A} {y : A} → cond b x None ≡ Some y → (b ≡ true) × (x ≡ Some y)
only_if true e = (refl, e)
only_if false e = absurd cc

-- the result, if a test had to fail for it
pub unless : {A : Type 0} (b : Bool) {x : Option A} {y : A} → cond b None x ≡ Some y → (b ≡ false) × (x ≡ Some y)
unless true e = absurd cc
unless false e = (refl, e)

pub begins_read : {A : Type 0} (Spells : List ℕ → A → Type 0) (at : List ℕ → Option (A × List ℕ)) → IsReader Spells at
    → (octets : List ℕ) (x : A) (rest : List ℕ) → Begins Spells octets x rest → at octets ≡ found_at x rest
begins_read Spells at reader _ x _ b = ap at b.whole ∙ reader.again _ x _ b.spelled

module _ {A : Type 0} (Spells : List ℕ → A → Type 0) (at : List ℕ → Option (A × List ℕ)) (reader : IsReader Spells at)
  where
    -- no spelling begins another
    pub one_front : (a b u v : List ℕ) (x y : A) → Spells a x → Spells b y → a ++ u ≡ b ++ v → (a ≡ b) × (x ≡ y)
    one_front a b u v x y s t e =
        let (same, rests) = some_pair_parts x y u v (sym (reader.again a x u s) ∙ ap at e ∙ reader.again b y v t) in
        let line : a ++ v ≡ b ++ v = ap (λ (w : List ℕ). a ++ w) (sym rests) ∙ e in
        (append_cancel_right a b v line, same)

    -- the value that was read is spelled at the front
    pub found_front : (octets : List ℕ) (x : A) (rest : List ℕ) → found_at x rest ≡ at octets
        → (length rest ≤ length octets) × FindsFront Spells octets (Some (x, length octets - length rest))
    found_front octets x rest e =
        let taken = reader.takes _ x _ (sym e) in
        let front = take_front _ _ _ taken.whole in
        let spelled : Spells (take (length octets - length rest) octets) x = rw front.taken taken.spelled in
        let all : (other after : List ℕ) (y : A) → Spells other y → octets ≡ other ++ after → ◌≡◌ {A = Option (A × ℕ)}
        (Some (x, length octets - length rest)) (Some (y, length other)) = grind (arith, some_pair_parts, take_front) in
        (front.within, record { spelled = (omega arith, spelled); all = all })

    -- if nothing was read, nothing is spelled at the front
    pub none_front : (octets : List ℕ) → None ≡ at octets → FindsFront Spells octets None
    none_front = grind arith

-- a spelling is read back, whatever follows it
pub spelled_back : {A : Type 0} (Spells : List ℕ → A → Type 0) (front : List ℕ) (x : A) → Spells front x
    → IsReadBack Spells front x
spelled_back Spells _ x s = λ rest found finds. finds.all _ _ x s refl

-- ---- a reader finds in octets without a rest exactly what they spell; for examples

-- a value that is read from all octets is spelled by them
pub is_spelled : {A : Type 0} {Spells : List ℕ → A → Type 0} {at : List ℕ → Option (A × List ℕ)} → IsReader Spells at
    → (octets : List ℕ) (x : A) → at octets ≡ Some (x, []) → Spells octets x
is_spelled {Spells} reader octets x e =
    let begins = reader.takes octets x [] e in
    subst (λ w. Spells w x) (sym (begins.whole ∙ append-nil begins.front)) begins.spelled

-- a value that octets spell is read from them
pub is_read : {A : Type 0} {Spells : List ℕ → A → Type 0} {at : List ℕ → Option (A × List ℕ)} → IsReader Spells at
    → (octets : List ℕ) (x : A) → Spells octets x → at octets ≡ Some (x, [])
is_read {at} reader octets x s = subst (λ w. at w ≡ Some (x, [])) (append-nil octets) (reader.again octets x [] s)

-- ---- one writer after another

-- a writer that appends all or nothing meets the weaker condition too
pub front : {A E : Type 0} {old octets new : List ℕ} {r : Result A E} → Appends old octets new r
    → AppendsFront old octets new r
front = grind (arith, length-append, take_at, take_all)

-- a second writer appends after the first
pub then_appends : {A B E F : Type 0} {old first mid second new : List ℕ} {x : A} {r : Result B F}
    → AppendsFront {E = E} old first mid (Ok x) → AppendsFront mid second new r
    → AppendsFront old (first ++ second) new r
then_appends = grind (arith, length-append, append_assoc, take-take)

-- if the first writer has no room, there is none for both
pub stops : {A B E F : Type 0} {old first new : List ℕ} {e : E} {r : Result B F} (second : List ℕ) → IsErr r
    → AppendsFront {A = A} old first new (Err e) → AppendsFront old (first ++ second) new r
stops = grind (arith, length-append)

pub stops_whole : {A B E F : Type 0} {old first new : List ℕ} {e : E} {r : Result B F} (second : List ℕ) → IsErr r
    → Appends {A = A} old first new (Err e) → Appends old (first ++ second) new r
stops_whole = grind (arith, length-append)

-- the same octets, written in another way
pub written_as : {A E : Type 0} {old octets other new : List ℕ} {r : Result A E} → octets ≡ other
    → AppendsFront old octets new r → AppendsFront old other new r
written_as {old} {new} {r} = subst (λ (l : List ℕ). AppendsFront _ l _ r)

-- the rules for one part after another, each of which has room or stops
pub ruleset in_parts = (front, then_appends, stops, stops_whole, append-nil)

-- ---- a spelling is read

number_again : (high : ℕ) (front : List ℕ) (n : ℕ) (rest : List ℕ) → SpellsNumber high front n
    → tag_number_at high (front ++ rest) ≡ Some (n, rest)
unfolding tag_number_at
number_again = grind arith

length_again : (low : ℕ) (front : List ℕ) (n : ℕ) (rest : List ℕ) → SpellsLength low front n
    → length_at low (front ++ rest) ≡ Some (n, rest)
unfolding length_at long_length_at
length_again = grind arith

low_small : (low : ℕ) (front : List ℕ) (n : ℕ) → SpellsLength low front n → low < 6
low_small = grind arith

shape_again : (low : ℕ) (front : List ℕ) (shape : Shape) (rest : List ℕ) → SpellsShape low front shape
    → shape_at low (front ++ rest) ≡ Some (shape, rest)
unfolding shape_at
shape_again = grind (arith, low_small, length_again)

tag_again : (front : List ℕ) (tag : Tag) (rest : List ℕ) → SpellsTag front tag
    → tag_at (front ++ rest) ≡ Some (tag, rest)
unfolding tag_at
tag_again = grind (arith, number_again, shape_again, append_assoc)

-- ---- the result of reading is spelled

pub bind_some : {A B : Type 0} (r : Option A) (f : A → Option B) (y : B) → (r >>= f) ≡ Some y → (x : A) × (r ≡ Some x)
    × (f x ≡ Some y)
bind_some None f y e = cc
bind_some (Some x) f y e = search

next_takes : (high : ℕ) (octets : List ℕ) (n : ℕ) (rest : List ℕ) → high ≡ 15 → extended_number octets ≡ found_at n rest
    → Took (SpellsNumber high) octets n rest
next_takes _ [] n _ is e = cc
next_takes _ (octet ∷ octets) n _ is e =
    let (below, found) = only_if _ e in
    took (SpellsNumber _) (octet ∷ []) _ n _ _ found (is, ltb-true _ 255 below, refl)

number_takes : (high : ℕ) (octets : List ℕ) (n : ℕ) (rest : List ℕ) → tag_number_at high octets ≡ found_at n rest
    → Took (SpellsNumber high) octets n rest
unfolding tag_number_at
number_takes = grind (arith, took, only_if, next_takes, eqb-true)

two_takes : (a : ℕ) (octets : List ℕ) (n : ℕ) (rest : List ℕ) → a ≡ 254 → two_at octets ≡ found_at n rest
    → Took (SpellsLength 5) (a ∷ octets) n rest
two_takes a (b ∷ c ∷ octets) n _ is e = took (SpellsLength 5) (a ∷ b ∷ c ∷ []) _ n _ _ e (refl, is, refl)
two_takes a _ n _ is e = cc

four_takes : (a : ℕ) (octets : List ℕ) (n : ℕ) (rest : List ℕ) → a ≡ 255 → four_at octets ≡ found_at n rest
    → Took (SpellsLength 5) (a ∷ octets) n rest
four_takes a (b ∷ c ∷ d ∷ f ∷ octets) n _ is e =
    took (SpellsLength 5) (a ∷ b ∷ c ∷ d ∷ f ∷ []) _ n _ _ e (refl, is, refl)
four_takes a _ n _ is e = cc

long_length_takes : (octets : List ℕ) (n : ℕ) (rest : List ℕ) → long_length_at octets ≡ found_at n rest
    → Took (SpellsLength 5) octets n rest
unfolding long_length_at
long_length_takes [] n _ e = cc
long_length_takes (a ∷ octets) n _ e =
    elim (chosen (ltb a 254) _ _ _ e) [
      | inl (low, one) ↦ took (SpellsLength 5) (a ∷ []) a n _ _ one (refl, ltb-true a 254 low, refl)
      | inr (_, more) ↦ elim (chosen (eqb a 254) _ _ _ more) [
        | inl (is, two) ↦ two_takes a _ n _ (eqb-true a 254 is) two
        | inr (_, most) ↦ let (is, four) = only_if _ most in four_takes a _ n _ (eqb-true a 255 is) four
      ]
    ]

length_takes : (low : ℕ) (octets : List ℕ) (n : ℕ) (rest : List ℕ) → length_at low octets ≡ found_at n rest
    → Took (SpellsLength low) octets n rest
unfolding length_at
length_takes = grind (arith, took, only_if, eqb-true, long_length_takes)

shape_takes : (low : ℕ) (octets : List ℕ) (shape : Shape) (rest : List ℕ) → shape_at low octets ≡ found_at shape rest
    → Took (SpellsShape low) octets shape rest
unfolding shape_at
shape_takes low _ shape rest e =
    elim (chosen (ltb low 8) _ _ _ e) [
      | inl (_, app) ↦
          let (_, read, made) = bind_some _ _ (shape, rest) app in
          took_as (SpellsLength _) (SpellsShape _) _ _ _ _ _ _ (length_takes _ _ _ _ read) made (search)
      | inr (high, more) ↦ elim (chosen (eqb low 14) _ _ _ more) [
        | inl (is, opening) ↦ took (SpellsShape _) [] _ _ _ _ opening (eqb-true _ 14 is, refl)
        | inr (_, most) ↦ elim (chosen (eqb low 15) _ _ _ most) [
          | inl (is, closing) ↦ took (SpellsShape _) [] _ _ _ _ closing (eqb-true _ 15 is, refl)
          | inr (_, context) ↦
              let (_, read, made) = bind_some _ _ (shape, rest) context in
              let taken = length_takes _ _ _ _ read in
              took_as (SpellsLength _) (SpellsShape _) _ _ _ _ _ _ taken made (λ front s. (ltb-false _ 8 high, s))
        ]
      ]
    ]

abbrev tag_of : ℕ → Shape → Tag
tag_of number shape = record { number = number; shape = shape }

tag_takes : (octets : List ℕ) (tag : Tag) (rest : List ℕ) → tag_at octets ≡ found_at tag rest
    → Took SpellsTag octets tag rest
unfolding tag_at
tag_takes [] _ _ e = cc
tag_takes (initial ∷ octets) tag rest e =
    let ((number, behind), number_read, more) = bind_some _ _ _ e in
    let ((shape, after), shape_read, made) = bind_some _ _ _ more in
    let (number_octets, number_is, behind_number) = number_takes _ _ _ _ number_read in
    let (length_octets, shape_is, behind_length) = shape_takes _ _ _ _ shape_read in
    let front : List ℕ = initial ∷ (number_octets ++ length_octets) in
    let line : initial ∷ octets ≡ front ++ after = grind (arith, append_assoc) in
    let spelled : SpellsTag front (tag_of number shape) =
    record {
      initial = initial;
      number_octets = number_octets;
      length_octets = length_octets;
      whole = refl;
      number = number_is;
      shape = shape_is;
    } in
    rw line (took SpellsTag front _ tag _ rest made spelled)

pub tag_reader : IsReader SpellsTag tag_at
tag_reader = reader_of _ _ tag_takes tag_again

-- octets spell the tag that is read from all of them
pub tag_spelled : (octets : List ℕ) (tag : Tag) → tag_at octets ≡ Some (tag, []) → SpellsTag octets tag
tag_spelled = is_spelled tag_reader

-- no spelling of a tag begins another
pub one_tag : (a b u v : List ℕ) (x y : Tag) → SpellsTag a x → SpellsTag b y → a ++ u ≡ b ++ v → (a ≡ b) × (x ≡ y)
one_tag = one_front _ _ tag_reader

-- ---- the plain spelling

-- a property of each branch of a test, if the branch is taken
by_test : {A : Type 0} (P : A → Type 0) (m n : ℕ) {x y : A} → (m < n → P x) → (n ≤ m → P y) → P (cond (ltb m n) x y)
by_test = grind (arith, ltb-true)

low_half_below : (shape : Shape) → low_half shape < 16
low_half_below (App n) = omega arith
low_half_below _ = omega arith

pub plain_tag_spells : (tag : Tag) → IsTag tag → SpellsTag (plain_tag tag) tag
unfolding plain_tag
plain_tag_spells = grind (arith, low_half_below, by_test)

-- ---- no spelling is shorter

number_least : (high : ℕ) (octets : List ℕ) (n : ℕ) → SpellsNumber high octets n
    → length (plain_number n) ≤ length octets
number_least = grind arith

length_least : (low : ℕ) (octets : List ℕ) (n : ℕ) → AreOctets octets → SpellsLength low octets n
    → length (plain_length n) ≤ length octets
length_least _ octets n fit s = let first = fit 1 in let second = fit 2 in grind arith

shape_least : (low : ℕ) (octets : List ℕ) (shape : Shape) → AreOctets octets → SpellsShape low octets shape
    → length (plain_length (count_of shape)) ≤ length octets
shape_least = grind (arith, length_least)

pub behind : (front rest : List ℕ) → AreOctets (front ++ rest) → AreOctets rest
behind [] _ fit = fit
behind (a ∷ front) _ fit = behind front _ (λ i. fit (suc i))

pub tag_least : (octets : List ℕ) (tag : Tag) → AreOctets octets → SpellsTag octets tag
    → length (plain_tag tag) ≤ length octets
unfolding plain_tag
tag_least _ tag fit s =
    let number = number_least _ _ _ s.number in
    let later : AreOctets s.length_octets = behind (s.initial ∷ s.number_octets) _ (subst AreOctets s.whole fit) in
    let shape = shape_least _ _ _ later s.shape in
    grind (arith, shape, s.whole, length-append)

pub plain_tag_shortest : (tag : Tag) → IsTag tag → IsShortest SpellsTag (plain_tag tag) tag
plain_tag_shortest _ fits = grind (arith, plain_tag_spells, tag_least)
