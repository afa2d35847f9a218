-- Values: reading finds the spelled value, writing appends the shortest spelling; and the values of a region.
use Rattle.std.proofs.Common.{[], ap, append-nil, append_assoc, arith, Bool, cond, drop, drop_at, eqb, FitsSigned}
use Rattle.std.proofs.Common.{get_or, inl, inr, length, length-append, length-take-le, List, ltb, map, negsuc, None}
use Rattle.std.proofs.Common.{Option, option_map, pos, refl, slice_index_or, Some, subst, suc, sym, take, take-add}
use Rattle.std.proofs.Common.{take-append-drop, take-take, take_at, zero, ℕ, ℤ, ◌%◌, ◌*◌, ◌++◌, ◌+◌, ◌-◌, ◌<◌, ◌^◌, ◌↔◌}
use Rattle.std.proofs.Common.{◌∙◌, ◌∷◌, ◌≡◌, ◌≤◌}
use Rattle.std.proofs.lemmas.Bool.{eq-eqb, eqb-false, eqb-true, le-ltb, lt-ltb, ltb-false, Decides.nat_tests}
use Rattle.std.proofs.lemmas.{Grind.common_steps, Int.ints, List.{nil_from_length, FromFn.get_or-map-range_with_len}}
use Rattle.std.proofs.lemmas.{Option.{none-some, same_Some, some_pair_parts}, Simd.take_more_put_chunk}
use Rattle.std.{proofs.Math.Seq.take-append_seam, specs.{Int.w64, List.range_with_len}}
use Rattle.byteorder.{proofs.Bytes.pow256, specs.Endian.{big_bytes, big_number, low_bytes, twos_complement}}
use Rattle.byteorder.specs.Numbers.{big_from-lt, big_number-reads_back, length-bytes_high_first}
use Rattle.bac_wire.proofs.TagLaws.{begins_read, behind, bind_some, chosen, found_at, is_spelled, one_front}
use Rattle.bac_wire.proofs.TagLaws.{plain_tag_spells, reader_of, tag_least, tag_reader, Took, unless}
use Rattle.bac_wire.specs.{App, AreOctets, behind_at, bit_string, bits_of, boolean, boolean_of, chars_of, contents_of}
use Rattle.bac_wire.specs.{exactly, identifier_of, InRange, IsDatum, IsReader, IsShortest, IsSound, number_of}
use Rattle.bac_wire.specs.{number_within, object, octet_count, plain, plain_contents, plain_tag, Shape, shape_number}
use Rattle.bac_wire.specs.{signed, signed_count, Spells, SpellsAll, SpellsTag, StandsFor, tag_before, tag_number}
use Rattle.bac_wire.specs.{value_at, values_of, values_within, with_shape, ◌>>=◌, Datum.Datum, Identifier.Identifier}
use Rattle.bac_wire.specs.{Inner.tagged}
use lib.Lanes.{chunk, put_chunk}

-- Functions with the same values below this number.
pub same_below : {X : Type 0} (d : X) (f g : ℕ → X) (k n : ℕ) → map f (range_with_len 0 k) ≡ map g (range_with_len 0 k)
    → n < k → f n ≡ g n
same_below {X} d f g k n e h =
    sym (get_or-map-range_with_len f 0 k n n d h (omega arith)) ∙ ap (λ (xs : List X). get_or xs n d) e
    ∙ get_or-map-range_with_len g 0 k n n d h (omega arith)

-- One more piece of a part that is read and written piece by piece; the piece may begin before the end of the last one.
module _ (f : List ℕ → List ℕ) (xs ys : List ℕ) (i j n k l m : ℕ) (before : i ≤ j) (below : k ≤ l)
    (apart : (more : List ℕ) → f (take i xs ++ more) ≡ f (take i xs) ++ f more)
    (size : length (f (take i xs)) ≡ k) (long : length (f (chunk i n xs)) ≡ m)
    (room : k + m ≤ length ys) (written : take l ys ≡ f (take j xs)) where
  front : take k ys ≡ f (take i xs)
  front =
      let more = drop i (take j xs) in
      let parts = sym (take-append-drop i (take j xs)) ∙ ap (λ (zs : List ℕ). zs ++ more) (take-take i j xs before) in
      sym (take-take k l ys below) ∙ ap (take k) (written ∙ ap f parts ∙ apart more)
      ∙ ap (λ (h : ℕ). take h (f (take i xs) ++ f more)) (sym size) ∙ take-append_seam (f (take i xs)) (f more)

  pub one_more : take (k + m) (put_chunk k ys (f (chunk i n xs))) ≡ f (take (i + n) xs)
  one_more = grind (arith, take_more_put_chunk, front, take-add)

-- ---- the shortest spelling of a value is a spelling, and no spelling has fewer octets

-- the fewest octets of a number, case by case
abbrev pub count_by_cases : ℕ → ℕ
count_by_cases n =
    cond (ltb n (256 ^ 1)) 1 (cond (ltb n (256 ^ 2)) 2 (cond (ltb n (256 ^ 3)) 3 (cond (ltb n (256 ^ 4)) 4
    (cond (ltb n (256 ^ 5)) 5 (cond (ltb n (256 ^ 6)) 6 (cond (ltb n (256 ^ 7)) 7 8))))))

pub count_is : (n : ℕ) → octet_count n ≡ count_by_cases n
count_is = grind arith

pub count_low : (n : ℕ) → 1 ≤ octet_count n
count_low n = grind (arith, count_is, common_steps)

pub cases_high : (n : ℕ) → count_by_cases n ≤ 8
cases_high = grind arith

pub count_high : (n : ℕ) → octet_count n ≤ 8
count_high n = grind (arith, count_is, cases_high)

pub count_fits : (n : ℕ) → n < 2 ^ 64 → n < 256 ^ octet_count n
count_fits = grind arith

pub count_four : (n : ℕ) → n < 2 ^ 32 → octet_count n ≤ 4
count_four = grind arith

-- a number is recovered from its octets
pub number_back : (k n : ℕ) → n < 256 ^ k → n ≡ big_number (length (big_bytes k n)) (big_bytes k n)
number_back k n fits =
    rw (length-bytes_high_first k n) (sym (ap (big_number k) (sym (append-nil _)) ∙ big_number-reads_back k n [] fits))

-- The first octets of a list that begins with the octets of a number are these octets.
pub bytes_taken : (k n : ℕ) (rest : List ℕ) → take k (big_bytes k n ++ rest) ++ [] ≡ big_bytes k n
bytes_taken k n _ = append-nil _ ∙ take_at _ _ k (length-bytes_high_first k n)

-- ---- two's complement

not_negative : (k n : ℕ) → n < 2 ^ (8 * k - 1) → n % 2 ^ (8 * k) ≡ n → twos_complement k (n % 2 ^ (8 * k)) ≡ pos n
not_negative = grind (arith, lt-ltb)

negative : (k n x : ℕ) → x ≡ 2 ^ (8 * k) - suc n → 2 ^ (8 * k - 1) ≤ x → suc n ≤ 2 ^ (8 * k)
    → twos_complement k x ≡ negsuc n
negative k n x e high fits = grind (arith, le-ltb, ints)

signed_back : (k n : ℕ) → 1 ≤ k → k ≤ 8 → 2 * n < 256 ^ k → (twos_complement k (low_bytes w64 k (pos n)) ≡ pos n)
    × (twos_complement k (low_bytes w64 k (negsuc n)) ≡ negsuc n)
signed_back (suc (suc (suc (suc (suc (suc (suc (suc zero)))))))) n low high fits =
    grind (arith, not_negative, negative, ints)
signed_back k n low high fits = grind (arith, not_negative, negative, ints)

low_bytes_fit : (k : ℕ) (z : ℤ) → 1 ≤ k → k ≤ 8 → low_bytes w64 k z < 256 ^ k
low_bytes_fit (suc (suc (suc (suc (suc (suc (suc (suc zero)))))))) z low high = omega arith
low_bytes_fit k z low high = omega arith

signed_parts : (k : ℕ) (z : ℤ) → 1 ≤ k → k ≤ 8 → z ≡ twos_complement k (low_bytes w64 k z)
    → StandsFor (big_bytes k (low_bytes w64 k z)) (signed z)
signed_parts k z low high e =
    let x : ℕ = low_bytes w64 k z in
    let long = length-bytes_high_first k x in (
      rw long low,
      rw long high,
      grind (arith, number_back, low_bytes_fit),
    )

signed_holds : (z : ℤ) → FitsSigned w64 z → StandsFor (plain_contents (signed z)) (signed z)
signed_holds (pos n) h =
    let k : ℕ = octet_count (2 * n) in
    signed_parts k _ (count_low (2 * n)) (count_high (2 * n))
    (grind (arith, signed_back, count_low, count_high, count_fits))
signed_holds (negsuc n) h =
    let k : ℕ = octet_count (2 * n) in
    let (_, back) = signed_back k n (count_low (2 * n)) (count_high (2 * n)) (count_fits _ (omega arith)) in
    signed_parts k _ (count_low (2 * n)) (count_high (2 * n)) (sym back)

-- ---- the contents

plain_holds : (value : Datum) → InRange value → StandsFor (plain_contents value) value
plain_holds = grind (arith, count_low, number_back, count_fits, signed_holds, count_four)

pub plain_spells : (value : Datum) → IsDatum value → Spells (plain value) value
unfolding plain
plain_spells = grind (arith, plain_tag_spells, plain_holds)

-- a tag with a number below 15 and a count below 5 is one octet
pub short_tagged : (number : ℕ) (contents : List ℕ) → number < 15 → length contents < 5
    → tagged number contents ≡ (16 * number + length contents) ∷ contents
unfolding tagged plain_tag
short_tagged = grind arith

-- a tag of four octets of contents, and these
pub four_tagged : (number : ℕ) (contents : List ℕ) → number < 15 → length contents ≡ 4
    → (16 * number + 4) ∷ slice_index_or contents 0 0 ∷ slice_index_or contents 1 0 ∷ slice_index_or contents 2 0
    ∷ slice_index_or contents 3 0 ∷ [] ≡ tagged number contents
four_tagged = grind (arith, common_steps, short_tagged)

-- the tag of a number in one octet, and the number
pub one_tagged : (number n : ℕ) → number < 15 → n < 256
    → tagged number (big_bytes (octet_count n) n) ≡ (16 * number + 1) ∷ n ∷ []
one_tagged = grind (arith, short_tagged)

-- ---- the fewest octets of a number

cases_least : (k n : ℕ) → 1 ≤ k → n < 256 ^ k → count_by_cases n ≤ k
cases_least (suc (suc (suc (suc (suc (suc (suc (suc zero)))))))) n _ _ = cases_high n
cases_least k n low fits = grind (arith, cases_high)

pub octet_count_least : (k n : ℕ) → 1 ≤ k → n < 256 ^ k → octet_count n ≤ k
octet_count_least k n low fits = grind (arith, count_is, cases_least)

-- half a power of 256 is that power less one bit
half_octets : (k : ℕ) → 1 ≤ k → 2 * 2 ^ (8 * k - 1) ≡ 256 ^ k
half_octets = grind (arith, common_steps, pow256)

signed_count_least : (k x : ℕ) (z : ℤ) → 1 ≤ k → x < 256 ^ k → z ≡ twos_complement k x → signed_count z ≤ k
signed_count_least k x z low fits e = grind (arith, half_octets, pow256, octet_count_least, le-ltb)

-- ---- the fewest octets of contents

unsigned_least : (contents : List ℕ) (n : ℕ) → AreOctets contents → 1 ≤ length contents
    → n ≡ big_number (length contents) contents → length (big_bytes (octet_count n) n) ≤ length contents
unsigned_least contents n fit low e =
    let fits : n < 256 ^ length contents = rw e (big_from-lt 0 _ _ fit) in
    rw (length-bytes_high_first _ n) (octet_count_least _ n low fits)

contents_least : (contents : List ℕ) (value : Datum) → AreOctets contents → StandsFor contents value
    → length (plain_contents value) ≤ length contents
contents_least = grind (arith, unsigned_least, length-bytes_high_first, signed_count_least, big_from-lt)

-- ---- the tag before them

tag_grows : (number m n : ℕ) → m ≤ n → length (plain_tag (record { number = number; shape = App m })) ≤ length
    (plain_tag (record { number = number; shape = App n }))
unfolding plain_tag
tag_grows = grind (arith, length-append)

shape_number_grows : (value : Datum) (m n : ℕ) → m ≤ n → shape_number value m ≤ shape_number value n
shape_number_grows (boolean b) m n le = omega arith
shape_number_grows _ m n le = le

-- ---- the whole

pub ahead : (front rest : List ℕ) → AreOctets (front ++ rest) → AreOctets front
ahead [] _ fit = λ i. omega arith
ahead (x ∷ front) _ fit = elim [ zero ↦ fit zero | suc i ↦ ahead front _ (λ j. fit (suc j)) i ]

value_least : (other : List ℕ) (value : Datum) → AreOctets other → Spells other value
    → length (plain value) ≤ length other
unfolding plain
value_least _ value fit s =
    let t = s.tagged in
    let fits : AreOctets (t.front ++ s.contents) = subst AreOctets t.whole fit in
    let contents = contents_least _ _ (behind _ _ fits) s.held in
    let tag = tag_least _ _ (ahead _ _ fits) t.spelled in
    let count = shape_number_grows value _ _ contents in
    let grows = tag_grows (tag_number value) _ _ count in
    grind (arith, length-append)

pub plain_shortest : (value : Datum) → IsDatum value → IsShortest Spells (plain value) value
plain_shortest _ h = grind (arith, plain_spells, value_least)

-- a value whose octets fit a frame has a spelling
pub written_datum : (value : Datum) (before : ℕ) → InRange value → before + length (plain value) ≤ 1497 → IsDatum value
unfolding plain
written_datum = grind (arith, length-append)

-- ---- the contents of a value are read back

pub within_again : (most : ℕ) (contents : List ℕ) → 1 ≤ length contents → length contents ≤ most
    → number_within most contents ≡ Some (big_number (length contents) contents)
within_again _ _ low high = grind (arith, lt-ltb, le-ltb)

pub same_identifier : (n : ℕ) (id : Identifier) → id.instance < 2 ^ 22 → n ≡ number_of id → identifier_of n ≡ id
same_identifier = grind arith

bits_again : (contents : List ℕ) (unused : ℕ) (x : List ℕ) → StandsFor contents (bit_string unused x)
    → bits_of contents ≡ Some (bit_string unused x)
bits_again = grind arith

contents_again : (contents : List ℕ) (value : Datum) → (tag_number value ≡ 1 → ⊥) → StandsFor contents value
    → contents_of (tag_number value) contents ≡ Some value
unfolding contents_of
contents_again _ (boolean b) other h = absurd (other refl)
contents_again _ (bit_string unused x) _ h = bits_again _ _ x h
contents_again _ (object id) other h = grind (arith, eq-eqb, same_identifier)
contents_again _ _ other h = grind arith

-- ---- the contents that are read are those of the value

-- contents and the value of this kind in them
abbrev Holding : ℕ → List ℕ → Datum → Type 0
Holding number contents value = (tag_number value ≡ number) × StandsFor contents value

pub within_takes : (most : ℕ) (contents : List ℕ) (n : ℕ) → number_within most contents ≡ Some n → (1 ≤ length contents)
    × (length contents ≤ most) × (n ≡ big_number (length contents) contents)
within_takes = grind arith

-- the value before a function was applied to it
mapped : {A B : Type 0} (f : A → B) (o : Option A) (y : B) → option_map f o ≡ Some y → (x : A) × (o ≡ Some x)
    × (f x ≡ y)
mapped = grind arith

number_takes : (number most : ℕ) (make : List ℕ → ℕ → Datum)
    → ((contents : List ℕ) (n : ℕ) → (1 ≤ length contents) × (length contents ≤ most)
    × (n ≡ big_number (length contents) contents) → Holding number contents (make contents n))
    → (contents : List ℕ) (value : Datum) → option_map (make contents) (number_within most contents) ≡ Some value
    → Holding number contents value
number_takes = grind arith

exact_takes : (number count : ℕ) (make : List ℕ → Datum)
    → ((contents : List ℕ) → length contents ≡ count → Holding number contents (make contents))
    → (contents : List ℕ) (value : Datum) → option_map make (exactly count contents) ≡ Some value
    → Holding number contents value
exact_takes = grind (arith, mapped, eqb-true)

chars_takes : (contents : List ℕ) (value : Datum) → chars_of contents ≡ Some value → Holding 7 contents value
chars_takes = grind arith

bits_takes : (contents : List ℕ) (value : Datum) → bits_of contents ≡ Some value → Holding 8 contents value
bits_takes = grind arith

contents_take : (number : ℕ) (contents : List ℕ) (value : Datum) → contents_of number contents ≡ Some value
    → Holding number contents value
unfolding contents_of
contents_take zero _ _ e = grind (arith, exact_takes, nil_from_length)
contents_take (suc (suc zero)) _ _ e = grind (arith, number_takes)
contents_take (suc (suc (suc zero))) _ _ e = grind (arith, number_takes)
contents_take (suc (suc (suc (suc zero)))) _ _ e = grind (arith, exact_takes)
contents_take (suc (suc (suc (suc (suc zero))))) _ _ e = grind (arith, exact_takes)
contents_take (suc (suc (suc (suc (suc (suc zero)))))) _ _ e = grind (arith, same_Some)
contents_take (suc (suc (suc (suc (suc (suc (suc zero))))))) _ _ e = chars_takes _ _ e
contents_take (suc (suc (suc (suc (suc (suc (suc (suc zero)))))))) _ _ e = bits_takes _ _ e
contents_take (suc (suc (suc (suc (suc (suc (suc (suc (suc zero))))))))) _ _ e = grind (arith, number_takes)
contents_take _ _ _ e = grind (arith, exact_takes, none-some, common_steps)

-- ---- a value

shaped_again : (value : Datum) (contents rest : List ℕ) → StandsFor contents value
    → behind_at (tag_number value) (shape_number value (length contents)) (contents ++ rest) ≡ found_at value rest
shaped_again = grind (arith, length-append, take_at, drop_at, contents_again)

value_again : (front : List ℕ) (value : Datum) (rest : List ℕ) → Spells front value
    → value_at (front ++ rest) ≡ Some (value, rest)
unfolding value_at
value_again _ _ rest s =
    let t = s.tagged in
    let tag = tag_reader.again _ _ (s.contents ++ rest) t.spelled in
    let shaped = shaped_again _ _ rest s.held in
    rw (t.whole, append_assoc _ _ _, tag, shaped) refl

boolean_takes : (n : ℕ) (value : Datum) → boolean_of n ≡ Some value → (b : Bool) × (value ≡ boolean b)
    × (n ≡ cond b 1 0)
boolean_takes = grind arith

-- the number in the tag is the length, if the value is not a Boolean
shape_number_is : (value : Datum) (n : ℕ) → (tag_number value ≡ 1 → ⊥) → shape_number value n ≡ n
shape_number_is (boolean b) n other = absurd (other refl)
shape_number_is _ n _ = refl

-- contents after a tag, and their value with the tag
abbrev Behind : ℕ → ℕ → List ℕ → Datum → List ℕ → Type 0
Behind number n after value rest = (contents : List ℕ) × (tag_number value ≡ number)
    × (shape_number value (length contents) ≡ n) × StandsFor contents value × (after ≡ contents ++ rest)

behind_takes : (number n : ℕ) (after : List ℕ) (value : Datum) (rest : List ℕ)
    → behind_at number n after ≡ found_at value rest → Behind number n after value rest
behind_takes number n after value rest e =
    elim (chosen (eqb number 1) _ _ _ e) [
      | inl (one, found) ↦
          let (_, read, made) = bind_some _ _ _ found in
          let (same, all) = some_pair_parts _ _ _ _ made in
          let (_, boolean_is, in_tag) = boolean_takes n _ read in
          rw (sym same ∙ boolean_is) ([], sym (eqb-true _ 1 one), sym in_tag, refl, all)
      | inr (other, found) ↦
          let (room, counted) = unless _ found in
          let (_, read, made) = bind_some _ _ _ counted in
          let (same, behind) = some_pair_parts _ _ _ _ made in
          let (kind, stands) = contents_take _ _ _ read in
          let long : length (take n after) ≡ n = length-take-le n _ (ltb-false _ n room) in
          let count = shape_number_is _ _ (λ one. eqb-false _ 1 other (sym kind ∙ one)) ∙ long in
          let whole : after ≡ take n after ++ rest = grind (arith, take-append-drop) in
          rw (← same) (take n _, kind, count, stands, whole)
    ]

shape_takes : (number : ℕ) (shape : Shape) (tag after : List ℕ) (value : Datum) (rest : List ℕ)
    → SpellsTag tag (record { number = number; shape = shape })
    → with_shape (record { number = number; shape = shape }) shape after ≡ found_at value rest
    → Took Spells (tag ++ after) value rest
shape_takes _ (App n) tag _ value _ s e =
    let (contents, kind, count, held, behind) = behind_takes _ n _ _ _ e in
    let tagged : SpellsTag tag (tag_before value (length contents)) = rw (kind, count) s in (
      tag ++ contents,
      record { contents = contents; tagged = record { front = tag; spelled = tagged; whole = refl }; held = held },
      grind (arith, append_assoc),
    )
shape_takes _ _ _ _ _ _ s e = absurd cc

value_takes : (spelling : List ℕ) (value : Datum) (rest : List ℕ) → value_at spelling ≡ found_at value rest
    → Took Spells spelling value rest
unfolding value_at
value_takes _ value rest e =
    let (_, tag_read, shaped) = bind_some _ _ _ e in
    let first = tag_reader.takes _ _ _ tag_read in
    let taken = shape_takes _ _ _ _ _ _ first.spelled shaped in
    subst (λ (w : List ℕ). Took Spells w value rest) (sym first.whole) taken

pub value_reader : IsReader Spells value_at
value_reader = reader_of _ _ value_takes value_again

-- octets spell the value that is read from all of them
pub value_spelled : (octets : List ℕ) (value : Datum) → value_at octets ≡ Some (value, []) → Spells octets value
value_spelled = is_spelled value_reader

-- no spelling of a value begins another
pub one_value : (a b u v : List ℕ) (x y : Datum) → Spells a x → Spells b y → a ++ u ≡ b ++ v → (a ≡ b) × (x ≡ y)
one_value = one_front _ _ value_reader

-- a value in contents is sound
pub held_sound : (contents : List ℕ) (value : Datum) → StandsFor contents value → IsSound value
held_sound _ (bit_string unused x) (_, bits) = bits
held_sound _ _ h = tt

-- ---- the values in a region, from its front

-- A value has at least one octet.
pub value-shorter : (octets : List ℕ) (value : Datum) (rest : List ℕ) → value_at octets ≡ Some (value, rest)
    → length rest < length octets
value-shorter _ value _ e = let taken = value_reader.takes _ value _ e in grind (arith, common_steps)

-- The first value, and then the values of the octets after it.
abbrev then_others : ℕ → Option (Datum × List ℕ) → Option (List Datum)
then_others count found = found >>= (λ (first, rest). values_within count rest >>= (λ others. Some (first ∷ others)))

-- Any large enough count gives the same values.
enough : (count other : ℕ) (octets : List ℕ) → length octets ≤ count → length octets ≤ other
    → values_within count octets ≡ values_within other octets
unfolding values_within
enough zero _ _ h k = grind arith
enough (suc m) zero _ h k = grind arith
enough (suc m) (suc n) [] h k = refl
enough (suc m) (suc n) (x ∷ xs) h k = go (λ rest. enough m n rest) (value_at (x ∷ xs)) refl
  where
    go : ((rest : List ℕ) → length rest ≤ m → length rest ≤ n → values_within m rest ≡ values_within n rest) →
        (found : Option (Datum × List ℕ)) → value_at (x ∷ xs) ≡ found → then_others m found ≡ then_others n found
    go same None e = refl
    go same (Some (first, rest)) e =
        let short = value-shorter _ _ _ e in
        ap (λ (found : Option (List Datum)). found >>= (λ others. Some (first ∷ others)))
        (same rest (omega arith) (omega arith))

-- If octets do not begin with a value, they are not values.
pub values-none : (octets : List ℕ) → value_at octets ≡ None → 0 < length octets → values_of octets ≡ None
unfolding values_within
values-none [] e h = absurd (omega arith)
values-none (x ∷ xs) e h = ap (then_others (length xs)) e

-- The first value, and then the values after it.
pub values-first : (octets : List ℕ) (value : Datum) (rest : List ℕ) → value_at octets ≡ Some (value, rest) →
    values_of octets ≡ option_map (λ others. value ∷ others) (values_of rest)
unfolding values_within
values-first [] _ _ e = grind (arith, value-shorter)
values-first (x ∷ xs) value rest e =
    let short = value-shorter (x ∷ xs) value rest e in
    let same = enough (length xs) (length rest) rest (omega arith) (omega arith) in
    grind arith

-- Only the empty list spells no values.
pub values-empty : (octets : List ℕ) → values_of octets ≡ Some [] → octets ≡ []
unfolding values_within
values-empty [] e = refl
values-empty (x ∷ xs) e = absurd (grind arith)

-- This many values were counted before the rest.
pub record Counted (region rest : List ℕ) (count : ℕ) : Type 0 where
  pub is : option_map length (values_of region) ≡ option_map (λ (n : ℕ). count + n) (option_map length (values_of rest))

pub counted_none : (region : List ℕ) → Counted region region 0
counted_none _ = record { is = grind arith }

pub counted_more : (region rest behind : List ℕ) (count : ℕ) (value : Datum) → Counted region rest count
    → value_at rest ≡ Some (value, behind) →
    Counted region behind (count + 1)
counted_more _ rest behind _ value h found =
    let more = values-first _ _ _ found in
    record { is = grind arith }

pub counted_stuck : (region rest : List ℕ) (count : ℕ) → Counted region rest count → value_at rest ≡ None
    → 0 < length rest →
    None ≡ option_map length (values_of region)
counted_stuck _ _ _ h none some = grind (arith, values-none)

pub counted_all : (region rest : List ℕ) (count : ℕ) → Counted region rest count → length rest ≡ 0
    → Some count ≡ option_map length (values_of region)
unfolding values_within
counted_all _ [] _ h e = grind arith
counted_all _ (x ∷ xs) _ h e = absurd (omega arith)

pub ruleset counted = (counted_none, counted_more, counted_stuck, counted_all, nat_tests)

-- ---- the values in the standard's words

-- the values that are read from octets are spelled by them
pub spelled : (values : List Datum) (octets : List ℕ) → values_of octets ≡ Some values → SpellsAll Spells octets values
unfolding values_within
spelled [] octets e = values-empty _ e
spelled (value ∷ others) [] e = absurd (let bad : [] ≡ value ∷ others = cc in cc)
spelled (value ∷ others) (x ∷ xs) e =
    let ((first, rest), read, _) = bind_some _ _ _ e in
    let (same, later) = parts first (values_of rest) (sym (values-first _ _ _ read) ∙ e) in
    (rest, value_reader.takes _ value _ (read ∙ ap (λ (v : Datum). Some (v, rest)) same), spelled others _ later)
  where
    parts : (first : Datum) (found : Option (List Datum))
        → option_map (λ more. first ∷ more) found ≡ Some (value ∷ others) → (first ≡ value) × (found ≡ Some others)
    parts first found h = grind arith

-- the values that octets spell are read from them
pub read_all : (values : List Datum) (octets : List ℕ) → SpellsAll Spells octets values → values_of octets ≡ Some values
unfolding values_within
read_all [] _ s = ap values_of s
read_all (value ∷ others) octets (rest, first, later) =
    values-first _ _ _ (begins_read Spells value_at value_reader octets value rest first)
    ∙ ap (option_map (λ more. value ∷ more)) (read_all others rest later)

pub are_spelled : (region : List ℕ) (values : List Datum)
    → (values_of region ≡ Some values) ↔ SpellsAll Spells region values
are_spelled _ _ = grind (arith, spelled, read_all)
