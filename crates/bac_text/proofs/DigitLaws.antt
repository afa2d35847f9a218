-- Numbers and octets in digits, read digit by digit and in lanes.
use Rattle.std.proofs.Common.{[], add-one, ap, arith, bit_and, bit_or, Bool, cond, drop, Err, false, get_or}
use Rattle.std.proofs.Common.{get_or-take, if◌then◌else◌, is_ok, IsTrue, length, length-take-le, List, map, nat_le}
use Rattle.std.proofs.Common.{nat_lt, None, not, Ok, position, refl, Result, Some, subst, suc, sym, take, take_all}
use Rattle.std.proofs.Common.{true, zero, ℕ, ◌%◌, ◌&&◌, ◌*◌, ◌++◌, ◌+◌, ◌-◌, ◌<◌, ◌==◌, ◌^◌, ◌||◌, ◌∙◌, ◌∷◌, ◌≡◌, ◌≤◌}
use Rattle.std.proofs.lemmas.{Bool.{eq-eqb, not-true, Decides.nat_tests}, Int.Digits.digits_value_more}
use Rattle.std.proofs.lemmas.List.{length-map, take_rest, Folds.{list_all_at, list_all_more}}
use Rattle.std.proofs.lemmas.List.Sums.{AllPass-from_list_all, list_all-from_AllPass, position_or_len_is}
use Rattle.std.proofs.lemmas.{List.Sums.{prefix_len-le-length, prefix_len_passes, prefix_len_stops}, Nat.and_mask}
use Rattle.std.proofs.lemmas.Simd.{get_or-chunk, leading_from_mask_l, length-chunk, map-map, mask_l-mod, splat_is_map}
use Rattle.std.proofs.lemmas.{Simd.{trailing_mask_l, zip2_of_maps, zip2_splat}, Str.Parse.digits_value-take-le}
use Rattle.std.specs.{Char.{is_ascii_digit, is_ascii_hexdigit}, List.{list_all, position_or_len, prefix_len}}
use Rattle.std.specs.{Result.result_ok, Str.{all_ascii_digits, Parse.digits_value}}
use Rattle.hex.{proofs.HexLemmas.{decode_of-digits, decode_of-ok}, specs.declared.error.FromHexError.FromHexError}
use Rattle.hex.specs.Hex.{decode_of, decode_pairs, hex_digit_value, is_hex_digit}
use Rattle.bac_wire.proofs.DatumLaws.{one_more, same_below}
use Rattle.bac_text.specs.{number_before_dot, number_up_to, octets_of, routable, short_number}
use Rattle.bac_text.specs.Inner.{digit, first_set, IsLeading, IsRunIn, number_by_lane, octets_by_lanes, octets_in}
use lib.{Lanes.{chunk, mask_l, put_chunk, top, zip2}, ListN.replicate}

all_tested : (word : List ℕ) → all_ascii_digits word ≡ list_all is_ascii_digit word
all_tested [] = refl
all_tested (x ∷ xs) = ap (λ b. is_ascii_digit x && b) (all_tested xs)

pub others_are : (word : List ℕ) (i : ℕ) → i < length word → is_ascii_digit (get_or word i 0) ≡ false
    → all_ascii_digits word ≡ false
others_are = grind (arith, all_tested, list_all_at)

digit_at : (word : List ℕ) (i : ℕ) → i < length word → all_ascii_digits word ≡ true
    → is_ascii_digit (get_or word i 0) ≡ true
digit_at = grind (arith, others_are)

pub digit_in : (text : List ℕ) (count k : ℕ) → count ≤ length text → all_ascii_digits (take count text) ≡ true
    → k < count → is_ascii_digit (get_or text k 0) ≡ true
digit_in = grind (arith, digit_at, get_or-take, length-take-le)

pub digits_next : (word : List ℕ) (i : ℕ) → i < length word → all_ascii_digits (take i word) ≡ true
    → is_ascii_digit (get_or word i 0) ≡ true → all_ascii_digits (take (i + 1) word) ≡ true
digits_next word i h all one = all_tested (take _ word) ∙ list_all_more _ word i 0 h
    ∙ rw (← all_tested _, all, one) refl

pub value_next : (word : List ℕ) (i number : ℕ) → i < length word → is_ascii_digit (get_or word i 0) ≡ true
    → number ≡ digits_value 10 (take i word)
    → number * 10 + (get_or word i 0 - 48) ≡ digits_value 10 (take (i + 1) word)
value_next = grind (arith, digits_value_more)

-- A word with an octet that is not a digit is not a number.
pub not_number : (most : ℕ) (word : List ℕ) → all_ascii_digits word ≡ false → number_up_to most word ≡ None
not_number = grind arith

pub number_up_to-too_big : (word : List ℕ) (i : ℕ) → 2 ^ 64 ≤ digits_value 10 (take i word)
    → number_up_to (2 ^ 64 - 1) word ≡ None
number_up_to-too_big = grind (arith, digits_value-take-le)

pub number_up_to-whole : (word : List ℕ) (i number : ℕ) → length word ≤ i → 0 < length word
    → all_ascii_digits (take i word) ≡ true
    → number ≡ digits_value 10 (take i word) → number < 2 ^ 64 → number_up_to (2 ^ 64 - 1) word ≡ Some number
number_up_to-whole _ i _ h some all e fits = let whole = take_all i _ h in grind arith

pub ruleset plain_numbers =
    (digits_next, value_next, not_number, others_are, number_up_to-too_big, number_up_to-whole, nat_tests)

-- ---- from the mask of one load to the octets that pass a test

run_is : (p : ℕ → Bool) (v : List ℕ) (n : ℕ) → length v ≡ n → n ≤ 64
    → first_set (mask_l (map p v)) n ≡ prefix_len (λ x. not (p x)) v
run_is = grind (arith, leading_from_mask_l, trailing_mask_l)

-- Comparing sets all bits of a lane or none.
pub lane_is : (a : Bool) → top 7 (cond a 255 0) ≡ a
lane_is true = refl
lane_is false = refl

pub lanes_are : (a b : Bool) → top 7 (bit_or (cond a 255 0) (cond b 255 0)) ≡ (a || b)
lanes_are = grind arith

module _ (q : ℕ → Bool) (d : List ℕ) (i n r : ℕ) (z : List ℕ) (room : i + n ≤ length d) (few : n ≤ 64)
    (found : r ≡ first_set (mask_l (map (top 7) z) % 2 ^ 64) n) (f : ℕ → ℕ) (lanes : z ≡ map f (chunk i n d))
    (all : (k : ℕ) → top 7 (f (get_or d k 0)) ≡ q (get_or d k 0)) where
  abbrev stops : ℕ → Bool
  stops x = top 7 (f x)

  long : length (chunk i n d) ≡ n
  long = length-chunk i n d room

  counted : r ≡ prefix_len (λ x. not (stops x)) (chunk i n d)
  counted =
      let v = chunk i n d in
      let mask = ap (λ l. mask_l l % 2 ^ 64) (ap (map _) lanes ∙ map-map _ f v)
      ∙ mask_l-mod _ 64 (omega (arith, length-map v stops, long)) in
      found ∙ ap (λ m. first_set m n) mask ∙ run_is _ v n long few

  goes_on : (k : ℕ) → i ≤ k → k < i + r → stops (get_or d k 0) ≡ false
  goes_on k from to =
      let back : i + (k - i) ≡ k = omega arith in
      let bound = prefix_len-le-length (λ x. not (stops x)) (chunk i n d) in
      let at = get_or-chunk i n d _ 0 (omega (arith, counted, long)) ∙ ap (λ j. get_or d j 0) back in
      subst (λ x. stops x ≡ false) at
      (not-true _ (prefix_len_passes (λ x. not (stops x)) _ (k - i) 0 (omega (arith, counted))))

  -- The run of a load ends exactly where the test passes.
  pub run_in : IsRunIn q d i n r
  run_in = grind (arith, counted, long, prefix_len-le-length, goes_on, get_or-chunk, prefix_len_stops)

pub position_is : (p : ℕ → Bool) (xs : List ℕ) (i : ℕ) → i < length xs → ((k : ℕ) → k < i → p (get_or xs k 0) ≡ false)
    → p (get_or xs i 0) ≡ true →
    Some i ≡ position p xs
position_is = grind (arith, position_or_len_is)

pub position_none : (p : ℕ → Bool) (xs : List ℕ) → ((k : ℕ) → k < length xs → p (get_or xs k 0) ≡ false)
    → None ≡ position p xs
position_none p xs before =
    let at : position_or_len p xs ≡ length xs =
    position_or_len_is p _ _ 0 (omega arith) before (λ less. absurd (omega arith)) in
    grind arith

-- The octets before a load, and those of the load, fail the test.
pub all_before : (p : ℕ → Bool) (xs : List ℕ) (start at n run : ℕ) → at ≤ start
    → ((k : ℕ) → k < start → p (get_or xs k 0) ≡ false) →
    IsRunIn p xs at n run → (k : ℕ) → k < at + run → p (get_or xs k 0) ≡ false
all_before p xs _ at n _ over before found k below = grind arith

-- ---- numbers at the front of a text

-- The greatest number of this many digits.
abbrev pub most_with : ℕ → ℕ
most_with zero = 0
most_with (suc n) = most_with n * 10 + 9

pub most_next : (n number digit : ℕ) → number ≤ most_with n → digit ≤ 9 → number * 10 + digit ≤ most_with (n + 1)
most_next n _ digit h d = rw add-one (omega arith)

-- A short text that is not only a number.
module _ (text : List ℕ) (digits limit number count : ℕ) (l : IsLeading text digits number count) where
  pub short_long : count < length text → None ≡ short_number digits limit text
  short_long = grind (arith, others_are)

  pub short_empty : count ≡ 0 → None ≡ short_number digits limit text
  short_empty = grind (arith, others_are)

  pub short_big : limit < number → None ≡ short_number digits limit text
  short_big = grind (arith, others_are, take_all)

-- The first `count` octets are digits, and spell the number.
record Digits (text : List ℕ) (count number : ℕ) : Type 0 where
  all : all_ascii_digits (take count text) ≡ true
  value : number ≡ digits_value 10 (take count text)

one_digit_more : (text : List ℕ) (i number ones total : ℕ) → Digits text i number → i < length text
    → Some ones ≡ digit (get_or text i 0) → total ≡ number * 10 + ones →
    Digits text (i + 1) total
one_digit_more = grind (arith, value_next, digits_next)

module _ (text : List ℕ) (count number : ℕ) (d : Digits text count number) (some : 0 < count) (few : count ≤ 3)
    (within : count < length text) (dot : get_or text count 0 ≡ 46) where
  -- A number of up to three digits before a dot (46).
  before_dot : (if nat_le number 255 then Some (number, take (length text - (count + 1)) (drop (count + 1) text)) else
      None) ≡ number_before_dot text
  before_dot =
      let size = length-take-le count text (omega arith) in
      let at = position_is (λ o. o == 46) _ _ within
      (λ k below. let digit = digit_in _ _ k (omega arith) d.all below in grind arith) (eq-eqb _ 46 dot) in
      let all = d.all in
      let value = d.value in
      rw (← at, take_rest _ _) (grind arith)

module _ (text : List ℕ) (a : ℕ) (first : Some a ≡ digit (get_or text 0 0)) where
  one : 0 < length text → Digits text 1 a
  one = grind arith

  pub one_digit : 1 < length text → get_or text 1 0 ≡ 46 → a ≤ 9
      → Some (a, take (length text - 2) (drop 2 text)) ≡ number_before_dot text
  one_digit long dot small =
      let e = before_dot _ 1 a (one (omega arith)) (omega arith) (omega arith) long dot in
      grind arith

  module _ (b : ℕ) (second : Some b ≡ digit (get_or text 1 0)) where
    two : 1 < length text → Digits text 2 (a * 10 + b)
    two long = one_digit_more _ 1 a b _ (one (omega arith)) long second refl

    pub two_digits : 2 < length text → get_or text 2 0 ≡ 46 → a ≤ 9 → b ≤ 9
        → Some (a * 10 + b, take (length text - 3) (drop 3 text)) ≡ number_before_dot text
    two_digits long dot small small' =
        let e = before_dot _ 2 _ (two (omega arith)) (omega arith) (omega arith) long dot in
        grind arith

    module _ (c : ℕ) (third : Some c ≡ digit (get_or text 2 0)) (long : 3 < length text) (dot : get_or text 3 0 ≡ 46)
      where
        three : Digits text 3 (a * 100 + b * 10 + c)
        three = one_digit_more _ 2 _ c _ (two (omega arith)) (omega arith) third (omega arith)

        pub three_digits : a * 100 + b * 10 + c ≤ 255
            → Some (a * 100 + b * 10 + c, take (length text - 4) (drop 4 text)) ≡ number_before_dot text
        three_digits small =
            let e = before_dot _ 3 _ three (omega arith) (omega arith) long dot in
            grind arith

        pub three_digits_too_big : 255 < a * 100 + b * 10 + c → None ≡ number_before_dot text
        three_digits_too_big large =
            let e = before_dot _ 3 _ three (omega arith) (omega arith) long dot in
            grind arith

pub ruleset leading_numbers = (digits_next, value_next, most_next, nat_tests)

-- ---- octets in hexadecimal digits

same_digit : (c : ℕ) → is_ascii_hexdigit c ≡ is_hex_digit c
same_digit = grind arith

pub same_digits : (word : List ℕ) → list_all is_ascii_hexdigit word ≡ list_all is_hex_digit word
same_digits [] = refl
same_digits (c ∷ cs) = rw (same_digit c, same_digits cs) refl

pub digits_decoded : (word : List ℕ) → length word % 2 ≡ 0 → list_all is_ascii_hexdigit word ≡ true → (octets : List ℕ)
    × (decode_of word ≡ Ok octets)
digits_decoded word even digits = decode_of-digits _ even (AllPass-from_list_all _ _ (sym (same_digits word) ∙ digits))

pub digits_are_read : (word : List ℕ) → length word % 2 ≡ 0 → list_all is_ascii_hexdigit word ≡ true
    → IsTrue (is_ok (decode_of word))
digits_are_read _ even digits = let found = digits_decoded _ even digits in grind arith

pub octets_of_digits : (word : List ℕ) → 0 < length word → length word ≤ 4096 → length word % 2 ≡ 0
    → list_all is_ascii_hexdigit word ≡ true →
    Some (octets_in word) ≡ octets_of word
octets_of_digits = grind (arith, digits_decoded)

pub others_refused : (word : List ℕ) → list_all is_ascii_hexdigit word ≡ false → result_ok (decode_of word) ≡ None
others_refused word others = go (decode_of word) refl
  where
    go : (r : Result (List ℕ) FromHexError) → decode_of word ≡ r → result_ok r ≡ None
    go (Err why) is = refl
    go (Ok octets) is =
        let (_, all, _, _) = decode_of-ok word octets is in
        let digits = list_all-from_AllPass is_hex_digit word all in
        grind (arith, same_digits)

pub octets_of_others : (word : List ℕ) → list_all is_ascii_hexdigit word ≡ false → None ≡ octets_of word
octets_of_others = grind (arith, others_refused)

-- Two digits are one octet.
pub length-octets_in : (digits : List ℕ) → IsTrue (is_ok (decode_of digits))
    → length digits ≡ 2 * length (octets_in digits)
length-octets_in = grind (arith, decode_of-ok)

pub ruleset digits_of_words = (digits_are_read, octets_of_digits, octets_of_others)

-- An address of more than seven octets has no route.
pub routable_digits : (network : ℕ) (digits : List ℕ) → IsTrue (is_ok (decode_of digits)) → 14 < length digits →
    None ≡ routable (record { network = network; address = octets_in digits })
routable_digits = grind (arith, length-octets_in)

-- ---- digits as octets, by lanes

number_is : (digit : ℕ)
    → (bit_and digit 15 + cond (top 7 (cond (nat_lt 63 digit) 255 0)) 9 0) % 256 ≡ number_by_lane digit
number_is _ = rw (and_mask _ 4, lane_is _) (grind arith)

-- The octet of two digits, as computed in a lane.
pub octet_is : (high low : ℕ) →
    ((bit_and high 15 + cond (top 7 (cond (nat_lt 63 high) 255 0)) 9 0) % 256 * 16 % 256
    + (bit_and low 15 + cond (top 7 (cond (nat_lt 63 low) 255 0)) 9 0) % 256) % 256
    ≡ (number_by_lane high * 16 + number_by_lane low) % 256
octet_is _ _ = rw (number_is _, number_is _) (omega arith)

-- Whether an octet is not a digit, as computed in a lane.
abbrev past : ℕ → ℕ → ℕ
past a b = cond (nat_lt a b) 255 0

abbrev less : ℕ → ℕ → ℕ
less a b = (a + (256 - b)) % 256

abbrev pub other_lane : ℕ → ℕ
other_lane x = bit_and (past 9 (less x 48)) (past 5 (less (bit_or x 32) 97))

pub other_lanes : (v : List ℕ) → length v ≡ 16 →
    zip2 bit_and (zip2 past (replicate 16 9) (zip2 less v (replicate 16 48)))
    (zip2 past (replicate 16 5) (zip2 less (zip2 bit_or v (replicate 16 32)) (replicate 16 97)))
    ≡ map other_lane v
other_lanes v long =
    let splat = λ (n : ℕ). splat_is_map v 16 n long in
    zip2_of_maps _ _ _ v (zip2_of_maps past _ _ v (splat 9) (zip2_splat _ v 16 48 long))
    (zip2_of_maps past _ _ v (splat 5) (zip2_of_maps _ _ _ v (zip2_splat _ v 16 32 long) (splat 97)))

pub other_is : (octet : ℕ) → octet < 256 → top 7 (other_lane octet) ≡ not (is_hex_digit octet)
other_is _ h = same_below false (λ x. top 7 (other_lane x)) (λ x. not (is_hex_digit x)) 256 _ refl h

octets_by_lanes-append : (xs ys : List ℕ) → length xs % 2 ≡ 0
    → octets_by_lanes (xs ++ ys) ≡ octets_by_lanes xs ++ octets_by_lanes ys
unfolding octets_by_lanes
octets_by_lanes-append [] ys _ = refl
octets_by_lanes-append (a ∷ []) ys even = absurd (omega arith)
octets_by_lanes-append (a ∷ b ∷ xs) ys even =
    ap (λ (zs : List ℕ). ((number_by_lane a * 16 + number_by_lane b) % 256) ∷ zs)
    (octets_by_lanes-append xs _ (omega arith))

length-octets_by_lanes : (xs : List ℕ) → length xs % 2 ≡ 0 → 2 * length (octets_by_lanes xs) ≡ length xs
unfolding octets_by_lanes
length-octets_by_lanes [] _ = refl
length-octets_by_lanes (a ∷ []) even = absurd (omega arith)
length-octets_by_lanes (a ∷ b ∷ xs) even = omega (arith, length-octets_by_lanes xs (omega arith))

-- Eight more octets were read.
pub read_on : (digits octets : List ℕ) (at start : ℕ) → at ≤ start → start ≤ length octets → at + 8 ≤ length octets
    → length digits ≡ 2 * length octets →
    take start octets ≡ octets_by_lanes (take (2 * start) digits) →
    take (at + 8) (put_chunk at octets (octets_by_lanes (chunk (2 * at) 16 digits)))
    ≡ octets_by_lanes (take (2 * (at + 8)) digits)
read_on digits _ at start before within room size read =
    let long = length-chunk (2 * at) 16 digits (omega arith) in
    let front = length-take-le (2 * at) digits (omega arith) in
    let even : length (take (2 * at) digits) % 2 ≡ 0 = omega arith in
    let place : 2 * (at + 8) ≡ 2 * at + 16 = omega arith in
    rw place (one_more octets_by_lanes _ _ _ _ 16 at start 8 (omega arith) before
    (λ more. octets_by_lanes-append _ _ even) (omega (arith, length-octets_by_lanes _ even))
    (omega (arith, length-octets_by_lanes (chunk (2 * at) 16 digits) (omega arith))) room read)

-- The number of a digit is the same in both definitions.
abbrev IsNumber : ℕ → Type 0
IsNumber digit = (hex_digit_value digit ≡ Some (number_by_lane digit)) × (number_by_lane digit ≤ 15)

number_of : (digit : ℕ) → not (is_hex_digit digit) ≡ false → IsNumber digit
number_of _ e = (grind arith, grind arith)

-- A text of only digits is read as their octets.
pub digits_read : (i : ℕ) (digits : List ℕ) → length digits % 2 ≡ 0
    → ((k : ℕ) → k < length digits → not (is_hex_digit (get_or digits k 0)) ≡ false) →
    decode_pairs i digits ≡ Ok (octets_by_lanes digits)
unfolding decode_pairs octets_by_lanes
digits_read i [] _ _ = refl
digits_read i (a ∷ []) even all = absurd (omega arith)
digits_read i (a ∷ b ∷ rest) even all =
    let (high, high_fits) = number_of a (all 0 (omega arith)) in
    let (low, low_fits) = number_of b (all 1 (omega arith)) in
    let later = digits_read (i + 2) rest (omega arith) (λ k h. all (suc (suc k)) (omega arith)) in
    let octet : number_by_lane a * 16 + number_by_lane b ≡ (number_by_lane a * 16 + number_by_lane b) % 256 =
    omega arith in
    rw (high, low, later) (ap (λ (x : ℕ). Ok (x ∷ octets_by_lanes rest)) octet)

pub digits_refused : (digits : List ℕ) (k : ℕ) → k < length digits → not (is_hex_digit (get_or digits k 0)) ≡ true
    → result_ok (decode_of digits) ≡ None
digits_refused = grind (arith, others_refused, list_all_at)
