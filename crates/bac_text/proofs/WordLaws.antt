-- The words of a text, and their values and bodies.
use Rattle.std.proofs.Common.{[], ap, append-nil, append_assoc, arith, Bool, drop, drop-cons, drop-drop, Err, false}
use Rattle.std.proofs.Common.{filter, flat_map, get_or, get_or-take, IfOk, IfSome, if◌then◌else◌, inl, length}
use Rattle.std.proofs.Common.{length-append, length-take-le, List, map, MatchResult, None, not, Ok, Option, option_map}
use Rattle.std.proofs.Common.{position, refl, Result, Some, subst, suc, sym, take, true, unwrap_or, ℕ, ◌%◌, ◌*◌, ◌++◌}
use Rattle.std.proofs.Common.{◌+◌, ◌-◌, ◌/◌, ◌<◌, ◌==◌, ◌^◌, ◌||◌, ◌∙◌, ◌∷◌, ◌≡◌, ◌≤◌}
use Rattle.std.proofs.lemmas.{Bool.{not-true, Decides.nat_tests}, List.{drop_all, take_rest}}
use Rattle.std.proofs.lemmas.List.{FromFn.{fill_by_all, length-map-range_with_len}, Quantifiers.position-Some}
use Rattle.std.proofs.lemmas.List.Splits.{length-slice_split, slice_split-cons_no, slice_split-cons_yes}
use Rattle.std.proofs.lemmas.List.Sums.{count_by-le-length, length-filter, prefix_len-le-length}
use Rattle.std.specs.{Char.is_ascii_hexdigit, Int.div_ceil, List.{AllByRecursion, list_all, onto_first}}
use Rattle.std.specs.{List.{position_or_len, range_with_len, slice_split}, Result.result_ok, Str.Parse.digits_value}
use Rattle.hex.proofs.HexLemmas.{decode_of-ok, decode_sized-ok, decode_sized-twice}
use Rattle.hex.specs.{declared.error.FromHexError.FromHexError, Hex.{decode_of, decode_sized}}
use Rattle.bac_wire.{proofs.DatumLaws.{plain_spells, read_all, written_datum}, specs.{bit_string, IsIdentifier}}
use Rattle.bac_wire.specs.{IsRegion, IsShortest, octet_string, plain, plain_tag, result_seen, signed, Spells, SpellsAll}
use Rattle.bac_wire.specs.{values_of, Datum.{Datum, InRange, IsDatum, plain_contents, StandsFor, tag_before}}
use Rattle.bac_wire.specs.{Datum.tag_number, Identifier.Identifier, Region.{Counts, IsSequence, more, none}}
use Rattle.bac_pdu.proofs.{BodyLaws.whole_spell, ShortestLaws.order_is_written}
use Rattle.bac_pdu.specs.{IsPriority, Order, plain_parameter, Parameter.{IsParameter, Parameter}}
use Rattle.bac_pdu.specs.Property.{IsWriteBody, reference_parameters, write_octets}
use Rattle.bac_text.proofs.DigitLaws.{digit_in, digits_decoded, position_is, position_none}
use Rattle.bac_text.specs.{Bad, bits_in, bits_octet, bits_octets, body_of, is_blank, IsWritten, order_of, pairs_from}
use Rattle.bac_text.specs.{sendable, signed_in, TooLong, value_before, value_in, value_under, values_in, words_of}
use Rattle.bac_text.specs.declared.{pairs.PairFault.PairFault, value_words.ValueFault.TheVariants.TooLong}
use Rattle.bac_text.specs.Inner.{appended, at_most, is_not_empty, IsFirstNumber, IsLeading, region_of, region_with}
use Rattle.bac_text.specs.declared.value_words.ValueFault.TheVariants as faults
use Rattle.bac_wire.specs.Datum as values
use Rattle.bac_pdu.specs.Parameter as parameters

-- the number of blanks at the front, and of other octets
abbrev blanks : List ℕ → ℕ
blanks text = position_or_len (λ octet. not (is_blank octet)) text

abbrev others : List ℕ → ℕ
others text = position_or_len is_blank text

one_more : (x : ℕ) (xs : List ℕ) → is_blank x ≡ true → blanks (x ∷ xs) ≡ suc (blanks xs)
one_more = grind arith

one_other : (x : ℕ) (xs : List ℕ) → is_blank x ≡ false → others (x ∷ xs) ≡ suc (others xs)
one_other = grind arith

words-skip : (text : List ℕ) → words_of text ≡ words_of (drop (blanks text) text)
words-skip [] = refl
words-skip (x ∷ xs) = let rest = words-skip xs in let blank = one_more x xs in grind arith

record First (text : List ℕ) : Type 0 where
  rest : List (List ℕ)
  split : slice_split is_blank text ≡ take (others text) text ∷ rest
  same : filter is_not_empty rest ≡ words_of (drop (others text) text)

first_on : (x : ℕ) (xs : List ℕ) (b : Bool) → is_blank x ≡ b → First xs → First (x ∷ xs)
first_on x xs true e f =
    let none : others (x ∷ xs) ≡ 0 = rw e refl in
    let cut = slice_split-cons_yes _ x xs e in
    record {
      rest = slice_split is_blank xs;
      split = cut ∙ ap (λ n. take n (x ∷ xs) ∷ slice_split is_blank xs) (sym none);
      same = sym (ap (filter is_not_empty) cut) ∙ ap (λ n. words_of (drop n (x ∷ xs))) (sym none);
    }
first_on x xs false e f =
    let one = one_other x xs e in
    record {
      rest = f.rest;
      split = slice_split-cons_no _ x xs e ∙ (ap (onto_first x) f.split ∙ ap (λ n. take n (x ∷ xs) ∷ f.rest) (sym one));
      same = f.same ∙ ap (λ n. words_of (drop n (x ∷ xs))) (sym one);
    }

first : (text : List ℕ) → First text
first [] = record { rest = []; split = refl; same = refl }
first (x ∷ xs) = first_on x xs (is_blank x) refl (first xs)

is_not_empty-cons : (x : ℕ) (xs : List ℕ) → is_not_empty (x ∷ xs) ≡ true
is_not_empty-cons = grind arith

keeps : (word : List ℕ) (rest all : List (List ℕ)) → is_not_empty word ≡ true → filter is_not_empty rest ≡ all
    → filter is_not_empty (word ∷ rest) ≡ word ∷ all
keeps _ _ _ some same = rw (some, same) refl

-- if the first octet is not a blank, the first word begins there
words-first : (x : ℕ) (xs : List ℕ) → is_blank x ≡ false
    → words_of (x ∷ xs) ≡ take (others (x ∷ xs)) (x ∷ xs) ∷ words_of (drop (others (x ∷ xs)) (x ∷ xs))
words-first x xs e =
    let f = first (x ∷ xs) in
    let some : is_not_empty (take (others (x ∷ xs)) (x ∷ xs)) ≡ true =
    ap (λ n. is_not_empty (take n (x ∷ xs))) (one_other x xs e) ∙ is_not_empty-cons x _ in
    ap (filter is_not_empty) f.split ∙ keeps _ f.rest _ some f.same

pub words_none : (text : List ℕ) → None ≡ position (λ octet. not (is_blank octet)) text → words_of text ≡ []
words_none = grind (arith, words-skip, drop_all)

end_is : (rest : List ℕ) (end : ℕ) → end ≡ unwrap_or (position is_blank rest) (length rest) → end ≡ others rest
end_is = grind (arith, prefix_len-le-length)

pub words_some : (text rest : List ℕ) (start end : ℕ) → Some start ≡ position (λ octet. not (is_blank octet)) text
    → rest ≡ drop start text →
    end ≡ unwrap_or (position is_blank rest) (length rest) → words_of text ≡ take end rest ∷ words_of (drop end rest)
words_some text rest start end h cut last =
    let found : start ≡ blanks text = grind arith in
    let (within, passes, _) = position-Some _ text _ 0 (sym h) in
    let other : is_blank (get_or text start 0) ≡ false = not-true _ passes in
    let shown : rest ≡ get_or text start 0 ∷ drop (suc start) text = cut ∙ drop-cons text _ 0 within in
    let skipped : words_of text ≡ words_of rest = words-skip text ∙ ap (λ n. words_of (drop n text)) (sym found)
    ∙ ap words_of (sym cut) in
    skipped ∙ (subst (λ r. words_of r ≡ take (others r) r ∷ words_of (drop (others r) r)) (sym shown)
    (words-first (get_or text start 0) (drop (suc start) text) other)
    ∙ ap (λ n. take n rest ∷ words_of (drop n rest)) (sym (end_is rest end last)))

pub end_within : (rest : List ℕ) (end : ℕ) → end ≡ unwrap_or (position is_blank rest) (length rest) → end ≤ length rest
end_within = grind (arith, prefix_len-le-length)

-- there are at most as many words as octets, and one more
pub words_fewer : (text : List ℕ) → length (words_of text) ≤ length text + 1
words_fewer = grind (arith, length-filter, count_by-le-length, length-slice_split)

pub ruleset first_words = (words_none, words_some, end_within, take_rest)

-- ---- the number in the first word of a text

module _ (rest : List ℕ) (number count : ℕ) (l : IsLeading rest 5 number count) where
  -- No digit is a blank.
  no_blank : (k : ℕ) → k < count → is_blank (get_or rest k 0) ≡ false
  no_blank k below = let digit = digit_in _ _ k l.within l.digits below in grind arith

  -- The digits are the whole first word.
  word_ends : (count < length rest → is_blank (get_or rest count 0) ≡ true)
      → count ≡ unwrap_or (position is_blank rest) (length rest)
  word_ends = grind (arith, position_is, no_blank, position_none)

  pub first_number_is : (text : List ℕ) (start : ℕ) → Some start ≡ position (λ octet. not (is_blank octet)) text
      → rest ≡ drop start text → 0 < count →
      (count < length rest → is_blank (get_or rest count 0) ≡ true) → IsFirstNumber text number (drop count rest)
  first_number_is _ _ found cut some blank = record {
    word = take count rest;
    first = words_some _ _ _ _ found cut (word_ends blank);
    value = λ most.
        let not_empty : is_not_empty (take count rest) ≡ true = grind arith in
        let value : digits_value 10 (take count rest) ≡ number = sym l.value in
        rw (not_empty, l.digits, value) refl;
  }

-- ---- the appended octets of a value, and the words of each kind

-- A list within the limit is unchanged.
pub at_most_found : {E : Type 0} (fault : E) (most : ℕ) (octets found : List ℕ) → at_most fault most octets ≡ Ok found →
    (found ≡ octets) × (length octets ≤ most)
at_most_found = grind arith

pub appended-full : (old : List ℕ) (value : Datum) → 1497 < length old + length (plain value)
    → appended old (Some value) ≡ Err TooLong
appended-full = grind (arith, length-append)

-- A spelling is at least as long as its contents.
pub plain_length : (value : Datum) → length (plain_contents value) ≤ length (plain value)
unfolding plain
plain_length = grind (arith, length-append)

-- ---- hexadecimal digits

pub octets-decoded : (word out room : List ℕ) (n : ℕ) (r : Result Unit FromHexError)
    → list_all is_ascii_hexdigit word ≡ true →
    length word ≡ 2 * n → n ≤ length room →
    MatchResult (decode_sized word (length (take n room))) (λ bytes. (r ≡ Ok tt) × (out ≡ bytes)) (λ e. r ≡ Err e)
    → result_ok (decode_of word) ≡ Some out
octets-decoded = grind (arith, digits_decoded, length-take-le)

pub octets-long : (region word : List ℕ) → length word % 2 ≡ 0 → list_all is_ascii_hexdigit word ≡ true
    → 1497 < length word / 2 →
    appended region (option_map octet_string (result_ok (decode_of word))) ≡ Err TooLong
octets-long _ _ even digits long =
    let (octets, is) = digits_decoded _ even digits in
    let size = plain_length (octet_string octets) in
    let (_, _, twice, _) = decode_of-ok _ _ is in
    rw is (appended-full _ _ (omega arith))

-- ---- bits

pub bits-written : (digits room : List ℕ) (count unused : ℕ)
    → list_all (λ digit. digit == 48 || digit == 49) digits ≡ true
    → count ≡ div_ceil (length digits) 8 → count ≤ length room →
    ((k : ℕ) → k < count → get_or room k 0 ≡ bits_octet (drop (8 * k) digits)) → unused ≡ 8 * count - length digits →
    bits_in digits ≡ Some (bit_string unused (take count room))
bits-written digits room count _ bits size room_for each rest =
    let same : take count room ≡ map (λ k. bits_octet (drop (8 * k) digits)) (range_with_len 0 count) =
    fill_by_all _ _ _ 0 (length-take-le _ _ room_for) (λ k h. get_or-take _ _ k 0 h ∙ each k h) in
    rw (bits, rest, same, size) refl

pub bits-long : (region digits : List ℕ) → list_all (λ digit. digit == 48 || digit == 49) digits ≡ true
    → 1497 < div_ceil (length digits) 8
    → appended region (bits_in digits) ≡ Err TooLong
bits-long region digits bits long =
    let value = bit_string (8 * div_ceil (length digits) 8 - length digits) (bits_octets digits) in
    let size = plain_length value in
    let count = length-map-range_with_len (λ k. bits_octet (drop (8 * k) digits)) 0 (div_ceil (length digits) 8) in
    rw bits (appended-full region value (omega arith))

-- ---- the values of words are within the ranges of their kinds, so they have spellings

either : (b : Bool) (x y : Option Datum) → IfSome x InRange → IfSome y InRange → IfSome (if b then x else y) InRange
either = grind arith

-- ---- the words of each kind

signed_range : (word : List ℕ) → IfSome (option_map signed (signed_in word)) InRange
signed_range _ = grind (arith, nat_tests)

exactly_range : (count : ℕ) (word : List ℕ)
    → IfSome (result_ok (decode_sized word count)) (λ octets. length octets ≡ count)
exactly_range = grind (arith, decode_sized-ok, decode_of-ok, decode_sized-twice)

-- ---- any word

under_range : (number : ℕ) (word : List ℕ) → IfSome (value_under number word) InRange
unfolding value_under
under_range number word =
    let four = exactly_range 4 word in
    let eight = exactly_range 8 word in
    either (number == 0) _ _ tt (either (number == 1) _ _ (grind arith)
    (either (number == 2) _ _ (grind arith)
    (either (number == 3) _ _ (signed_range word)
    (either (number == 4) _ _ (grind arith)
    (either (number == 5) _ _ (grind arith)
    (either (number == 6) _ _ (grind arith)
    (either (number == 7) _ _ tt
    (either (number == 8) _ _ (grind arith)
    (either (number == 9) _ _ (grind arith)
    (either (number == 10) _ _ (grind arith)
    (either (number == 11) _ _ (grind arith)
    (either (number == 12) _ _ (grind arith) tt))))))))))))

before_range : (n : ℕ) (first : Option Datum) (more : Result (List Datum) ℕ) → IfSome first InRange
    → IfOk more (AllByRecursion InRange) →
    IfOk (value_before n first more) (AllByRecursion InRange)
before_range = grind arith

pairs_range : (n : ℕ) (words : List (List ℕ)) → IfOk (pairs_from n words) (AllByRecursion InRange)
pairs_range n [] = tt
pairs_range n (tag ∷ []) = tt
pairs_range n (tag ∷ word ∷ others) = before_range n _ _ (grind (arith, under_range)) (pairs_range (n + 1) others)

pub values_range : (words : List (List ℕ)) → IfOk (values_in words) (AllByRecursion InRange)
values_range [] = tt
values_range (tag ∷ others) = pairs_range 1 (tag ∷ others)

-- Values whose spellings fit a frame are spelled by them.
pub values_spelled : (values : List Datum) → AllByRecursion InRange values → length (flat_map plain values) ≤ 1497
    → AllByRecursion IsDatum values
values_spelled [] h _ = tt
values_spelled (value ∷ others) (in_range, later) fits =
    let size = length-append (plain value) (flat_map plain others) in
    (written_datum _ 0 in_range (omega arith), values_spelled others later (omega arith))

-- ---- one more value after others

flat_map-more : (values : List Datum) (value : Datum)
    → flat_map plain (values ++ value ∷ []) ≡ flat_map plain values ++ plain value
flat_map-more [] _ = append-nil _
flat_map-more (first ∷ others) value = grind (arith, append_assoc, flat_map-more others value)

-- ---- pairs from their front

-- The values of the first words, and then those of the words that are left.
abbrev pub then_values : List Datum → Result (List Datum) ℕ → Result (List Datum) ℕ
then_values values (Ok others) = Ok (values ++ others)
then_values values (Err bad) = Err bad

-- The appended octets of these values, and whether they are too long for the room.
abbrev pub Stands : Bool → List ℕ → List Datum → Type 0
Stands true region values = 1497 < length (flat_map plain values)
Stands false region values = (region ≡ flat_map plain values) × (length region ≤ 1497)

-- The pair with this number is next.
pub record Progress (all left : List (List ℕ)) (number : ℕ) (region : List ℕ) (is_too_long : Bool) : Type 0 where
  pub values : List Datum
  pub said : pairs_from 1 all ≡ then_values values (pairs_from number left)
  pub counted : length all ≡ 2 * (number - 1) + length left
  pub some : 1 ≤ number
  pub behind : left ≡ drop (2 * (number - 1)) all
  pub stands : Stands is_too_long region values

first_pair : (n : ℕ) (tag word : List ℕ) (left : List (List ℕ)) (value : Datum) → value_in tag word ≡ Some value →
    pairs_from n (tag ∷ word ∷ left) ≡ then_values (value ∷ []) (pairs_from (n + 1) left)
first_pair = grind arith

then_then : (first second : List Datum) (found : Result (List Datum) ℕ)
    → then_values first (then_values second found) ≡ then_values (first ++ second) found
then_then = grind (arith, append_assoc)

stands-more : (b : Bool) (region new : List ℕ) (values : List Datum) (value : Datum) → Stands b region values
    → appended region (Some value) ≡ Ok new →
    Stands b new (values ++ value ∷ [])
stands-more = grind (arith, flat_map-more, length-append)

stands-long : (b : Bool) (region : List ℕ) (values : List Datum) (value : Datum) → Stands b region values
    → appended region (Some value) ≡ Err faults.TooLong →
    1497 < length (flat_map plain (values ++ value ∷ []))
stands-long = grind (arith, flat_map-more, length-append)

-- No pair was read yet.
pub progress-first : (all : List (List ℕ)) → Progress all all 1 [] false
progress-first = grind arith

-- The words after the next pair.
pub pair_behind : (all words left : List (List ℕ)) (n : ℕ) (tag word region : List ℕ) (b : Bool)
    → Progress all words n region b → words ≡ tag ∷ word ∷ left →
    left ≡ drop (2 * n) all
pair_behind all _ _ n _ _ _ b p is =
    let two : 2 * (n - 1) + 2 ≡ 2 * n = omega arith in
    ap (λ (zs : List (List ℕ)). drop 2 zs) (sym is ∙ p.behind) ∙ drop-drop 2 _ all ∙ ap (λ (k : ℕ). drop k all) two

-- No word follows a lone tag.
pub none_behind : (all left : List (List ℕ)) (n : ℕ) (region : List ℕ) (b : Bool) → Progress all left n region b
    → length left ≡ 1 → [] ≡ drop (2 * n) all
none_behind = grind (arith, drop_all)

progress-on : {all left : List (List ℕ)} {n : ℕ} {tag word region new : List ℕ} {b later : Bool} (value : Datum) →
    Progress all (tag ∷ word ∷ left) n region b →
    value_in tag word ≡ Some value
    → ((values : List Datum) → Stands b region values → Stands later new (values ++ value ∷ [])) →
    Progress all left (n + 1) new later
progress-on {all} {left} {n} {tag} {word} {region} {new} {b} {later} value p is on = record {
  values = p.values ++ value ∷ [];
  said = p.said ∙ ap (then_values p.values) (first_pair n tag word left value is) ∙ then_then p.values _ _;
  counted = omega (arith, p.some);
  some = omega arith;
  behind =
      let same : 2 * n ≡ 2 * (n + 1 - 1) = omega arith in
      pair_behind all _ left n tag word region b p refl ∙ ap (λ (k : ℕ). drop k all) same;
  stands = on p.values p.stands;
}

pub progress-more : (all left : List (List ℕ)) (n : ℕ) (tag word region new : List ℕ) (b : Bool)
    → Progress all (tag ∷ word ∷ left) n region b →
    appended region (value_in tag word) ≡ Ok new → Progress all left (n + 1) new b
progress-more = grind (arith, progress-on, stands-more)

pub progress-long : (all left : List (List ℕ)) (n : ℕ) (tag word region new : List ℕ) (b : Bool)
    → Progress all (tag ∷ word ∷ left) n region b →
    appended region (value_in tag word) ≡ Err faults.TooLong → Progress all left (n + 1) new true
progress-long = grind (arith, progress-on, stands-long)

-- ---- the region at the end

said-all : (values : List Datum) (n : ℕ) (left : List (List ℕ)) → left ≡ []
    → then_values values (pairs_from n left) ≡ Ok values
said-all _ n _ e = rw e (ap (λ (v : List Datum). Ok v) (append-nil _))

plain_some : (value : Datum) (others : List Datum) → 0 < length (flat_map plain (value ∷ others))
unfolding plain plain_tag
plain_some = omega arith

none_said : (words : List (List ℕ)) → pairs_from 1 words ≡ Ok [] → words ≡ []
none_said = grind arith

-- Each value has an octet, so if nothing was appended there was no pair.
pub progress-none : (all left : List (List ℕ)) (n : ℕ) (region : List ℕ) → Progress all left n region false → left ≡ []
    → region ≡ [] → all ≡ []
progress-none = grind (arith, said-all, none_said, plain_some)

pub progress-empty : (all left : List (List ℕ)) (n : ℕ) (region : List ℕ) → Progress all left n region false → left ≡ []
    → region ≡ [] → region_of all ≡ Err (Bad 1)
progress-empty _ _ n _ p e at_end = ap region_of (progress-none _ _ n _ p e at_end)

pub progress-end : (all left : List (List ℕ)) (n : ℕ) (region : List ℕ) → Progress all left n region false → left ≡ []
    → (region ≡ [] → ⊥) → region_of all ≡ Ok region
progress-end = grind (arith, said-all)

pub ruleset progress = (progress-first, progress-more, progress-long, progress-empty, progress-end, none_behind)

-- ---- values one after another are a region

contents_counted : (contents : List ℕ) (value : Datum) → StandsFor contents value
    → Counts (tag_number value) (tag_before value (length contents)).shape (length contents)
contents_counted _ values.null _ = refl
contents_counted _ (values.boolean b) held = ap length held
contents_counted _ (values.unsigned n) _ = refl
contents_counted _ (values.signed z) _ = refl
contents_counted _ (values.real r) _ = refl
contents_counted _ (values.double d) _ = refl
contents_counted _ (values.octet_string x) _ = refl
contents_counted _ (values.char_string set x) _ = refl
contents_counted _ (values.bit_string unused x) _ = refl
contents_counted _ (values.enumerated n) _ = refl
contents_counted _ (values.date d) _ = refl
contents_counted _ (values.time t) _ = refl
contents_counted _ (values.object id) _ = refl

pub values_are_region : (values : List Datum) (region : List ℕ) → SpellsAll Spells region values → IsRegion 32 region
values_are_region [] _ s = subst (IsSequence _) (sym s) none
values_are_region (value ∷ others) _ (_, first, later) =
    let spelled = first.spelled in
    subst (IsSequence _) (sym first.whole)
    (more (inl (record {
      tag = tag_before value (length spelled.contents);
      contents = spelled.contents;
      tagged = spelled.tagged;
      counted = contents_counted _ _ spelled.held;
    })) (values_are_region others _ later))

-- ---- the body of a WriteProperty request, from its region

-- The body that orders the found values, if it can be sent.
abbrev pub body_with : Identifier → ℕ → Option ℕ → Option ℕ → Result (List Datum) ℕ → Result (List ℕ) PairFault
body_with object property index priority found =
    sendable (result_seen (λ values. write_octets (order_of object property index priority (flat_map plain values)))
    found)

parameters_within : (front behind : List Parameter) (region : List ℕ)
    → length region ≤ length (flat_map plain_parameter (front ++ parameters.value region ∷ behind))
unfolding plain_parameter
parameters_within [] behind region = grind (arith, length-append)
parameters_within (first ∷ others) behind region =
    grind (arith, length-append, parameters_within others behind region)

-- A body is at least as long as its region.
pub region_within : (o : Order) → length o.value ≤ length (write_octets o)
region_within = search (arith, parameters_within)

pub body-fault : (object : Identifier) (property : ℕ) (index priority : Option ℕ) (words : List (List ℕ))
    (fault : PairFault) →
    region_of words ≡ Err fault → body_of object property index priority words ≡ Err fault
body-fault object property index priority words fault e = go (values_in words) e
  where
    within : (values : List Datum) → length (flat_map plain values) ≤ length
        (write_octets (order_of object property index priority (flat_map plain values)))
    within values = region_within (order_of object property index priority (flat_map plain values))

    long : (values : List Datum) → at_most TooLong 1497 (flat_map plain values) ≡ Err fault →
        body_with object property index priority (Ok values) ≡ Err fault
    long values e = grind (arith, within)

    go : (found : Result (List Datum) ℕ) → region_with found ≡ Err fault
        → body_with object property index priority found ≡ Err fault
    go (Err n) e = e
    go (Ok values) e = long values e

-- ---- the body from words orders their values, in the standard's words

-- A region is the spellings of the words' values, one after another, and is read as these values.
pub record AreWritten (words : List (List ℕ)) (region : List ℕ) : Type 0 where
  pub values : List Datum
  pub said : values_in words ≡ Ok values
  pub spelled : SpellsAll Spells region values
  pub read : values_of region ≡ Some values

-- The values of words whose spellings fit a frame are written one after another.
values_written : (words : List (List ℕ)) (values : List Datum) → values_in words ≡ Ok values
    → length (flat_map plain values) ≤ 1497 → AreWritten words (flat_map plain values)
values_written words values said fits =
    let range : AllByRecursion InRange values = rw said at (values_range words) in
    let spelled = whole_spell _ _ _ plain_spells _ (values_spelled _ range fits) in
    record { values = values; said = said; spelled = spelled; read = read_all _ _ spelled }

-- A region that was read from words is written from them.
pub region_written : (words : List (List ℕ)) (region : List ℕ) → region_of words ≡ Ok region → AreWritten words region
region_written = grind (arith, at_most_found, values_written)

named : (object : Identifier) (property : ℕ) (index priority : Option ℕ) (region : List ℕ) → IsIdentifier object
    → property < 2 ^ 32 → IfSome index (λ n. n < 2 ^ 32) →
    AllByRecursion IsParameter (reference_parameters (order_of object property index priority region).reference)
named = grind arith

pub bodies_written : (object : Identifier) (property : ℕ) (index priority : Option ℕ) (words : List (List ℕ))
    (body : List ℕ) →
    IsIdentifier object → property < 2 ^ 32 → IfSome index (λ n. n < 2 ^ 32) → IfSome priority IsPriority →
    body_of object property index priority words ≡ Ok body → IsWritten object property index priority words body
bodies_written object property index priority words body id low h urgent e = go (values_in words) refl e
  where
    go : (found : Result (List Datum) ℕ) → values_in words ≡ found
        → body_with object property index priority found ≡ Ok body → IsWritten object property index priority words body
    go (Err n) said e = absurd (cc)
    go (Ok values) said e =
        let region = flat_map plain values in
        let order = order_of object property index priority region in
        let (is, short) = at_most_found TooLong 476 (write_octets order) body e in
        let within = region_within order in
        let written = values_written words values said (omega arith) in
        let ordered = order_is_written order (named object property index priority region id low h)
        (values_are_region written.values region written.spelled) urgent in
        record {
          values = written.values;
          region = region;
          said = written.said;
          spelled = written.spelled;
          read = written.read;
          ordered = subst (λ (w : List ℕ). IsShortest IsWriteBody w order) (sym is) ordered;
        }
