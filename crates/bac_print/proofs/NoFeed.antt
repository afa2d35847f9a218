-- Texts without a line feed: numbers, octets in hexadecimal digits, and peers. If they fit in a line, they stay as they
-- are.
use Rattle.std.proofs.Common.{[], append-nil, arith, Bool, decimal, false, get_or, is_some, length, length-take, List}
use Rattle.std.proofs.Common.{min, nat_lt, not, Option, position, refl, slice_index, Some, suc, sym, take, true}
use Rattle.std.proofs.Common.{unwrap_or, zero, zero-add, ℕ, ◌%◌, ◌*◌, ◌++◌, ◌+◌, ◌-◌, ◌/◌, ◌<◌, ◌==◌, ◌∙◌, ◌∷◌, ◌≡◌}
use Rattle.std.proofs.{Common.◌≤◌, lemmas.Bool.Decides.nat_tests}
use Rattle.std.proofs.lemmas.List.{FromFn.get_or-range_with_len, Quantifiers.position-Some}
use Rattle.std.proofs.lemmas.List.{Sums.{list_all-from_AllPass, prefix_len-le-length}, take_all, take_more}
use Rattle.{std.specs.List.{position_or_len, range_with_len}, hex.specs.Hex.{encode_lower, encode_with, lower_digits}}
use Rattle.bac_print.proofs.{Printed.{folded-append, left_after-append}, Texts.{address_plain, decimal_plain, Each}}
use Rattle.bac_print.proofs.Texts.{each_all, each_front, each_on, hex_plain, is_plain}
use Rattle.bac_print.specs.{folded, folded_line, left_after, Inner.{HasNoFeed, hex_pairs}, PeerTexts.address_text}

abbrev is_no_feed : ℕ → Bool
is_no_feed octet = not (octet == 10)

pub no_feed_fits : (text : List ℕ) (room : ℕ) → HasNoFeed text → length text ≤ room
    → (folded room text ≡ text) × (left_after room text ≡ room - length text)
no_feed_fits [] room none fits = (refl, omega arith)
no_feed_fits (x ∷ xs) room none fits =
    let other : (x == 10) ≡ false = grind (arith, none) in
    let later : HasNoFeed xs = grind (arith, none) in
    let some : nat_lt 0 room ≡ true = grind (arith, nat_tests, fits) in
    let (same, left) = no_feed_fits xs (room - 1) later (omega (arith, fits)) in
    grind (arith, other, some, same, left)

no_feed_before : (xs : List ℕ) (n : ℕ) → n ≤ position_or_len (λ octet. octet == 10) xs → HasNoFeed (take n xs)
no_feed_before xs zero within = refl
no_feed_before [] (suc n) within = refl
no_feed_before (x ∷ xs) (suc n) within = grind (arith, no_feed_before xs n)

-- The octets before a line feed that fit in the line stay as they are.
pub plain_front : (text front : List ℕ) (room : ℕ)
    → front ≡ take (min (unwrap_or (position (λ octet. octet == 10) text) (length text)) room) text →
    (folded room front ≡ front) × (left_after room front ≡ room - length front)
plain_front text front room is =
    let place = position_or_len (λ octet. octet == 10) text in
    let within = prefix_len-le-length (λ octet. not (octet == 10)) text in
    let found : unwrap_or (position (λ octet. octet == 10) text) (length text) ≡ place = grind (arith, within) in
    let front_is : front ≡ take (min place room) text = rw found at is in
    no_feed_fits front room (rw front_is (no_feed_before text (min place room) (omega arith)))
    (grind (arith, front_is, length-take))

-- A text in which no line feed was found stays as it is, if it fits in its line.
pub plain_text : (text : List ℕ) (room : ℕ) (found : Option ℕ) → found ≡ position (λ octet. octet == 10) text
    → is_some found ≡ false → length text ≤ room
    → (folded room text ≡ text) × (left_after room text ≡ room - length text)
plain_text text room found is none fits = grind (arith, plain_front text text room, take_all)

pub no_feed_left : (text : List ℕ) (room : ℕ) → HasNoFeed text → length text ≤ room
    → left_after room text ≡ room - length text
no_feed_left text room none fits = let (_, left) = no_feed_fits text room none fits in left

-- A text whose only line feed is its last octet stays as it is, if it fits in its line, and a new line begins after it.
pub one_line : (text : List ℕ) (end room : ℕ) → position (λ octet. octet == 10) text ≡ Some end
    → end + 1 ≡ length text → end ≤ room → (folded room text ≡ text) × (left_after room text ≡ folded_line)
one_line text end room found whole fits =
    let (within, feed, _) = position-Some (λ (octet : ℕ). octet == 10) text end 0 found in
    let first : take end text ≡ take (min (unwrap_or (position (λ octet. octet == 10) text) (length text)) room) text =
    grind (arith, found, fits) in
    let (same, left) = plain_front text (take end text) room first in
    let last : get_or text end 0 ≡ 10 = grind (arith, nat_tests, feed) in
    let parts : text ≡ take end text ++ 10 ∷ [] =
    sym (take_all (end + 1) text (omega (arith, whole))) ∙ take_more text end 0 within ∙ rw last refl in
    let all = folded-append room (take end text) (10 ∷ []) in
    let behind = left_after-append room (take end text) (10 ∷ []) in (
      rw parts (all ∙ rw same refl),
      rw parts behind,
    )

-- ---- numbers, peers and hexadecimal digits have no line feed

plain_no_feed : (text : List ℕ) → Each is_plain text → HasNoFeed text
plain_no_feed text is =
    list_all-from_AllPass is_no_feed text
    (each_all is_plain (λ octet. is_no_feed octet ≡ true) (λ octet is. grind (arith, nat_tests, is)) text is)

-- The digits of a number that end their room.
pub no_feed_digits : (n k : ℕ) (written rest : List ℕ) → written ≡ decimal n ++ rest → rest ≡ []
    → HasNoFeed (take k written)
no_feed_digits n k written rest is none =
    rw (is, none, append-nil (decimal n))
    (each_front is_no_feed k (decimal n) (plain_no_feed (decimal n) (decimal_plain n)))

pub no_feed_hex : (xs : List ℕ) → HasNoFeed (encode_lower xs)
no_feed_hex xs = plain_no_feed (encode_lower xs) (hex_plain xs)

pub no_feed_station : (ip port k : ℕ) (written : List ℕ) → written ≡ address_text ip ++ 58 ∷ decimal port
    → HasNoFeed (take k written)
no_feed_station ip port k written is =
    let plain : Each is_plain (address_text ip ++ 58 ∷ decimal port) =
    each_on is_plain (address_text ip) (58 ∷ decimal port) (address_plain ip) (decimal_plain port) in
    rw is
    (each_front is_no_feed k (address_text ip ++ 58 ∷ decimal port)
    (plain_no_feed (address_text ip ++ 58 ∷ decimal port) plain))

-- ---- pairs of digits

pair_at : (t xs : List ℕ) (i : ℕ) → i < length xs
    → (slice_index (encode_with t xs) (2 * i) ≡ slice_index t (slice_index xs i / 16))
    × (slice_index (encode_with t xs) (2 * i + 1) ≡ slice_index t (slice_index xs i % 16))
unfolding encode_with
pair_at t [] i within = absurd (omega (arith, within))
pair_at t (x ∷ xs) zero within = (refl, refl)
pair_at t (x ∷ xs) (suc i) within =
    let (high, low) = pair_at t xs i (omega (arith, within)) in
    let first : 2 * suc i ≡ suc (suc (2 * i)) = omega arith in
    let second : 2 * suc i + 1 ≡ suc (suc (2 * i + 1)) = omega arith in
    (rw first high, rw second low)

pub pair_of : (octet : ℕ) → octet < 256
    → (slice_index hex_pairs (2 * octet) ≡ slice_index lower_digits (octet / 16))
    × (slice_index hex_pairs (2 * octet + 1) ≡ slice_index lower_digits (octet % 16))
unfolding hex_pairs
pair_of octet small =
    rw (get_or-range_with_len 0 256 octet 0 small ∙ zero-add octet)
    at (pair_at lower_digits (range_with_len 0 256) octet small)
