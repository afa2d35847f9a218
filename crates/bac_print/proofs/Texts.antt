-- Which octets the printed texts have: each text passes a test of octets.
use Rattle.std.proofs.Common.{[], All, arith, Bool, decimal, false, flat_map, get_or, inl, inr, length, List, map}
use Rattle.std.proofs.Common.{nat_lt, None, Option, refl, Some, suc, take, true, zero, ℕ, ℤ, ◌%◌, ◌++◌, ◌/◌, ◌<◌}
use Rattle.std.proofs.{Common.{◌||◌, ◌∷◌, ◌≡◌, ◌⊎◌}, lemmas.{Bool.Decides.nat_tests, List.Elements.All-take}}
use Rattle.std.proofs.lemmas.List.{Elements.All-weaker, Folds.list_all-append, Sums.AllPass-from_list_all}
use Rattle.std.{proofs.lemmas.List.Sums.list_all-from_AllPass, specs.Char.{is_ascii_digit, is_ascii_graphic}}
use Rattle.std.specs.{Fmt.{digit_glyph, digits, digits_onto, signed_decimal}, Int.{is_in_range, to_be_bytes}}
use Rattle.{std.specs.{Int.w32, List.{join_with_byte, list_all}, Option.option_map_or}, hex.specs.Hex.encode_lower}
use Rattle.{hex.specs.Hex.{encode_with, IsBytes, lower_digits}, bac_wire.specs.{real, Datum.{Datum, double}}}
use Rattle.{bac_pdu.specs.{NetworkAddress, Station}, bac_tsm.specs.Outcome, bac_print.specs.{ack_text, bits_text}}
use Rattle.bac_print.specs.{datum_text, octet_bits, outcome_text, peer_text, quoted, quoted_octet, region_text}
use Rattle.bac_print.specs.{values_text, PeerTexts.{address_text, route_text}}

-- Each octet of the text passes the test.
abbrev pub Each : (ℕ → Bool) → List ℕ → Type 0
Each test text = list_all test text ≡ true

-- An octet of ASCII that ends no line: it is not 10 to 13.
abbrev pub is_plain : ℕ → Bool
is_plain octet = nat_lt octet 10 || is_in_range 14 127 octet

module _ (test : ℕ → Bool) where
  pub each_on : (xs ys : List ℕ) → Each test xs → Each test ys → Each test (xs ++ ys)
  each_on = grind (arith, list_all-append)

  -- What follows from the test is true of each octet.
  pub each_all : (P : ℕ → Type 0) → ((octet : ℕ) → test octet ≡ true → P octet) → (xs : List ℕ) → Each test xs
      → All P xs
  each_all P so xs is = All-weaker (λ octet. test octet ≡ true) P so xs (AllPass-from_list_all test xs is)

  pub each_front : (n : ℕ) (xs : List ℕ) → Each test xs → Each test (take n xs)
  each_front n xs is =
      list_all-from_AllPass test _ (All-take (λ x. test x ≡ true) n xs (AllPass-from_list_all test xs is))

  each_flat : (f : ℕ → List ℕ) → ((x : ℕ) → Each test (f x)) → (xs : List ℕ) → Each test (flat_map f xs)
  each_flat f all [] = refl
  each_flat f all (x ∷ xs) = grind (arith, list_all-append, all, each_flat f all xs)

  -- Texts, and an octet between any two of them.
  each_joined : {A : Type 0} (text : A → List ℕ) (mark : ℕ) → test mark ≡ true → ((x : A) → Each test (text x))
      → (xs : List A) → Each test (join_with_byte mark (map text xs))
  each_joined text mark is all [] = refl
  each_joined text mark is all (x ∷ []) = all x
  each_joined text mark is all (x ∷ y ∷ later) =
      grind (arith, list_all-append, is, all x, each_joined text mark is all (y ∷ later))

  -- The octet at a place, or 0 if the list ends before it.
  pub each_at : (xs : List ℕ) (k : ℕ) → Each test xs → (k < length xs) ⊎ (test 0 ≡ true) → test (get_or xs k 0) ≡ true
  each_at [] k = grind arith
  each_at (x ∷ xs) zero = grind arith
  each_at (x ∷ xs) (suc k) = grind (arith, each_at xs k)

module _ (test : ℕ → Bool) (digit : (octet : ℕ) → is_ascii_digit octet ≡ true → test octet ≡ true) where
  onto_each : (k n : ℕ) (acc : List ℕ) → Each test acc → Each test (digits_onto k 10 false n acc)
  onto_each zero n acc is = is
  onto_each (suc k) n acc is =
      let glyph = digit (digit_glyph false (n % 10)) (grind (arith, nat_tests)) in
      grind (arith, glyph, is, onto_each k (n / 10) (digit_glyph false (n % 10) ∷ acc))

  pub decimal_each : (n : ℕ) → Each test (decimal n)
  unfolding digits
  decimal_each n = onto_each 64 n [] refl

  pub address_each : test 46 ≡ true → (ip : ℕ) → Each test (address_text ip)
  address_each dot ip = each_joined test decimal 46 dot decimal_each (to_be_bytes w32 ip)

-- Octets in hexadecimal digits. A number above 255 has 0 in place of its first digit.
pub hex_each : (test : ℕ → Bool) → Each test lower_digits → (xs : List ℕ)
    → ((k : ℕ) → (get_or xs k 0 < 256) ⊎ (test 0 ≡ true)) → Each test (encode_lower xs)
unfolding encode_with
hex_each test are [] fit = refl
hex_each test are (x ∷ xs) fit =
    let high = each_at test lower_digits (x / 16) are (grind (arith, fit 0)) in
    let low = each_at test lower_digits (x % 16) are (inl (omega arith)) in
    rw (high, low) (hex_each test are xs (λ k. fit (suc k)))

-- ---- numbers, peers and hexadecimal digits have no blank

digit_graphic : (octet : ℕ) → is_ascii_digit octet ≡ true → is_ascii_graphic octet ≡ true
digit_graphic = grind (arith, nat_tests)

pub decimal_graphic : (n : ℕ) → Each is_ascii_graphic (decimal n)
decimal_graphic = decimal_each is_ascii_graphic digit_graphic

pub hex_graphic : (xs : List ℕ) → IsBytes xs → Each is_ascii_graphic (encode_lower xs)
hex_graphic xs bytes = hex_each is_ascii_graphic refl xs (λ k. inl (bytes k))

address_graphic : (ip : ℕ) → Each is_ascii_graphic (address_text ip)
address_graphic = address_each is_ascii_graphic digit_graphic refl

-- A peer without a route.
pub peer_graphic : (ip port : ℕ) → Each is_ascii_graphic (peer_text (record { ip = ip; port = port; route = None }))
peer_graphic = grind (arith, list_all-append, address_graphic, decimal_graphic)

-- ---- all texts are plain

abbrev Plain : List ℕ → Type 0
Plain = Each is_plain

pub graphic_plain : (text : List ℕ) → Each is_ascii_graphic text → Plain text
graphic_plain text is =
    list_all-from_AllPass is_plain text
    (each_all is_ascii_graphic (λ octet. is_plain octet ≡ true) (λ octet is. grind (arith, nat_tests, is)) text is)

pub decimal_plain : (n : ℕ) → Plain (decimal n)
decimal_plain n = graphic_plain (decimal n) (decimal_graphic n)

pub hex_plain : (xs : List ℕ) → Plain (encode_lower xs)
hex_plain xs = hex_each is_plain refl xs (λ k. inr refl)

-- What computes whether a text is plain.
ruleset plain_texts = (list_all-append, decimal_plain, hex_plain)

signed_plain : (z : ℤ) → Plain (signed_decimal z)
signed_plain = grind (arith, decimal_plain)

pub address_plain : (ip : ℕ) → Plain (address_text ip)
address_plain ip = graphic_plain (address_text ip) (address_graphic ip)

route_plain : (route : Option NetworkAddress) → Plain (option_map_or route_text route [])
route_plain None = refl
route_plain (Some route) = grind (arith, plain_texts)

pub peer_plain : (peer : Station) → Plain (peer_text peer)
peer_plain = grind (arith, plain_texts, address_plain, route_plain)

quoted_one : (octet : ℕ) → Plain (quoted_octet octet)
quoted_one = grind (arith, nat_tests, hex_plain)

quoted_plain : (octets : List ℕ) → Plain (quoted octets)
quoted_plain = grind (arith, list_all-append, each_flat is_plain quoted_octet quoted_one)

bits_of_one : (octet : ℕ) → Plain (octet_bits octet)
bits_of_one octet = grind (arith, nat_tests)

bits_plain : (unused : ℕ) (octets : List ℕ) → Plain (bits_text unused octets)
bits_plain unused octets =
    each_front is_plain _ (flat_map octet_bits octets) (each_flat is_plain octet_bits bits_of_one octets)

datum_plain : (value : Datum) → Plain (datum_text value)
datum_plain (real octets) = hex_plain octets
datum_plain (double octets) = hex_plain octets
datum_plain _ = grind (arith, plain_texts, signed_plain, quoted_plain, bits_plain)

values_plain : (values : List Datum) → Plain (values_text values)
values_plain values =
    let all = each_joined is_plain datum_text 44 refl datum_plain values in grind (arith, list_all-append, all)

region_plain : (region : List ℕ) → Plain (region_text region)
region_plain = grind (arith, hex_plain, values_plain)

ack_plain : (body : List ℕ) → Plain (ack_text body)
ack_plain = grind (arith, region_plain)

pub outcome_plain : (outcome : Outcome) → Plain (outcome_text outcome)
outcome_plain = grind (arith, plain_texts, ack_plain)
