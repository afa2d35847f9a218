-- The value of two words: the number of its application tag, and a word that is read as this type.
use Rattle.std.specs.{Bool.then_some, Int.{div_ceil, Digits.number_from_digits}, List.{list_all, range_with_len}}
use Rattle.std.specs.Prelude.{Bool, bytes_eq, codes, drop, false, if◌then◌else◌, length, List, map, neg_ℤ, None, Option}
use Rattle.std.specs.Prelude.{option_map, pos, slice_index, Some, true, ℕ, ℤ, ◌*◌, ◌-◌, ◌==◌, ◌^◌, ◌||◌}
use Rattle.std.specs.{Result.result_ok, Str.Parse.starts_with_minus}
use Rattle.hex.specs.Hex.{decode_of, decode_sized}
use Rattle.bac_wire.specs.{bit_string, boolean, char_string, enumerated, null, object, octet_string, real, signed}
use Rattle.bac_wire.specs.{unsigned, ◌>>=◌, Datum.{date, Datum, double, time}, Identifier.Identifier}
use Rattle.bac_text.specs.{Address.cut_at, Words.number_up_to}

-- The words true and 1, or false and 0.
abbrev pub boolean_in : List ℕ → Option Bool
boolean_in word =
    if bytes_eq word (codes "true") || bytes_eq word (codes "1") then Some true
    else if bytes_eq word (codes "false") || bytes_eq word (codes "0") then Some false
    else None

-- A minus sign (45) and digits, or digits alone, of a number of 64 bits in two's complement.
abbrev pub signed_in : List ℕ → Option ℤ
signed_in word =
    if starts_with_minus word then option_map (λ n. neg_ℤ (pos n)) (number_up_to (2 ^ 63) (drop 1 word))
    else option_map pos (number_up_to (2 ^ 63 - 1) word)

-- The octet of the first eight bits, the highest first; missing bits are 0.
abbrev pub bits_octet : List ℕ → ℕ
bits_octet digits = number_from_digits 2 (map (λ i. if slice_index digits i == 49 then 1 else 0) (range_with_len 0 8))

-- The octets of bits, eight bits in each.
abbrev pub bits_octets : List ℕ → List ℕ
bits_octets digits = map (λ i. bits_octet (drop (8 * i) digits)) (range_with_len 0 (div_ceil (length digits) 8))

-- A bit string of digits 0 (48) and 1 (49), the first bit first, with the last octet's unused bits 0 (clause 20.2.10).
abbrev pub bits_in : List ℕ → Option Datum
bits_in digits = then_some (list_all (λ digit. digit == 48 || digit == 49) digits)
    (bit_string (8 * div_ceil (length digits) 8 - length digits) (bits_octets digits))

-- An object type, a colon (58) and an instance (clause 20.2.14).
abbrev pub object_in : List ℕ → Option Identifier
object_in word = do
  (kind, instance) ← cut_at 58 word
  kind ← number_up_to 1023 kind
  instance ← number_up_to 4194303 instance
  Some (record { kind = kind; instance = instance })

-- The value of a word with the application tag of this number (clause 20.2.1.4). Octets are an even number of
-- hexadecimal digits: any number of octets for an octet string, otherwise four or eight. A text is in UTF-8, set 0.
unfoldable pub value_under : ℕ → List ℕ → Option Datum
value_under number word =
    if number == 0 then Some null
    else if number == 1 then option_map boolean (boolean_in word)
    else if number == 2 then option_map unsigned (number_up_to (2 ^ 64 - 1) word)
    else if number == 3 then option_map signed (signed_in word)
    else if number == 4 then option_map real (result_ok (decode_sized word 4))
    else if number == 5 then option_map double (result_ok (decode_sized word 8))
    else if number == 6 then option_map octet_string (result_ok (decode_of word))
    else if number == 7 then Some (char_string 0 word)
    else if number == 8 then bits_in word
    else if number == 9 then option_map enumerated (number_up_to (2 ^ 32 - 1) word)
    else if number == 10 then option_map date (result_ok (decode_sized word 4))
    else if number == 11 then option_map time (result_ok (decode_sized word 4))
    else if number == 12 then option_map object (object_in word)
    else None

-- The value of a pair of words.
abbrev pub value_in : List ℕ → List ℕ → Option Datum
value_in tag word = number_up_to 12 tag >>= (λ number. value_under number word)
