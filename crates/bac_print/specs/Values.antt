-- The texts of values, and of a region of values one after another.
use Rattle.std.specs.{Fmt.signed_decimal, Int.{bit_at, is_in_range}, List.{flat_map, join_with_byte}}
use Rattle.std.specs.{Option.option_map_or, Prelude.{[], codes, decimal, if◌then◌else◌, length, List, map, min, take}}
use Rattle.std.specs.Prelude.{ℕ, ◌*◌, ◌++◌, ◌+◌, ◌-◌, ◌==◌, ◌||◌, ◌∷◌}
use Rattle.{hex.specs.Hex.encode_lower, bac_wire.specs.{bit_string, boolean, char_string, enumerated, null, object}}
use Rattle.bac_wire.specs.{octet_string, real, signed, unsigned, values_of, Datum.{date, Datum, double, time}}
use Rattle.bac_pdu.specs.{ack_of}

-- An octet of a text in quotes. A quotation mark (34) and a backslash (92) follow a backslash, each other octet from 20
-- to 7E in hexadecimal is unchanged, and all others are a backslash, an x (120) and two digits.
abbrev pub quoted_octet : ℕ → List ℕ
quoted_octet octet =
    if octet == 34 || octet == 92 then 92 ∷ octet ∷ []
    else if is_in_range 32 126 octet then octet ∷ []
    else 92 ∷ 120 ∷ encode_lower (octet ∷ [])

-- Octets as a text between quotation marks.
abbrev pub quoted : List ℕ → List ℕ
quoted octets = 34 ∷ (flat_map quoted_octet octets ++ 34 ∷ [])

-- A letter and octets in hexadecimal digits between apostrophes (39).
abbrev pub lettered : ℕ → List ℕ → List ℕ
lettered letter octets = letter ∷ 39 ∷ (encode_lower octets ++ 39 ∷ [])

-- The eight bits of an octet as digits, 0 (48) and 1 (49), highest first.
abbrev pub octet_bits : ℕ → List ℕ
octet_bits octet = map (λ place. 48 + bit_at octet place) (7 ∷ 6 ∷ 5 ∷ 4 ∷ 3 ∷ 2 ∷ 1 ∷ 0 ∷ [])

-- The bits of octets in their order, except the unused ones at the end of the last octet (clause 20.2.10).
abbrev pub bits_text : ℕ → List ℕ → List ℕ
bits_text unused octets = take (8 * length octets - min unused 8) (flat_map octet_bits octets)

-- The text of one value. A bit string has the letter B (66), a date D (68), a time T (84), an octet string X (88). A
-- text of set 0, UTF-8, has no prefix; any other has the set's number and a colon before it (58, clause 20.2.9). An
-- object is its type, a colon and its instance.
abbrev pub datum_text : Datum → List ℕ
datum_text null = codes "null"
datum_text (boolean b) = if b then codes "true" else codes "false"
datum_text (unsigned n) = decimal n
datum_text (signed z) = signed_decimal z
datum_text (real octets) = encode_lower octets
datum_text (double octets) = encode_lower octets
datum_text (octet_string octets) = lettered 88 octets
datum_text (char_string set octets) = if set == 0 then quoted octets else decimal set ++ 58 ∷ quoted octets
datum_text (bit_string unused octets) = 66 ∷ 39 ∷ (bits_text unused octets ++ 39 ∷ [])
datum_text (enumerated n) = decimal n
datum_text (date octets) = lettered 68 octets
datum_text (time octets) = lettered 84 octets
datum_text (object id) = decimal id.kind ++ 58 ∷ decimal id.instance

-- The texts of values, joined by commas (44). No values, or several, are in braces (123, 125).
abbrev pub values_text : List Datum → List ℕ
values_text values = let joined = join_with_byte 44 (map datum_text values) in
    if length values == 1 then joined else 123 ∷ (joined ++ 125 ∷ [])

-- The text of the values in a region, or of its octets if it is not values.
abbrev pub region_text : List ℕ → List ℕ
region_text region = option_map_or values_text (values_of region) (codes "hex " ++ encode_lower region)

-- The value in the body of a ReadProperty-ACK (clause 15.5), or `bad-ack` if the octets are not such a body.
abbrev pub ack_text : List ℕ → List ℕ
ack_text body = option_map_or (λ answer. codes "value " ++ region_text answer.value) (ack_of body) (codes "bad-ack")
