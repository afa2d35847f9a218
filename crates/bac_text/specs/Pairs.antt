-- The words of a property's value: tags and values in turn, and the body of the request that writes them.
use Rattle.std.specs.{List.flat_map, Prelude.{[], drop, Err, if◌then◌else◌, length, List, nat_le, None, Ok, Option}}
use Rattle.std.specs.Prelude.{Result, Some, ℕ, ◌*◌, ◌+◌, ◌∷◌}
use Rattle.bac_pdu.specs.{longest_body, Order, Property.write_octets}
use Rattle.bac_wire.specs.{plain, result_seen, Datum.Datum, Identifier.Identifier}
use Rattle.bac_text.specs.{declared.pairs.PairFault.{PairFault, TheVariants.{Bad, TooLong}}, ValueWords.value_in}

-- The value of a pair, and then those of the later pairs, or the number of the first pair without a value.
abbrev pub value_before : ℕ → Option Datum → Result (List Datum) ℕ → Result (List Datum) ℕ
value_before n None more = Err n
value_before n (Some value) more = result_seen (λ values. value ∷ values) more

-- The values of pairs of words, or the number of the first pair that cannot be read or has only one word. The first
-- pair has this number.
abbrev pub pairs_from : ℕ → List (List ℕ) → Result (List Datum) ℕ
pairs_from n [] = Ok []
pairs_from n (tag ∷ []) = Err n
pairs_from n (tag ∷ word ∷ others) = value_before n (value_in tag word) (pairs_from (n + 1) others)

-- The values of at least one pair.
abbrev pub values_in : List (List ℕ) → Result (List Datum) ℕ
values_in [] = Err 1
values_in (tag ∷ others) = pairs_from 1 (tag ∷ others)

-- The words that are left: none, or those after the first pair without a value.
abbrev pub words_behind : {A : Type 0} → Result A PairFault → List (List ℕ) → List (List ℕ)
words_behind (Err (Bad n)) words = drop (2 * n) words
words_behind _ words = []

-- The body, if it is not too long for a client to send.
abbrev pub sendable : Result (List ℕ) ℕ → Result (List ℕ) PairFault
sendable (Ok body) = if nat_le (length body) longest_body then Ok body else Err TooLong
sendable (Err n) = Err (Bad n)

module _ (object : Identifier) (property : ℕ) (index priority : Option ℕ) where
  -- The order of a WriteProperty request: a property gets these octets as its value.
  abbrev pub order_of : List ℕ → Order
  order_of region =
      record {
        reference = record { object = object; property = property; index = index };
        value = region;
        priority = priority;
      }

  -- The body of the request that writes the values of these words, however long it is (clause 15.9), or the number of
  -- the first pair without a value.
  abbrev pub whole_body_of : List (List ℕ) → Result (List ℕ) ℕ
  whole_body_of words = result_seen (λ values. write_octets (order_of (flat_map plain values))) (values_in words)

  -- The body of the request that writes the values of these words, if it can be sent.
  abbrev pub body_of : List (List ℕ) → Result (List ℕ) PairFault
  body_of words = sendable (whole_body_of words)
