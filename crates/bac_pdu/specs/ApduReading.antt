-- Reading an APDU from left to right.
use Rattle.std.specs.Prelude.{[], Bool, false, if◌then◌else◌, List, None, Option, Some, true, ℕ, ◌%◌, ◌/◌, ◌==◌, ◌∷◌}
use Rattle.{bac_wire.specs.◌>>=◌, bac_pdu.specs.Apdu.{abort, complex_ack, confirmed, error, Message, reject}}
use Rattle.bac_pdu.specs.{Apdu.{segment_ack, simple_ack, unconfirmed}, Bits.bit, declared.apdu.Part.Part}

-- The part, if the flag is set, and the octets after it.
abbrev pub part_at : ℕ → List ℕ → Bool → Option (Option Part × List ℕ)
part_at first octets false = Some (None, octets)
part_at first (sequence ∷ window ∷ octets) true =
    Some (Some (record { more = bit 2 first; sequence = sequence; window = window }), octets)
part_at first _ true = None

-- The service, and the body after it.
abbrev pub service_at : List ℕ → Option (ℕ × List ℕ)
service_at [] = None
service_at (service ∷ body) = Some (service, body)

-- The part, the service and the body.
unfoldable pub parts_at : ℕ → List ℕ → Option (Option Part × ℕ × List ℕ)
parts_at first octets = do
  (part, behind) ← part_at first octets (bit 3 first)
  (service, body) ← service_at behind
  Some (part, service, body)

-- The Confirmed-Request after a first octet.
abbrev pub confirmed_of : ℕ → List ℕ → Option Message
confirmed_of first (second ∷ id ∷ octets) =
    parts_at first octets >>= (λ (part, service, body). Some (confirmed part (second % 16) id service body))
confirmed_of first _ = None

-- The ComplexACK after a first octet.
abbrev pub complex_ack_of : ℕ → List ℕ → Option Message
complex_ack_of first (id ∷ octets) =
    parts_at first octets >>= (λ (part, service, body). Some (complex_ack part id service body))
complex_ack_of first _ = None

-- The APDU after a first octet, if its type has only the invoke id and one more octet; the rest is ignored.
abbrev pub numbered_of : (ℕ → ℕ → List ℕ → Message) → List ℕ → Option Message
numbered_of made (id ∷ octet ∷ rest) = Some (made id octet rest)
numbered_of made _ = None

-- The APDU in a list of octets.
unfoldable pub apdu_of : List ℕ → Option Message
apdu_of [] = None
apdu_of (first ∷ octets) =
    if first / 16 == 0 then confirmed_of first octets
    else if first / 16 == 1 then service_at octets >>= (λ (service, body). Some (unconfirmed service body))
    else if first / 16 == 2 then numbered_of (λ id service _. simple_ack id service) octets
    else if first / 16 == 3 then complex_ack_of first octets
    else if first / 16 == 4 then Some segment_ack
    else if first / 16 == 5 then numbered_of error octets
    else if first / 16 == 6 then numbered_of (λ id reason _. reject id reason) octets
    else if first / 16 == 7 then numbered_of (λ id reason _. abort (bit 0 first) id reason) octets
    else None
