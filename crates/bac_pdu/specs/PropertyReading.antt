-- Reading the body of ReadProperty, of its answer or of WriteProperty from left to right.
use Rattle.std.specs.{Option.{ok_or, option_map_or}, Prelude.{[], Bool, Err, if◌then◌else◌, List, nat_lt, None, Ok}}
use Rattle.std.specs.{Prelude.{Option, Result, Some, true, ℕ, ◌&&◌, ◌∷◌}, Result.result_ok}
use Rattle.{bac_wire.specs.{enclosed_at, number_at, object_at}, bac_pdu.specs.declared.reject.RejectReason.RejectReason}
use Rattle.bac_pdu.specs.declared.reject.RejectReason.TheVariants.{InvalidTag, MissingParameter, OutOfRange, TooMany}
use Rattle.bac_pdu.specs.{Property.{Order, ReadAck, Reference}, Steps.◌>>=◌}

-- The value that was read, and the octets after it; if nothing was read, all octets are left.
abbrev pub or_none : {A : Type 0} → List ℕ → Option (A × List ℕ) → Option A × List ℕ
or_none octets None = (None, octets)
or_none octets (Some (x, rest)) = (Some x, rest)

-- A number under this tag, if there is one.
abbrev pub optional_at : ℕ → List ℕ → Option ℕ × List ℕ
optional_at number octets = or_none octets (number_at number octets)

-- The value that was read. If no octet is left, a parameter is missing; if other octets are there, the tag is invalid.
abbrev pub unless_missing : {A : Type 0} → List ℕ → Option A → Result A RejectReason
unless_missing [] found = Err MissingParameter
unless_missing (x ∷ xs) found = ok_or found InvalidTag

-- The property at the front of a body, and the octets after it.
unfoldable pub reference_at : List ℕ → Result (Reference × List ℕ) RejectReason
reference_at body = do
  (object, behind) ← unless_missing body (object_at 0 body)
  (property, after) ← unless_missing behind (number_at 1 behind)
  let (index, rest) = optional_at 2 after in Ok (record { object = object; property = property; index = index }, rest)

-- The result, if no octet is left.
abbrev pub whole_of : {A : Type 0} → A → List ℕ → Option A
whole_of x [] = Some x
whole_of x (_ ∷ _) = None

-- The property that the body of a ReadProperty asks for, or why the body is rejected.
unfoldable pub read_of : List ℕ → Result Reference RejectReason
read_of body = do
  (reference, rest) ← reference_at body
  ok_or (whole_of reference rest) TooMany

-- Whether the priority is 1 to 16, or none is named.
abbrev pub is_priority : Option ℕ → Bool
is_priority priority = option_map_or (λ n. nat_lt 0 n && nat_lt n 17) priority true

-- The write that the body of a WriteProperty orders, or why the body is rejected.
unfoldable pub write_of : List ℕ → Result Order RejectReason
write_of body = do
  (reference, behind) ← reference_at body
  (value, after) ← unless_missing behind (enclosed_at 3 behind)
  let (named, rest) = optional_at 4 after in do
    priority ← ok_or (whole_of named rest) TooMany
    if is_priority priority
        then Ok (record { reference = reference; value = value; priority = priority })
        else Err OutOfRange

-- The property and the value in the body of a ReadProperty-ACK. `None` if the body is not whole, or if more follows.
unfoldable pub ack_of : List ℕ → Option ReadAck
ack_of body = result_ok (do
  (reference, behind) ← reference_at body
  (value, rest) ← unless_missing behind (enclosed_at 3 behind)
  ok_or (whole_of (record { reference = reference; value = value }) rest) TooMany)
