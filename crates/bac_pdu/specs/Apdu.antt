-- The kinds of APDU, the layout of their octets (clause 20.1), and the longest APDU that each code announces.
use Rattle.std.specs.Prelude.{[], ◌%◌, ◌++◌, ◌+◌, ◌/◌, ◌<◌, ◌∷◌, ◌≡◌, Bool, false, if◌then◌else◌, List, None, Option}
use Rattle.std.specs.Prelude.{slice_index_or, Some, true, ℕ}
use Rattle.bac_pdu.specs.{Bits.bit, declared.apdu.{Apdu.Apdu, Part.Part}}
use Rattle.bac_pdu.specs.declared.apdu.Apdu.TheVariants as kinds

-- An APDU, as a value.
pub data Message : Type 0 where
  confirmed : (part : Option Part) (code id service : ℕ) (body : List ℕ) → Message
  unconfirmed : (service : ℕ) (body : List ℕ) → Message
  simple_ack : (id service : ℕ) → Message
  complex_ack : (part : Option Part) (id service : ℕ) (body : List ℕ) → Message
  segment_ack : Message
  error : (id service : ℕ) (body : List ℕ) → Message
  reject : (id reason : ℕ) → Message
  abort : (server : Bool) (id reason : ℕ) → Message

-- An `Apdu` of the code as a message.
abbrev pub message : Apdu → Message
message (kinds.Confirmed part code id service body) = confirmed part code id service body.now
message (kinds.Unconfirmed service body) = unconfirmed service body.now
message (kinds.SimpleAck id service) = simple_ack id service
message (kinds.ComplexAck part id service body) = complex_ack part id service body.now
message kinds.SegmentAck = segment_ack
message (kinds.Error id service body) = error id service body.now
message (kinds.Reject id reason) = reject id reason
message (kinds.Abort server id reason) = abort server id reason

-- ---- the layouts: the high half of the first octet is the type

-- Bit 3 of the first octet is set if the APDU is a part of a longer message; bit 2 is then set if more parts follow.
abbrev pub Flags : ℕ → Option Part → Type 0
Flags first None = bit 3 first ≡ false
Flags first (Some part) = (bit 3 first ≡ true) × (part.more ≡ bit 2 first)

-- The sequence number and the window size, which follow the invoke id if the APDU is a part.
abbrev pub part_octets : Option Part → List ℕ
part_octets None = []
part_octets (Some part) = part.sequence ∷ part.window ∷ []

-- The octets are laid out as this APDU. The second octet of a Confirmed-Request has the limits of its sender, with the
-- longest APDU in the low half. Bits and octets that are not named here are ignored.
abbrev pub IsLaidOut : List ℕ → Message → Type 0
IsLaidOut octets (confirmed part code id service body) = (first : ℕ) × (second : ℕ) × (first / 16 ≡ 0)
    × Flags first part × (second % 16 ≡ code) × (octets ≡ first ∷ second ∷ id ∷ (part_octets part ++ service ∷ body))
IsLaidOut octets (unconfirmed service body) = (first : ℕ) × (first / 16 ≡ 1) × (octets ≡ first ∷ service ∷ body)
IsLaidOut octets (simple_ack id service) = (first : ℕ) × (rest : List ℕ) × (first / 16 ≡ 2)
    × (octets ≡ first ∷ id ∷ service ∷ rest)
IsLaidOut octets (complex_ack part id service body) = (first : ℕ) × (first / 16 ≡ 3) × Flags first part
    × (octets ≡ first ∷ id ∷ (part_octets part ++ service ∷ body))
IsLaidOut octets segment_ack = (first : ℕ) × (rest : List ℕ) × (first / 16 ≡ 4) × (octets ≡ first ∷ rest)
IsLaidOut octets (error id service body) = (first : ℕ) × (first / 16 ≡ 5) × (octets ≡ first ∷ id ∷ service ∷ body)
IsLaidOut octets (reject id reason) = (first : ℕ) × (rest : List ℕ) × (first / 16 ≡ 6)
    × (octets ≡ first ∷ id ∷ reason ∷ rest)
IsLaidOut octets (abort server id reason) = (first : ℕ) × (rest : List ℕ) × (first / 16 ≡ 7) × (server ≡ bit 0 first)
    × (octets ≡ first ∷ id ∷ reason ∷ rest)

-- ---- the form that is written, with 0 in each ignored bit

-- Bits 3 and 2 of the first octet.
abbrev pub part_flags : Option Part → ℕ
part_flags None = 0
part_flags (Some part) = if part.more then 12 else 8

-- The octets that are written for an APDU.
abbrev pub laid_out : Message → List ℕ
laid_out (confirmed part code id service body) = part_flags part ∷ code ∷ id ∷ (part_octets part ++ service ∷ body)
laid_out (unconfirmed service body) = 16 ∷ service ∷ body
laid_out (simple_ack id service) = 32 ∷ id ∷ service ∷ []
laid_out (complex_ack part id service body) = (48 + part_flags part) ∷ id ∷ (part_octets part ++ service ∷ body)
laid_out segment_ack = 64 ∷ []
laid_out (error id service body) = 80 ∷ id ∷ service ∷ body
laid_out (reject id reason) = 96 ∷ id ∷ reason ∷ []
laid_out (abort server id reason) = (if server then 113 else 112) ∷ id ∷ reason ∷ []

-- The APDUs that can be written: a code has four bits, and no SegmentACK is written.
abbrev pub IsWritable : Message → Type 0
IsWritable (confirmed part code id service body) = code < 16
IsWritable segment_ack = ⊥
IsWritable _ = Unit {0}

-- The octets of the longest APDU that a code announces in its low four bits; the codes above 5 count as 0.
abbrev pub announced_size : ℕ → ℕ
announced_size code = slice_index_or (50 ∷ 128 ∷ 206 ∷ 480 ∷ 1024 ∷ 1476 ∷ []) (code % 16) 50

-- The octets of the longest service body that a client sends. With the four before it in a request they make an APDU of
-- 480 octets, which code 3 announces. The code has a constant with the same number.
abbrev pub longest_body : ℕ
longest_body = 476
