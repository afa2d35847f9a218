-- The words of examples.
use Rattle.std.specs.Prelude.{[], codes, List, None, Ok, Result, Some, ℕ, ◌∷◌, ◌≡◌}
use Rattle.{bac_wire.specs.Identifier.Identifier, bac_pdu.specs.Station}
use Rattle.bac_text.specs.{declared.pairs.PairFault.PairFault, Inner.Pairs.region_of, Pairs.body_of}
use Prim.Native.String.{String}

-- The octets of a tag's number and a word.
abbrev pub WritesPair : String → String → List ℕ → Type 0
WritesPair tag word octets = region_of (codes tag ∷ codes word ∷ []) ≡ Ok octets

-- 127.0.0.1, port 47808.
abbrev pub device : Station
device = record { ip = 0x7f000001; port = 47808; route = None }

-- The station with address 7 of network 5, behind a router at the device's address and port.
abbrev pub far_device : Station
far_device = record { ip = 0x7f000001; port = 47808; route = Some (record { network = 5; address = 7 ∷ [] }) }

-- analog-value 2.
abbrev pub value : Identifier
value = record { kind = 2; instance = 2 }

-- The body of a request to write these tags and words to the present value (85) of analog-value 2 at priority 16.
abbrev pub body_with_words : List (List ℕ) → Result (List ℕ) PairFault
body_with_words words = body_of value 85 None (Some 16) words

-- The body of a request to write -5, a Signed.
abbrev pub minus_five : List ℕ
minus_five =
    0x0c ∷ 0x00 ∷ 0x80 ∷ 0x00 ∷ 0x02 ∷ 0x19 ∷ 0x55 ∷ 0x3e ∷ 0x31 ∷ 0xfb ∷ 0x3f ∷ 0x49 ∷ 0x10 ∷ []
