-- The bodies of Who-Is and I-Am (clauses 16.10 and 21).
use Rattle.std.specs.{List.flat_map, Prelude.{[], Bool, List, nat_le, true, ℕ, ◌&&◌, ◌++◌, ◌∷◌, ◌≡◌}}
use Rattle.bac_wire.specs.{enumerated, identifier, number_octets, plain, Spells, SpellsAll, unsigned, Datum.Datum}
use Rattle.bac_wire.specs.Identifier.{Identifier}
use Rattle.bac_pdu.specs.{declared.discovery.{IAm.IAm, WhoIs.WhoIs}, Parameter.{numbered, SpellsParameter}}
use Rattle.bac_wire.specs.Datum as values
use Rattle.bac_pdu.specs.declared.discovery.WhoIs.TheVariants as limits

-- The body of a Who-Is: nothing, or the low limit under tag 0 and the high one under tag 1.
abbrev pub IsWhoIsBody : List ℕ → WhoIs → Type 0
IsWhoIsBody body limits.All = body ≡ []
IsWhoIsBody body (limits.Range low high) = SpellsAll SpellsParameter body (numbered 0 low ∷ numbered 1 high ∷ [])

-- Whether a Who-Is asks for the device with this instance.
abbrev pub asks : WhoIs → ℕ → Bool
asks limits.All instance = true
asks (limits.Range low high) instance = nat_le low instance && nat_le instance high

-- The contents of an I-Am: the device's identifier, the longest APDU that it accepts, its segmentation and its vendor.
pub record Introduction : Type 0 where
  pub device : Identifier
  pub max_apdu : ℕ
  pub segmentation : ℕ
  pub vendor : ℕ

-- An `IAm` of the code as an introduction.
abbrev pub introduction : IAm → Introduction
introduction i =
    record { device = identifier i.device; max_apdu = i.max_apdu; segmentation = i.segmentation; vendor = i.vendor }

-- The values in the body of an I-Am, in their order.
abbrev pub introduction_values : Introduction → List Datum
introduction_values i =
    values.object i.device ∷ unsigned i.max_apdu ∷ enumerated i.segmentation ∷ unsigned i.vendor ∷ []

-- The body of an I-Am: four values under application tags. The first is an object of type 8, a device.
pub record IsIAmBody (body : List ℕ) (i : Introduction) : Type 0 where
  pub device : i.device.kind ≡ 8
  pub spelled : SpellsAll Spells body (introduction_values i)

-- ---- the form that is written

-- The body that is written for a Who-Is.
abbrev pub who_is_octets : WhoIs → List ℕ
who_is_octets limits.All = []
who_is_octets (limits.Range low high) = number_octets 0 low ++ number_octets 1 high

-- The body that is written for an I-Am.
abbrev pub i_am_octets : Introduction → List ℕ
i_am_octets i = flat_map plain (introduction_values i)
