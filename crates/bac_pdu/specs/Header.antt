-- The network header (clause 6.2).
use Rattle.std.specs.Prelude.{[], ◌++◌, ◌∷◌, ◌≡◌, Bool, false, if◌then◌else◌, length, List, None, Option, Some, true, ℕ}
use Rattle.{byteorder.specs.Endian.{big_bytes, big_number}, bac_pdu.specs.{Bits.bit, Peer.NetworkAddress}}

-- The contents of a network header: the destination and the source, if they are in other networks.
pub record NetworkHeader : Type 0 where
  pub destination : Option NetworkAddress
  pub source : Option NetworkAddress

-- The number of the network in two octets, the length of the address, and the address.
pub record SpellsAddress (octets : List ℕ) (station : NetworkAddress) : Type 0 where
  pub high : ℕ
  pub low : ℕ
  pub whole : octets ≡ high ∷ low ∷ length station.address ∷ station.address
  pub number : station.network ≡ big_number 2 (high ∷ low ∷ [])

-- The octets are an address if the announcing bit is set, and none if it is not.
abbrev pub SpellsAnnounced : Bool → List ℕ → Option NetworkAddress → Type 0
SpellsAnnounced false octets None = octets ≡ []
SpellsAnnounced true octets (Some station) = SpellsAddress octets station
SpellsAnnounced _ octets _ = ⊥

-- The version 1, the control octet, the destination, the source and the hop count. In the control octet, bit 7 is clear
-- (it would announce a message of the network layer), bit 5 announces a destination and the hop count, which is one
-- octet, bit 3 a source, and bit 2 says that a reply is expected.
pub record SpellsHeader (octets : List ℕ) (header : NetworkHeader) : Type 0 where
  pub control : ℕ
  pub destination : List ℕ
  pub source : List ℕ
  pub hops : List ℕ
  pub whole : octets ≡ 1 ∷ control ∷ (destination ++ (source ++ hops))
  pub carries : bit 7 control ≡ false
  pub destined : SpellsAnnounced (bit 5 control) destination header.destination
  pub sent : SpellsAnnounced (bit 3 control) source header.source
  pub hopped : length hops ≡ (if bit 5 control then 1 else 0)

-- ---- the form that is written

-- The network in two octets, the length of the address, and the address.
abbrev pub address_octets : NetworkAddress → List ℕ
address_octets station = big_bytes 2 station.network ++ length station.address ∷ station.address

-- The header that is written: only the needed bits are set, and the hop count is the greatest.
abbrev pub plain_header : Option NetworkAddress → Bool → List ℕ
plain_header None expect = 1 ∷ (if expect then 4 else 0) ∷ []
plain_header (Some station) expect = 1 ∷ (if expect then 36 else 32) ∷ (address_octets station ++ 255 ∷ [])
