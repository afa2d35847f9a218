-- The contents of a datagram: the link header (Annex J.2), the network header and an APDU.
use Rattle.std.specs.Prelude.{◌≡◌, ℕ, ◌+◌, Bool, true, false, ◌||◌, is_some, List, [], ◌∷◌, ◌++◌, length, Option, Some}
use Rattle.std.specs.Prelude.{None, IfSome}
use Rattle.byteorder.specs.Endian.{big_number, big_bytes}
use Rattle.bac_pdu.specs.{declared.datagram.Carried.Carried, Peer.{NetworkAddress, Station, IsRoutable, station}}
use Rattle.bac_pdu.specs.{Header.{NetworkHeader, SpellsHeader, plain_header}, Bits.bit}

-- The contents of a datagram: its sender, whether it was sent to all, and the APDU.
pub record Delivery : Type 0 where
  pub peer : Station
  pub broadcast : Bool
  pub apdu : List ℕ

-- An opened datagram of the code as a delivery.
abbrev pub delivery : Carried → Delivery
delivery carried = record { peer = station carried.peer; broadcast = carried.broadcast; apdu = carried.apdu.now }

-- The station with this address in four octets and this port in two.
abbrev pub originator : List ℕ → List ℕ → Station
originator ip port = record { ip = big_number 4 ip; port = big_number 2 port; route = None }

-- The sender of a datagram with this function, and whether it was sent to all: 10 is an Original-Unicast-NPDU and 11 an
-- Original-Broadcast-NPDU, both from the datagram's sender; 4 is a Forwarded-NPDU, from the address and port in its
-- next six octets, and always to all.
pub data SpellsOrigin (from : Station) : ℕ → List ℕ → Station → Bool → Type 0 where
  unicast : SpellsOrigin from 10 [] from false
  broadcast : SpellsOrigin from 11 [] from true
  forwarded : (a b c d e f : ℕ)
      → SpellsOrigin from 4 (a ∷ b ∷ c ∷ d ∷ e ∷ f ∷ []) (originator (a ∷ b ∷ c ∷ d ∷ []) (e ∷ f ∷ [])) true

-- The datagram is the type 129, the function, the length of the whole datagram in two octets, the origin, the network
-- header and the APDU. A destination in the network header is all networks, and a source is one that a route leads to;
-- either may be absent. The peer is the sender, with the source as its route.
pub record Carries (from : Station) (datagram : List ℕ) (delivery : Delivery) : Type 0 where
  pub function : ℕ
  pub high : ℕ
  pub low : ℕ
  pub origin : List ℕ
  pub header : List ℕ
  pub sender : Station
  pub to_all : Bool
  pub network : NetworkHeader
  pub whole : datagram ≡ 129 ∷ function ∷ high ∷ low ∷ (origin ++ (header ++ delivery.apdu))
  pub counted : big_number 2 (high ∷ low ∷ []) ≡ length datagram
  pub sent : SpellsOrigin from function origin sender to_all
  pub headed : SpellsHeader header network
  pub destined : IfSome network.destination (λ to. to.network ≡ 65535)
  pub answerable : IfSome network.source IsRoutable
  pub peer : delivery.peer ≡ record sender { route = network.source }
  pub broadcast : delivery.broadcast ≡ (to_all || is_some network.destination)

-- ---- the form that is written

-- The unicast datagram that carries the APDU to a station: its network header has the station behind the router, if
-- any, as the destination, and no source, and says whether a reply is expected.
pub record Takes (to : Option NetworkAddress) (expect : Bool) (apdu datagram : List ℕ) : Type 0 where
  pub high : ℕ
  pub low : ℕ
  pub header : List ℕ
  pub whole : datagram ≡ 129 ∷ 10 ∷ high ∷ low ∷ (header ++ apdu)
  pub counted : big_number 2 (high ∷ low ∷ []) ≡ length datagram
  pub headed : SpellsHeader header (record { destination = to; source = None })
  pub expected : bit 2 headed.control ≡ expect

-- The datagram that is written around an APDU: the link header, the network header, and the APDU.
unfoldable pub wrapped : Option NetworkAddress → Bool → List ℕ → List ℕ
wrapped to expect apdu =
    129 ∷ 10 ∷ (big_bytes 2 (4 + length (plain_header to expect ++ apdu)) ++ (plain_header to expect ++ apdu))

-- The number of octets before an APDU: six, or ten and the address of a station behind a router.
abbrev pub front_count : Option NetworkAddress → ℕ
front_count None = 6
front_count (Some to) = 10 + length to.address
