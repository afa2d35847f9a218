-- Reading a datagram from left to right.
use Rattle.std.specs.{Option.option_map_or, Prelude.{[], Bool, drop, false, if◌then◌else◌, is_some, length, List}}
use Rattle.std.specs.Prelude.{nat_lt, None, Option, Some, take, true, ℕ, ◌&&◌, ◌+◌, ◌==◌, ◌||◌, ◌∷◌}
use Rattle.{byteorder.specs.Endian.big_number, bac_wire.specs.{◌>>=◌, TagReading.two_at}, bac_pdu.specs.Bits.bit}
use Rattle.bac_pdu.specs.{Datagram.{Delivery, originator}, Header.NetworkHeader, Peer.{NetworkAddress, Station}}

-- The octets that the first one counts, and those after them.
abbrev pub counted_at : List ℕ → Option (List ℕ × List ℕ)
counted_at [] = None
counted_at (count ∷ octets) = if nat_lt (length octets) count then None else Some (take count octets, drop count octets)

-- The network and the address of a station, and the octets after them.
unfoldable pub address_at : List ℕ → Option (NetworkAddress × List ℕ)
address_at octets = do
  (network, behind) ← two_at octets
  (address, rest) ← counted_at behind
  Some (record { network = network; address = address }, rest)

-- The address, if a bit announces one, and the octets after it.
abbrev pub announced_at : Bool → List ℕ → Option (Option NetworkAddress × List ℕ)
announced_at false octets = Some (None, octets)
announced_at true octets = address_at octets >>= (λ (address, rest). Some (Some address, rest))

-- The octets after the hop count, which is present if there is a destination.
abbrev pub behind_hops : Bool → List ℕ → Option (List ℕ)
behind_hops false octets = Some octets
behind_hops true [] = None
behind_hops true (_ ∷ octets) = Some octets

-- The network header after this control octet, and the APDU after it.
abbrev pub behind_control : ℕ → List ℕ → Option (NetworkHeader × List ℕ)
behind_control control octets = do
  (destination, behind) ← announced_at (bit 5 control) octets
  (source, after) ← announced_at (bit 3 control) behind
  apdu ← behind_hops (bit 5 control) after
  Some (record { destination = destination; source = source }, apdu)

-- The network header at the front, of version 1 and with bit 7 clear, and the APDU after it.
unfoldable pub header_at : List ℕ → Option (NetworkHeader × List ℕ)
header_at (version ∷ control ∷ octets) =
    if version == 1 then (if bit 7 control then None else behind_control control octets) else None
header_at _ = None

-- The originator in a Forwarded-NPDU, which is always a broadcast, and the octets after it.
abbrev pub forwarded_at : List ℕ → Option ((Station × Bool) × List ℕ)
forwarded_at (a ∷ b ∷ c ∷ d ∷ e ∷ f ∷ octets) =
    Some ((originator (a ∷ b ∷ c ∷ d ∷ []) (e ∷ f ∷ []), true), octets)
forwarded_at _ = None

-- The sender of a datagram with this function, whether it was sent to all, and the octets after the originator's.
abbrev pub origin_at : ℕ → Station → List ℕ → Option ((Station × Bool) × List ℕ)
origin_at function from octets =
    if function == 10 then Some ((from, false), octets)
    else if function == 11 then Some ((from, true), octets)
    else if function == 4 then forwarded_at octets
    else None

-- The sender of the datagram, whether it was sent to all, and the octets after the link header, whose length must be
-- the datagram's.
unfoldable pub link_at : Station → List ℕ → Option ((Station × Bool) × List ℕ)
link_at from (kind ∷ function ∷ high ∷ low ∷ octets) =
    if kind == 129
    then (if big_number 2 (high ∷ low ∷ []) == 4 + length octets then origin_at function from octets else None)
    else None
link_at from _ = None

-- Whether a route leads to this station.
abbrev pub is_routable : NetworkAddress → Bool
is_routable to =
    nat_lt 0 to.network && (nat_lt to.network 65535 && (nat_lt 0 (length to.address) && nat_lt (length to.address) 8))

-- Whether the network header has no destination, or all networks as its destination.
abbrev pub is_for_all : Option NetworkAddress → Bool
is_for_all destination = option_map_or (λ to. to.network == 65535) destination true

-- Whether the network header has no source, or one that a route leads to.
abbrev pub is_answerable : Option NetworkAddress → Bool
is_answerable source = option_map_or is_routable source true

-- The contents of the datagram, or None if it is ignored.
unfoldable pub carried : Station → List ℕ → Option Delivery
carried from datagram = do
  ((sender, to_all), behind) ← link_at from datagram
  (header, apdu) ← header_at behind
  if is_for_all header.destination && is_answerable header.source
      then Some (record {
        peer = record sender { route = header.source };
        broadcast = to_all || is_some header.destination;
        apdu = apdu;
      })
      else None
