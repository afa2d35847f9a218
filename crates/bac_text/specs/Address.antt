-- A peer as text: four numbers joined by dots, a port after a colon, and a route after a slash.
use Rattle.std.specs.{Option.option_map_or, Prelude.{bytes_eq, codes, drop, if◌then◌else◌, length, List, nat_le}}
use Rattle.std.specs.Prelude.{nat_lt, None, Option, option_map, position, Some, take, unwrap_or, ℕ, ◌*◌, ◌+◌, ◌==◌}
use Rattle.{bac_pdu.specs.{NetworkAddress, Station, DatagramReading.is_routable}, bac_wire.specs.◌>>=◌}
use Rattle.bac_text.specs.Words.{number_up_to, octets_of}

-- The octets before and after the first octet with this value, if there is one.
abbrev pub cut_at : ℕ → List ℕ → Option (List ℕ × List ℕ)
cut_at octet text = option_map (λ i. (take i text, drop (i + 1) text)) (position (λ o. o == octet) text)

-- The number in a word of at most this many digits, up to a limit.
abbrev pub short_number : ℕ → ℕ → List ℕ → Option ℕ
short_number digits limit text = if nat_le (length text) digits then number_up_to limit text else None

-- A number up to 255 before a dot (46), and the octets after the dot.
abbrev pub number_before_dot : List ℕ → Option (ℕ × List ℕ)
number_before_dot text = do
  (digits, rest) ← cut_at 46 text
  option_map (λ n. (n, rest)) (short_number 3 255 digits)

-- Four numbers joined by dots, the highest first.
abbrev pub address_of : List ℕ → Option ℕ
address_of text = do
  (first, rest) ← number_before_dot text
  (second, rest) ← number_before_dot rest
  (third, rest) ← number_before_dot rest
  fourth ← short_number 3 255 rest
  Some (((first * 256 + second) * 256 + third) * 256 + fourth)

-- An address and a port.
abbrev pub station_at : List ℕ × List ℕ → Option Station
station_at (address, number) = do
  port ← short_number 5 65535 number
  ip ← address_of address
  Some (record { ip = ip; port = port; route = None })

-- A peer without a route: an address, and a colon (58) and a port, or the usual port 47808.
abbrev pub plain_peer_of : List ℕ → Option Station
plain_peer_of text = station_at (unwrap_or (cut_at 58 text) (text, codes "47808"))

-- A network 1 to 65534 and an address of one to seven octets in it.
abbrev pub routable : NetworkAddress → Option NetworkAddress
routable to = if is_routable to then Some to else None

-- The number of the network, a slash (47) and the address in hexadecimal digits.
abbrev pub route_of : List ℕ → Option NetworkAddress
route_of text = do
  (number, digits) ← cut_at 47 text
  network ← number_up_to 65535 number
  address ← octets_of digits
  routable (record { network = network; address = address })

-- A router, and a route after it.
abbrev pub routed_peer_of : List ℕ × List ℕ → Option Station
routed_peer_of (plain, behind) = do
  router ← plain_peer_of plain
  route ← route_of behind
  Some (record router { route = Some route })

-- A peer: a router before a slash (47), and a route after it; without a slash, a peer without a route.
abbrev pub peer_of : List ℕ → Option Station
peer_of text = option_map_or routed_peer_of (cut_at 47 text) (plain_peer_of text)

-- The network that a word names: a number 1 to 65534, or a star (42) for all networks (65535).
abbrev pub network_of : List ℕ → Option ℕ
network_of word =
    if bytes_eq word (codes "*") then Some 65535 else (do
      number ← number_up_to 65534 word
      if nat_lt 0 number then Some number else None)

-- A router, a slash (47) and a network.
abbrev pub network_at : List ℕ → Option (List ℕ × ℕ)
network_at text = do
  (router, behind) ← cut_at 47 text
  option_map (λ network. (router, network)) (network_of behind)

-- The receivers of a Who-Is: a peer, or all stations of a network behind a router.
abbrev pub reach_of : List ℕ → Option (Station × Option ℕ)
reach_of text = option_map_or (λ (router, network). option_map (λ peer. (peer, Some network)) (plain_peer_of router))
    (network_at text) (option_map (λ peer. (peer, None)) (peer_of text))
