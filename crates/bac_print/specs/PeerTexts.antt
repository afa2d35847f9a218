-- A peer as it is printed.
use Rattle.std.specs.{Int.{to_be_bytes, w32}, List.join_with_byte, Option.option_map_or}
use Rattle.std.specs.Prelude.{[], decimal, List, map, ℕ, ◌++◌, ◌∷◌}
use Rattle.{bac_pdu.specs.{NetworkAddress, Station}, hex.specs.Hex.encode_lower}

-- The four octets of an IP address in decimal, joined by dots.
abbrev pub address_text : ℕ → List ℕ
address_text ip = join_with_byte 46 (map decimal (to_be_bytes w32 ip))

-- A slash, the number of the network, a slash and the address there.
abbrev pub route_text : NetworkAddress → List ℕ
route_text route = 47 ∷ (decimal route.network ++ 47 ∷ encode_lower route.address)

-- The address, a colon and the port, and the route, if there is one.
abbrev pub peer_text : Station → List ℕ
peer_text peer = address_text peer.ip ++ 58 ∷ (decimal peer.port ++ option_map_or route_text peer.route [])
