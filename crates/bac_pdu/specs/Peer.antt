-- The sender or receiver of a datagram.
use Rattle.std.specs.{Prelude.{[], ℕ, ◌<◌, ◌≤◌, List, length, take, Option}, Option.option_map}
use Rattle.bac_pdu.specs.declared.{route.Route.Route, peer.Peer.Peer}

-- A station of another network: the number of its network and its address there (clause 6.2.2).
pub record NetworkAddress : Type 0 where
  pub network : ℕ
  pub address : List ℕ

-- An IP address and a port, and, for a station behind a router there, its route.
pub record Station : Type 0 where
  pub ip : ℕ
  pub port : ℕ
  pub route : Option NetworkAddress

-- The stations that a route leads to: in a network other than 0 and 65535 (all networks), with an address of one to
-- seven octets.
pub record IsRoutable (to : NetworkAddress) : Type 0 where
  pub local : 0 < to.network
  pub global : to.network < 65535
  pub shortest : 1 ≤ length to.address
  pub longest : length to.address ≤ 7

-- All stations of a network, as in a network header: the address has no octets. 65535 means all networks.
abbrev pub everyone : ℕ → NetworkAddress
everyone network = record { network = network; address = [] }

-- The station that a route leads to.
abbrev pub network_address : Route → NetworkAddress
network_address route = record { network = route.network; address = take route.count route.octets }

-- A `Peer` of the code as a station.
abbrev pub station : Peer → Station
station peer = record { ip = peer.ip; port = peer.port; route = option_map network_address peer.route }
