-- The network header that was read, as values.
use Rattle.std.specs.Prelude.{option_map}
use Rattle.bac_pdu.specs.{declared.datagram.{Address.Address, Header.Header}, Peer.NetworkAddress, Header.NetworkHeader}

-- A station of the code, as a network address.
abbrev pub address_seen : Address → NetworkAddress
address_seen station = record { network = station.network; address = station.address.now }

-- A header of the code, as one of these definitions.
abbrev pub header_seen : Header → NetworkHeader
header_seen header =
    record { destination = option_map address_seen header.destination; source = option_map address_seen header.source }
