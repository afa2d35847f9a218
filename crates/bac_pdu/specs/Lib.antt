pub mod Steps
pub mod Bits
pub mod Peer
pub mod Header
pub mod Datagram
pub mod DatagramReading
pub mod Apdu
pub mod ApduReading
pub mod Parameter
pub mod Property
pub mod Reject
pub mod PropertyReading
pub mod Discovery
pub mod Failure
pub mod ValueReading
pub mod Found
pub mod Inner
unfoldable pub use Steps.*
unfoldable pub use Bits.*
unfoldable pub use Peer.*
unfoldable pub use Header.*
unfoldable pub use Datagram.*
unfoldable pub use DatagramReading.*
unfoldable pub use Apdu.*
unfoldable pub use ApduReading.*
unfoldable pub use Parameter.*
unfoldable pub use Property.*
unfoldable pub use Reject.*
unfoldable pub use PropertyReading.*
unfoldable pub use Discovery.*
unfoldable pub use Failure.*
unfoldable pub use ValueReading.*
unfoldable pub use Found.*
pub use Rattle.bac_pdu.specs.Apdu.{abort, complex_ack, confirmed, error, IsLaidOut, laid_out, longest_body, Message}
pub use Rattle.bac_pdu.specs.{Apdu.{reject, simple_ack, unconfirmed}, Datagram.{Carries, Delivery}}
pub use Rattle.bac_pdu.specs.declared.discovery.WhoIs.{WhoIs, TheVariants.Range}
pub use Rattle.bac_pdu.specs.declared.reject.RejectReason.{RejectReason, TheVariants.InvalidTag}
pub use Rattle.bac_pdu.specs.declared.reject.RejectReason.TheVariants.{MissingParameter, OutOfRange, TooMany}
pub use Rattle.bac_pdu.specs.Peer.{network_address, NetworkAddress, Station, station}
pub use Rattle.bac_pdu.specs.{Property.{IsPriority, Order, read_octets, ReadAck, Reference, reference}, Steps.◌>>=◌}
unfoldable pub use Rattle.bac_pdu.specs.{ApduReading.{apdu_of, parts_at}, Datagram.wrapped, DatagramReading.address_at}
unfoldable pub use Rattle.bac_pdu.specs.{DatagramReading.{carried, header_at, link_at}, Parameter.plain_parameter}
unfoldable pub use Rattle.bac_pdu.specs.{PropertyReading.{ack_of, write_of}, ValueReading.error_of}
