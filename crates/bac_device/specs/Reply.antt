-- The device's reply to a datagram, and the write that it makes (clauses 5.4, 15.5, 15.9 and 16.10).
use Rattle.std.specs.{Option.{option_and_then, option_to_list}, Prelude.{Bool, Err, false, if◌then◌else◌, length, List}}
use Rattle.std.specs.{Prelude.{map, nat_le, None, Ok, Option, Result, Some, true, ℕ, ◌++◌, ◌==◌}, Result.result_ok}
use Rattle.bac_pdu.specs.{abort, apdu_of, carried, complex_ack, confirmed, error, laid_out, Message, Order, ReadAck}
use Rattle.bac_pdu.specs.{Reference, reject, simple_ack, Station, unconfirmed, wrapped, write_of, Apdu.announced_size}
use Rattle.bac_pdu.specs.{declared.{apdu.Part.Part, reject.RejectReason.RejectReason}, Discovery.{asks, i_am_octets}}
use Rattle.bac_pdu.specs.{Failure.error_octets, Property.ack_octets, PropertyReading.read_of, Reject.reason_number}
use Rattle.{bac_pdu.specs.ValueReading.who_is_of, bac_wire.specs.{◌>>=◌, Identifier.Identifier}}
use Rattle.bac_device.specs.{Access.{accepted_write, read_property}, declared.failure.Failure.Failure}
use Rattle.bac_device.specs.{Device.{device_after, device_object, DeviceState, is_device}, Failure.error_class}
use Rattle.bac_device.specs.{Failure.error_code, Info.Info, Limits.{greatest_apdu, no_segmentation, own_vendor}}
use Rattle.bac_device.specs.{Places.{put, Write}, Point.Description, Property.{Property, region_octets}}

-- ---- the replies to confirmed requests

-- The reply to a body that was read; if it was not read, a Reject with the reason.
abbrev pub unless_rejected : {A : Type 0} → ℕ → (A → Message) → Result A RejectReason → Message
unless_rejected id made (Ok x) = made x
unless_rejected id made (Err reason) = reject id (reason_number reason)

-- The reply to a result; if there is none, an Error with the failure.
abbrev pub unless_failed : {A : Type 0} → ℕ → ℕ → (A → Message) → Result A Failure → Message
unless_failed id service made (Ok x) = made x
unless_failed id service made (Err failure) = error id service (error_octets (error_class failure) (error_code failure))

-- The object in a reply: for the device its own instance, for any other the requested object.
abbrev pub object_in_reply : Info → Identifier → Identifier
object_in_reply info object = if is_device info object then device_object info else object

-- An acknowledgement: the requested object, property and index, and the values.
abbrev pub acknowledged : DeviceState → Reference → Property → ReadAck
acknowledged device r property =
    record { reference = record r { object = object_in_reply device.info r.object }; value = region_octets property }

-- The ReadProperty-ACK with these values.
abbrev pub ack : DeviceState → ℕ → Reference → Property → Message
ack device id r property = complex_ack None id 12 (ack_octets (acknowledged device r property))

-- The reply to a ReadProperty with this body.
unfoldable pub read_reply : DeviceState → ℕ → List ℕ → Message
read_reply device id body =
    unless_rejected id (λ r. unless_failed id 12 (ack device id r) (read_property device r)) (read_of body)

-- The reply to a WriteProperty with this body.
unfoldable pub write_reply : DeviceState → ℕ → List ℕ → Message
write_reply device id body =
    unless_rejected id (λ o. unless_failed id 15 (λ _. simple_ack id 15) (accepted_write device o)) (write_of body)

-- An Abort of the server: segmentation not supported (4, clause 18.10).
abbrev pub refused : ℕ → Message
refused id = abort true id 4

-- The reply, however long, to a request of ReadProperty (12), WriteProperty (15) or another service. A request in parts
-- is refused.
unfoldable pub full_reply : DeviceState → Option Part → ℕ → ℕ → List ℕ → Message
full_reply device (Some part) id service body = refused id
full_reply device None id service body =
    if service == 12 then read_reply device id body
    else if service == 15 then write_reply device id body
    else reject id 9

-- The reply, or an Abort if it would have more octets than the requester announced (clause 5.4.5).
abbrev pub fitting : ℕ → ℕ → Message → Message
fitting code id full = if nat_le (length (laid_out full)) (announced_size code) then full else refused id

-- ---- Who-Is (clause 16.10)

-- The I-Am of the device: its identifier, the greatest APDU that it accepts, no segmentation, and its vendor.
abbrev pub i_am : Info → Message
i_am info = unconfirmed 0 (i_am_octets (record {
  device = device_object info;
  max_apdu = greatest_apdu;
  segmentation = no_segmentation;
  vendor = own_vendor;
}))

-- The I-Am, if the body of a Who-Is asks for the device.
unfoldable pub who_is_reply : Info → List ℕ → Option Message
who_is_reply info body =
    option_and_then (λ who. if asks who info.instance then Some (i_am info) else None) (who_is_of body)

-- ---- the reply to an APDU, and to a datagram

-- The reply to an APDU: there is one to a Who-Is (8) that asks for the device, and to a confirmed request that was not
-- sent to all.
abbrev pub reply_message : DeviceState → Bool → Message → Option Message
reply_message device broadcast (confirmed part code id service body) =
    if broadcast then None else Some (fitting code id (full_reply device part id service body))
reply_message device broadcast (unconfirmed service body) = if service == 8 then who_is_reply device.info body else None
reply_message device broadcast _ = None

-- The order in a WriteProperty (15) that is not in parts.
abbrev pub order_in : Message → Option Order
order_in (confirmed None code id service body) = if service == 15 then result_ok (write_of body) else None
order_in _ = None

-- The reply of the device to a datagram from this station: the receiver, and the unicast that carries it.
unfoldable pub reply_of : DeviceState → Station → List ℕ → Option (Station × List ℕ)
reply_of device from datagram = do
  delivery ← carried from datagram
  message ← apdu_of delivery.apdu
  reply ← reply_message device delivery.broadcast message
  Some (delivery.peer, wrapped delivery.peer.route false (laid_out reply))

-- The write that a datagram from this station orders and the device accepts. A broadcast orders none.
unfoldable pub write_in_datagram : DeviceState → Station → List ℕ → Option Write
write_in_datagram device from datagram = do
  delivery ← carried from datagram
  message ← apdu_of delivery.apdu
  order ← if delivery.broadcast then None else order_in message
  result_ok (accepted_write device order)

-- The device after the write, if there is one.
abbrev pub with_write : DeviceState → Option Write → DeviceState
with_write device None = device
with_write device (Some write) = record device { standings = map (put write) device.standings }

-- ---- after a list of writes

-- The reply of a device with these points, after these writes, to a datagram from this station.
abbrev pub reply_to : Info → List Description → List Write → Station → List ℕ → Option (Station × List ℕ)
reply_to info points writes from datagram = reply_of (device_after info points writes) from datagram

-- These writes, and the one that a datagram from this station orders, if a device with these points then accepts it.
abbrev pub writes_after : Info → List Description → List Write → Station → List ℕ → List Write
writes_after info points writes from datagram =
    writes ++ option_to_list (write_in_datagram (device_after info points writes) from datagram)
