-- The code's steps to the reply and the write: from the octets of an APDU down to the body of a WriteProperty.
use Rattle.std.specs.{Prelude.{Bool, if◌then◌else◌, is_none, List, None, Option, Some, ℕ, ◌&&◌, ◌==◌}, Result.result_ok}
use Rattle.{bac_wire.specs.◌>>=◌, bac_pdu.specs.{apdu_of, laid_out, Message, write_of, declared.apdu.Part.Part}}
use Rattle.bac_device.specs.{Access.accepted_write, declared.reply.ConfirmedRequest.ConfirmedRequest}
use Rattle.bac_device.specs.{Device.DeviceState, Places.Write}
use Rattle.bac_device.specs.Reply.{full_reply, order_in, reply_message}

-- The octets of the reply to the octets of an APDU.
unfoldable pub reply_apdu : DeviceState → Bool → List ℕ → Option (List ℕ)
reply_apdu device broadcast apdu = do
  message ← apdu_of apdu
  reply ← reply_message device broadcast message
  Some (laid_out reply)

-- The write that the octets of an APDU order and the device accepts.
unfoldable pub write_in_apdu : DeviceState → Bool → List ℕ → Option Write
write_in_apdu device broadcast apdu = do
  message ← apdu_of apdu
  order ← if broadcast then None else order_in message
  result_ok (accepted_write device order)

-- The write that the body of a WriteProperty orders and the device accepts.
unfoldable pub write_in_body : DeviceState → List ℕ → Option Write
write_in_body device body = result_ok (write_of body) >>= (λ o. result_ok (accepted_write device o))

-- The write that a request orders and the device accepts.
unfoldable pub write_in_request : DeviceState → Option Part → ℕ → List ℕ → Option Write
write_in_request device part service body = if is_none part && service == 15 then write_in_body device body else None

-- The reply to a request, however long, and the write that it orders and the device accepts.
abbrev pub whole_reply : DeviceState → ConfirmedRequest → Message
whole_reply device request = full_reply device request.part request.id request.service request.body.now

abbrev pub ordered_write : DeviceState → ConfirmedRequest → Option Write
ordered_write device request = write_in_request device request.part request.service request.body.now
