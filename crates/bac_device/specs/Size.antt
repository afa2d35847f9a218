-- The lengths of the device's replies.
use Rattle.std.specs.{Option.ForSome, Prelude.{[], false, length, List, Option, ℕ, ◌∷◌, ◌≡◌, ◌≤◌, ◌⊎◌}}
use Rattle.bac_pdu.specs.{Carries, confirmed, Delivery, IsLaidOut, Message, Station, unconfirmed, Apdu.announced_size}
use Rattle.{bac_pdu.specs.Datagram.Takes, bac_device.specs.Turns.Arrival}

-- The length of the APDU of a reply. For a confirmed request it is at most what the request's code announces, the
-- longest APDU that the requester accepts, or the reply is the Abort 71 id 04. For an unconfirmed request it is fifteen
-- octets, the length of an I-Am. Other APDUs have no reply.
abbrev pub FitsRequest : Message → List ℕ → Type 0
FitsRequest (confirmed part code id service body) apdu =
    (length apdu ≤ announced_size code) ⊎ (apdu ≡ 0x71 ∷ id ∷ 0x04 ∷ [])
FitsRequest (unconfirmed service body) apdu = length apdu ≡ 15
FitsRequest _ apdu = ⊥

-- The reply goes to the station of the request in the datagram, and its APDU fits that request. A datagram carries only
-- one APDU to a station (law `wrapped_round` of bac_pdu, `one`).
abbrev pub ReplyFits : Station → List ℕ → Station × List ℕ → Type 0
ReplyFits from datagram (to, reply) = (delivery : Delivery) (request : Message) → Carries from datagram delivery
    → IsLaidOut delivery.apdu request
    → (apdu : List ℕ) × Takes to.route false apdu reply × FitsRequest request apdu

-- Each reply fits its datagram, and there are as many replies as datagrams.
abbrev pub RepliesFit : List Arrival → List (Option (Station × List ℕ)) → Type 0
RepliesFit [] replies = replies ≡ []
RepliesFit (arrival ∷ arrivals) [] = ⊥
RepliesFit (arrival ∷ arrivals) (reply ∷ replies) =
    ForSome reply (ReplyFits arrival.from arrival.datagram) × RepliesFit arrivals replies
