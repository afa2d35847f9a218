-- Stations, requests and datagrams, for examples of their octets.
use Rattle.std.specs.Prelude.{◌≡◌, ℕ, Bool, true, false, List, [], ◌∷◌, Some, None}
use Rattle.bac_pdu.specs.{declared.apdu.Part.Part, Peer.Station, Datagram.Delivery, Apdu.{Message, laid_out}}
use Rattle.bac_pdu.specs.{ApduReading.apdu_of, Discovery.Introduction, Property.{Reference, Order}}

-- 192.168.1.5, port 47808.
abbrev pub desk : Station
desk = record { ip = 0xc0a80105; port = 47808; route = None }

-- The station with address 7 of network 5, behind the router at the desk's address and port.
abbrev pub far : Station
far = record { ip = 0xc0a80105; port = 47808; route = Some (record { network = 5; address = 7 ∷ [] }) }

-- The present value (85) of analog-input (type 0) 1.
abbrev pub present_value : Reference
present_value = record { object = record { kind = 0; instance = 1 }; property = 85; index = None }

-- Device (type 8) 1234, which accepts APDUs of 1476 octets, no segmentation (3), of vendor 260.
abbrev pub small_device : Introduction
small_device = record { device = record { kind = 8; instance = 1234 }; max_apdu = 1476; segmentation = 3; vendor = 260 }

-- A datagram from the desk, sent to one device, that carries this APDU.
abbrev pub from_desk : List ℕ → Delivery
from_desk apdu = record { peer = desk; broadcast = false; apdu = apdu }

-- These octets are written for the APDU, and it is read from them.
abbrev pub WritesApdu : Message → List ℕ → Type 0
WritesApdu message octets = (laid_out message ≡ octets) × (apdu_of octets ≡ Some message)

-- A datagram from the desk, sent to all, that carries this APDU.
abbrev pub to_all : List ℕ → Delivery
to_all apdu = record { peer = desk; broadcast = true; apdu = apdu }

-- A datagram with this APDU, from station 7 of this network, behind the router at the desk's address and port.
abbrev pub routed_from : ℕ → List ℕ → Delivery
routed_from network apdu = record {
  peer = record desk { route = Some (record { network = network; address = 7 ∷ [] }) };
  broadcast = false;
  apdu = apdu;
}

-- A Forwarded-NPDU of 15 octets from 192.168.1.9, port 47809, with an APDU of three; and its contents, sent to all or
-- not.
abbrev pub forwarded_octets : List ℕ → List ℕ
forwarded_octets apdu =
    0x81 ∷ 0x04 ∷ 0x00 ∷ 0x0f ∷ 0xc0 ∷ 0xa8 ∷ 0x01 ∷ 0x09 ∷ 0xba ∷ 0xc1 ∷ 0x01 ∷ 0x00 ∷ apdu

abbrev pub from_other : Bool → List ℕ → Delivery
from_other broadcast apdu =
    record { peer = record { ip = 0xc0a80109; port = 47809; route = None }; broadcast = broadcast; apdu = apdu }

-- The I-Am of the small device.
abbrev pub i_am_1234 : List ℕ
i_am_1234 = 0xc4 ∷ 0x02 ∷ 0x00 ∷ 0x04 ∷ 0xd2 ∷ 0x22 ∷ 0x05 ∷ 0xc4 ∷ 0x91 ∷ 0x03 ∷ 0x22 ∷ 0x01 ∷ 0x04 ∷ []

-- The octets of the present value of analog-input 1 in a body.
abbrev pub present_octets : List ℕ
present_octets = 0x0c ∷ 0x00 ∷ 0x00 ∷ 0x00 ∷ 0x01 ∷ 0x19 ∷ 0x55 ∷ []

-- A SimpleACK of invoke id 1, service 15.
abbrev pub ack_octets_of_1 : List ℕ
ack_octets_of_1 = 0x20 ∷ 0x01 ∷ 0x0f ∷ []

-- A second part of a message that is not the last; and one that is the last.
abbrev pub second_part : Part
second_part = record { more = true; sequence = 1; window = 4 }

abbrev pub last_part : Part
last_part = record { more = false; sequence = 1; window = 4 }

-- A write of NULL to the present value at this priority.
abbrev pub release : ℕ → Order
release priority = record { reference = present_value; value = 0x00 ∷ []; priority = Some priority }
