-- Requests to the demonstration device, for examples of its replies.
use Rattle.std.specs.Prelude.{[], codes, length, List, map, None, replicate, Some, ℕ, ◌++◌, ◌+◌, ◌∷◌, ◌≡◌}
use Rattle.{bac_wire.specs.Identifier.Identifier, bac_pdu.specs.Station}
use Rattle.bac_device.specs.{Demo.demo_points, Device.{device_after, DeviceState}, Info.Info, Places.Write, Point.Given}
use Rattle.bac_device.specs.Turns.{Arrival, replies_to}

-- The device of a script.
abbrev pub small : Info
small = record { instance = 1234; name = codes "Small device" }

-- 127.0.0.1, port 50000: the station that asks.
abbrev pub desk : Station
desk = record { ip = 0x7f000001; port = 50000; route = None }

-- A datagram with this APDU, after a control octet: 4 if a reply is expected, otherwise 0.
abbrev pub datagram : ℕ → List ℕ → List ℕ
datagram control apdu = 0x81 ∷ 0x0a ∷ 0x00 ∷ (6 + length apdu) ∷ 0x01 ∷ control ∷ apdu

-- The desk's requests to a new device, one after the other, and their replies: two APDUs each.
abbrev pub Exchanges : List (List ℕ × List ℕ) → Type 0
Exchanges pairs =
    replies_to small demo_points [] (map (λ (asked, _). record { from = desk; datagram = datagram 0x04 asked }) pairs)
    ≡ map (λ (_, answered). Some (desk, datagram 0x00 answered)) pairs

-- ---- objects and their properties

-- Analog-input 5. Like the other objects here it has context tag 0.
abbrev pub outdoor : List ℕ
outdoor = 0x0c ∷ 0x00 ∷ 0x00 ∷ 0x00 ∷ 0x05 ∷ []

-- The input that has a name of 36 octets.
abbrev pub long_named : List ℕ
long_named = 0x0c ∷ 0x00 ∷ 0x00 ∷ 0x00 ∷ 0x24 ∷ []

-- Analog-output 1.
abbrev pub valve : List ℕ
valve = 0x0c ∷ 0x00 ∷ 0x40 ∷ 0x00 ∷ 0x01 ∷ []

-- Binary-output 4.
abbrev pub fan : List ℕ
fan = 0x0c ∷ 0x01 ∷ 0x00 ∷ 0x00 ∷ 0x04 ∷ []

-- Multi-state-value 1.
abbrev pub season : List ℕ
season = 0x0c ∷ 0x04 ∷ 0xc0 ∷ 0x00 ∷ 0x01 ∷ []

-- Analog-input 99, which does not exist.
abbrev pub nothing : List ℕ
nothing = 0x0c ∷ 0x00 ∷ 0x00 ∷ 0x00 ∷ 0x63 ∷ []

-- Device 1234, the device itself.
abbrev pub own : List ℕ
own = 0x0c ∷ 0x02 ∷ 0x00 ∷ 0x04 ∷ 0xd2 ∷ []

-- The instance that stands for every device.
abbrev pub any_device : List ℕ
any_device = 0x0c ∷ 0x02 ∷ 0x3f ∷ 0xff ∷ 0xff ∷ []

-- A property of the object, by its number.
abbrev pub of : ℕ → List ℕ → List ℕ
of number object = object ++ 0x19 ∷ number ∷ []

-- An element of a property of the object, by its index.
abbrev pub element_of : ℕ → ℕ → List ℕ → List ℕ
element_of index number object = of number object ++ 0x29 ∷ index ∷ []

-- ---- requests and replies

-- A value between the opening and the closing tag 3.
abbrev pub holding : List ℕ → List ℕ
holding value = 0x3e ∷ value ++ 0x3f ∷ []

-- A ReadProperty of a requester that accepts APDUs of 1476 octets.
abbrev pub read : List ℕ → List ℕ
read what = 0x00 ∷ 0x05 ∷ 0x01 ∷ 0x0c ∷ what

-- A ReadProperty of a requester that accepts APDUs of 50 octets.
abbrev pub read_for_50 : List ℕ → List ℕ
read_for_50 what = 0x00 ∷ 0x00 ∷ 0x01 ∷ 0x0c ∷ what

-- The acknowledgement of a read: the property has this value.
abbrev pub is : List ℕ → List ℕ → List ℕ
is what value = 0x30 ∷ 0x01 ∷ 0x0c ∷ what ++ holding value

-- A WriteProperty of a present value, without a priority.
abbrev pub write : List ℕ → List ℕ → List ℕ
write object value = 0x00 ∷ 0x05 ∷ 0x01 ∷ 0x0f ∷ of 85 object ++ holding value

-- A WriteProperty of a present value at this priority.
abbrev pub write_at : ℕ → List ℕ → List ℕ → List ℕ
write_at priority object value = write object value ++ 0x49 ∷ priority ∷ []

-- An Error to a service, with its class and its code.
abbrev pub failed : ℕ → ℕ → ℕ → List ℕ
failed service class code = 0x50 ∷ 0x01 ∷ service ∷ 0x91 ∷ class ∷ 0x91 ∷ code ∷ []

-- An Abort of the server: segmentation not supported (4).
abbrev pub aborted : List ℕ
aborted = 0x71 ∷ 0x01 ∷ 0x04 ∷ []

-- ---- exchanges

-- A property is read, and has this value.
abbrev pub has : List ℕ → List ℕ → List ℕ × List ℕ
has what value = (read what, is what value)

-- A property is read, and the reply is an Error with this class and code.
abbrev pub has_no : List ℕ → ℕ → ℕ → List ℕ × List ℕ
has_no what class code = (read what, failed 12 class code)

-- A write is made, and the reply is a SimpleACK of WriteProperty.
abbrev pub makes : List ℕ → List ℕ × List ℕ
makes request = (request, 0x20 ∷ 0x01 ∷ 0x0f ∷ [])

-- A write is refused with an Error of this class and code.
abbrev pub refuses : List ℕ → ℕ → ℕ → List ℕ × List ℕ
refuses request class code = (request, failed 15 class code)

-- ---- values

-- The Real 72.3.
abbrev pub real_72_3 : List ℕ
real_72_3 = 0x44 ∷ 0x42 ∷ 0x90 ∷ 0x99 ∷ 0x9a ∷ []

-- The Real 20.0.
abbrev pub twenty : List ℕ
twenty = 0x44 ∷ 0x41 ∷ 0xa0 ∷ 0x00 ∷ 0x00 ∷ []

-- The Real 30.0.
abbrev pub thirty : List ℕ
thirty = 0x44 ∷ 0x41 ∷ 0xf0 ∷ 0x00 ∷ 0x00 ∷ []

-- The Real 0.0.
abbrev pub zero_real : List ℕ
zero_real = 0x44 ∷ 0x00 ∷ 0x00 ∷ 0x00 ∷ 0x00 ∷ []

-- NULL.
abbrev pub null : List ℕ
null = 0x00 ∷ []

-- An Unsigned of one octet.
abbrev pub unsigned : ℕ → List ℕ
unsigned number = 0x21 ∷ number ∷ []

-- An Enumerated of one octet.
abbrev pub enumerated : ℕ → List ℕ
enumerated number = 0x91 ∷ number ∷ []

-- ---- a device by itself

-- Analog-output 1 and analog-output 2 by their identifiers.
abbrev pub valve_id : Identifier
valve_id = record { kind = 1; instance = 1 }

abbrev pub other_id : Identifier
other_id = record { kind = 1; instance = 2 }

-- A write of 20.0 to an object, at priority 8; and the write that releases it.
abbrev pub twenty_at_8 : Identifier → Write
twenty_at_8 object = record { object = object; priority = 8; value = Some 0x41a00000 }

abbrev pub release_at_8 : Identifier → Write
release_at_8 object = record { object = object; priority = 8; value = None }

-- The device without points, and one with the demonstration points after these writes.
abbrev pub empty : DeviceState
empty = record { info = small; standings = [] }

abbrev pub after : List Write → DeviceState
after writes = device_after small demo_points writes

-- The description of a point of this object with this name: percent (98), starting at 0.
abbrev pub given_as : Identifier → List ℕ → Given
given_as object name = record { object = object; name = name; start = 0; extra = 98 }

-- The desk's request for a name of 36 octets, as a requester that accepts 50.
abbrev pub asked : Arrival
asked = record { from = desk; datagram = datagram 0x04 (read_for_50 (of 77 long_named)) }

-- Replies to `asked` with 51 octets, and with 50.
abbrev pub fifty_one : List ℕ
fifty_one = 0x30 ∷ 0x01 ∷ 0x0c ∷ replicate 48 0

abbrev pub fifty : List ℕ
fifty = 0x30 ∷ 0x01 ∷ 0x0c ∷ replicate 47 0
