-- The replies to a list of datagrams, one after the other.
use Rattle.std.specs.Prelude.{[], List, Option, ℕ, ◌∷◌, ◌≡◌}
use Rattle.{bac_pdu.specs.Station, bac_device.specs.Device.{device_after, DeviceState, Holds, points_of}}
use Rattle.bac_device.specs.{Info.Info, Places.Write, Point.Description, Reply.{reply_to, writes_after}}

-- A datagram, and the station that it came from.
pub record Arrival : Type 0 where
  pub from : Station
  pub datagram : List ℕ

-- These writes, and then the accepted writes of the datagrams.
abbrev pub all_writes : Info → List Description → List Write → List Arrival → List Write
all_writes info points writes [] = writes
all_writes info points writes (arrival ∷ arrivals) =
    all_writes info points (writes_after info points writes arrival.from arrival.datagram) arrivals

-- The reply to each datagram, after these writes and the accepted writes of the datagrams before it.
abbrev pub replies_to : Info → List Description → List Write → List Arrival → List (Option (Station × List ℕ))
replies_to info points writes [] = []
replies_to info points writes (arrival ∷ arrivals) =
    reply_to info points writes arrival.from arrival.datagram
    ∷ replies_to info points (writes_after info points writes arrival.from arrival.datagram) arrivals

-- ---- a server that replies to each datagram in turn

-- The replies are those of the definition, and the device is in the state after the accepted writes.
pub record AreDefined (device : DeviceState) (writes : List Write) (arrivals : List Arrival)
    (replies : List (Option (Station × List ℕ))) (after : DeviceState) : Type 0 where
  pub replied : replies ≡ replies_to device.info (points_of device) writes arrivals
  pub written : after
      ≡ device_after device.info (points_of device) (all_writes device.info (points_of device) writes arrivals)

-- A call gives this reply to this datagram, and leaves this device: for any writes that the device holds, both are
-- those of the definition.
abbrev pub Replies : DeviceState → Arrival → Option (Station × List ℕ) → DeviceState → Type 0
Replies device arrival reply after = (writes : List Write) → Holds device writes
    → AreDefined device writes (arrival ∷ []) (reply ∷ []) after

-- Calls for these datagrams, one after the other.
abbrev pub RepliesInTurn : DeviceState → List Arrival → List (Option (Station × List ℕ)) → DeviceState → Type 0
RepliesInTurn device [] [] after = after ≡ device
RepliesInTurn device (arrival ∷ arrivals) (reply ∷ replies) after = (next : DeviceState)
    × Replies device arrival reply next × RepliesInTurn next arrivals replies after
RepliesInTurn device _ _ after = ⊥
