-- A device that replies to the datagrams of a link.
use Rattle.std.specs.List.{flat_map, last_or}
use Rattle.std.specs.Prelude.{[], Err, if◌then◌else◌, length, List, nat_le, None, Ok, Option, Result, Some, ℕ, ◌∷◌, ◌≡◌}
use Rattle.bac_pdu.specs.{Station}
use Rattle.bac_device.specs.{Arrival, DeviceState, Reply.{reply_of, with_write, write_in_datagram}}
use Rattle.bac_links.specs.Asking.{Asks, Move, Over, Plays, ToSend, turn_after, waits_in}
use Rattle.bac_links.specs.declared.fault.ToolFault.{ToolFault, TheVariants.{ReceiveFailed, SendFailed}}
use Rattle.bac_links.specs.{History.{Account, Arrived, Entry, Failure, Unposted, Waited}, Limits.serve_wait}
use Rattle.bac_links.specs.Sent.{sent_in}

-- The datagram in an entry, if there is one.
abbrev pub came_by : Entry → List Arrival
came_by (Waited wait (Arrived from octets)) = record { from = from; datagram = octets } ∷ []
came_by _ = []

-- The datagrams that came, in their order.
abbrev pub arrivals_in : List Entry → List Arrival
arrivals_in = flat_map came_by

-- A device after a datagram.
abbrev pub device_next : DeviceState → Arrival → DeviceState
device_next device came = with_write device (write_in_datagram device came.from came.datagram)

-- A device after these datagrams, one after another.
abbrev pub device_behind : DeviceState → List Arrival → DeviceState
device_behind device [] = device
device_behind device (came ∷ later) = device_behind (device_next device came) later

-- The replies of a device to these datagrams, one after another.
abbrev pub replies_of : DeviceState → List Arrival → List (Option (Station × List ℕ))
replies_of device [] = []
replies_of device (came ∷ later) =
    reply_of device came.from came.datagram ∷ replies_of (device_next device came) later

-- If there is a reply, it is sent.
abbrev pub or_reply : Option (Option (Station × List ℕ)) → Move (Result ℕ ToolFault) → Move (Result ℕ ToolFault)
or_reply (Some (Some (to, octets))) other = Asks (ToSend to octets)
or_reply _ other = other

module _ (count : ℕ) where
  -- Once as many datagrams came as the count, the server is over, with the number of replies that were sent; otherwise
  -- a turn begins.
  abbrev pub serve_next : List Entry → Move (Result ℕ ToolFault)
  serve_next gained =
      if nat_le count (length (arrivals_in gained))
      then Over (Ok (length (sent_in gained)))
      else turn_after serve_wait (waits_in gained)

  -- The next move of a server, from the last entry: the reply to a datagram is sent before the next wait.
  abbrev pub serve_move : DeviceState → List Entry → Option Entry → Move (Result ℕ ToolFault)
  serve_move device gained (Some (Waited wait Failure)) = Over (Err ReceiveFailed)
  serve_move device gained (Some (Waited wait (Arrived from octets))) =
      or_reply (last_or None (replies_of device (arrivals_in gained))) (serve_next gained)
  serve_move device gained (Some (Unposted to octets)) = Over (Err SendFailed)
  serve_move device gained _ = serve_next gained

-- The answer and the sends of a serving device, and the device and the link afterwards, however the server ends and
-- whatever the link is.
pub record Serves {Origin : Type 0} (count : ℕ) (before after : DeviceState) (seen left : Account Origin)
    (result : Result ℕ ToolFault) : Type 0 where
  pub plays : Plays (serve_move count before) seen left result
  pub device : after ≡ device_behind before (arrivals_in plays.gained)
