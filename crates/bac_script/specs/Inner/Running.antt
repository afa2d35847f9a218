-- One line's step of a script's client and device.
use Rattle.std.specs.Prelude.{[], List, ℕ, ◌≡◌}
use Rattle.bac_tsm.specs.{Event, keeping, new_client, step_of, Client.Client}
use Rattle.bac_device.specs.{Arrival, demo_points, device_after, DeviceState, Write, Reply.{reply_to, writes_after}}
use Rattle.bac_script.specs.{Line.{Asks, Blank, Happens, Remark, Said, Settings}, Text.{notes_text, reply_text}}
use Rattle.bac_script.specs.Running.{small_device}

-- The state of a script: its client, and the writes that its device has accepted.
pub record ScriptStage : Type 0 where
  pub client : Client
  pub writes : List Write

-- The printed text, and the state after it.
pub record ScriptTurn : Type 0 where
  pub text : List ℕ
  pub after : ScriptStage

-- The demonstration device after these writes.
abbrev pub device_with : List Write → DeviceState
device_with writes = device_after small_device demo_points writes

-- The client and the device are those of the state.
pub record Stands (stage : ScriptStage) (client : Client) (device : DeviceState) : Type 0 where
  pub as_client : client ≡ stage.client
  pub as_device : device ≡ device_with stage.writes

-- The client makes its step at an event, and its notes are printed.
abbrev pub stepped : ScriptStage → Event → ScriptTurn
stepped stage event = record {
  text = notes_text (step_of stage.client event).notes;
  after = record { client = keeping stage.client (step_of stage.client event).after; writes = stage.writes };
}

-- The device's reply to a datagram, after these writes.
abbrev pub reply_after : List Write → Arrival → List ℕ
reply_after writes arrival = reply_text (reply_to small_device demo_points writes arrival.from arrival.datagram)

-- These writes, and the write of the datagram if the device accepts it.
abbrev pub writes_with : List Write → Arrival → List Write
writes_with writes arrival = writes_after small_device demo_points writes arrival.from arrival.datagram

abbrev pub ran : ScriptStage → Said → ScriptTurn
ran stage Blank = record { text = []; after = stage }
ran stage Remark = record { text = []; after = stage }
ran stage (Settings timeout retries first_ticket) =
    record { text = []; after = record { client = new_client timeout retries first_ticket; writes = stage.writes } }
ran stage (Happens event) = stepped stage event
ran stage (Asks arrival) =
    record {
      text = reply_after stage.writes arrival;
      after = record { client = stage.client; writes = writes_with stage.writes arrival };
    }
