-- The device that introduces itself in a datagram (I-Am, clause 16.10).
use Rattle.std.specs.Prelude.{if◌then◌else◌, List, None, Option, Some, ℕ, ◌==◌}
use Rattle.bac_wire.specs.{◌>>=◌}
use Rattle.bac_pdu.specs.{Apdu.{Message, unconfirmed}, ApduReading.apdu_of, DatagramReading.carried}
use Rattle.bac_pdu.specs.{declared.{discovery.WhoIs.WhoIs, found.Found.Found as Finding}, Discovery.asks}
use Rattle.bac_pdu.specs.{Discovery.{Introduction, introduction}, Peer.{Station, station}, ValueReading.introduction_of}

-- A device that introduced itself, and its address.
pub record Found : Type 0 where
  pub peer : Station
  pub device : Introduction

-- The contents of an I-Am (0).
abbrev pub introduced_in : Message → Option Introduction
introduced_in (unconfirmed service body) = if service == 0 then introduction_of body else None
introduced_in _ = None

-- The device that introduces itself in a datagram, if the Who-Is asks for the device; otherwise `None`.
unfoldable pub found_of : WhoIs → Station → List ℕ → Option Found
found_of who from octets = do
  delivery ← carried from octets
  message ← apdu_of delivery.apdu
  device ← introduced_in message
  if asks who device.device.instance then Some (record { peer = delivery.peer; device = device }) else None

-- A `Found` of the code as one of these definitions.
abbrev pub found_seen : Finding → Found
found_seen found = record { peer = station found.peer; device = introduction found.device }
