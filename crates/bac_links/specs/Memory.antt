-- The steps of a link in memory as scenes, and such a link as contracts see it.
use Rattle.std.specs.Prelude.{if◌then◌else◌, length, List, map, nat_le, None, Some, ℕ}
use Rattle.bac_pdu.specs.{Station, station}
use Rattle.bac_links.specs.declared.memory.{Kept.Kept, Record.Record, Step.{Step, TheVariants.{Broken, Packet, Quiet}}}
use Rattle.bac_links.specs.{History.{Account, Arrived, Entry, Failure, Heard, Silence}, Limits.longest_datagram}
use Rattle.bac_links.specs.Played.{ArePlayed, at_first, Scene, Sending, sendings}
use Rattle.bac_links.specs.declared.memory.Kept.TheVariants as kept

-- The address and the port of a station.
abbrev pub unrouted : Station → Station
unrouted peer = record peer { route = None }

-- A datagram that comes from an address and a port. It is ignored if no receive can hold it.
abbrev pub coming : Station → List ℕ → Heard
coming from octets = if nat_le (length octets) longest_datagram then Arrived (unrouted from) octets else Silence

abbrev pub scene_of_step : Step → Scene
scene_of_step (Quiet time) = record { heard = Silence; time = Some time }
scene_of_step (Packet time from octets) = record { heard = coming (station from) octets.now; time = Some time }
scene_of_step Broken = record { heard = Failure; time = None }

abbrev pub scene_of_kept : {A : Type 0} → Kept A → Scene
scene_of_kept (kept.Quiet time) = record { heard = Silence; time = Some time }
scene_of_kept (kept.Packet time from octets) = record { heard = coming (station from) octets.items; time = Some time }
scene_of_kept kept.Broken = record { heard = Failure; time = None }

-- The account of a link that was made with these scenes.
abbrev pub account_of : List Scene → List Entry → Account (List Scene)
account_of scenes history = record { made = scenes; history = history }

-- The account of a link in memory with these steps and this history.
abbrev pub account_with : {A : Type 0} → List (Kept A) → List Entry → Account (List Scene)
account_with steps = account_of (map scene_of_kept steps)

-- All answers of a link in memory are those of its scenes.
abbrev pub PlaysItsScenes : Account (List Scene) → Type 0
PlaysItsScenes account = ArePlayed (at_first account.made) account.history

-- The sends of a link in memory, in order.
abbrev pub sent_by : Account (List Scene) → List Sending
sent_by account = sendings (at_first account.made) account.history

abbrev pub sending_of : {A : Type 0} → Record A → Sending
sending_of r = record { time = r.time; to = station r.to; octets = r.octets.items }
