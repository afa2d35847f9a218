-- A line as the program keeps it, and its meaning.
use Rattle.std.specs.Prelude.{List, ℕ}
use Rattle.{bac_wire.specs.identifier, bac_pdu.specs.station, bac_tsm.specs.{Ask, Seen.event_seen}}
use Rattle.{bac_device.specs.Arrival}
use Rattle.bac_text.specs.{whole_body_of}
use Rattle.bac_script.specs.declared.{line.{Line.Line, Received.Received}, long_write.LongWrite.LongWrite}
use Rattle.bac_script.specs.{Line.{Asks, Blank, Happens, Remark, Said, Settings}, LongBody.octets_or_none}
use Rattle.bac_script.specs.declared.line.Line.TheVariants as line

abbrev pub arrival_seen : Received → Arrival
arrival_seen received = record { from = station received.from; datagram = received.datagram.now }

-- The body of a request that is too long to be sent.
abbrev pub long_body : LongWrite → List ℕ
long_body write =
    octets_or_none (whole_body_of (identifier write.object) write.property write.index write.priority write.words)

abbrev pub line_seen : Line → Said
line_seen line.Blank = Blank
line_seen line.Remark = Remark
line_seen (line.Client config first_ticket) = Settings config.timeout config.retries first_ticket
line_seen (line.Happens event) = Happens (event_seen event)
line_seen (line.LongWrite write) = Happens (Ask (station write.peer) 15 (long_body write))
line_seen (line.Ask received) = Asks (arrival_seen received)
