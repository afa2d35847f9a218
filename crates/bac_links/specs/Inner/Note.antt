-- The entry of a note.
use Rattle.bac_pdu.specs.{station}
use Rattle.bac_links.specs.declared.history.EntryNote.{EntryNote}
use Rattle.bac_links.specs.History.{Entry, heard_by, Offered, posted, Timed, Waited}
use Rattle.bac_links.specs.declared.history.EntryNote.TheVariants as note

abbrev pub entry_of : EntryNote → Entry
entry_of (note.Waited wait heard datagram) = Waited wait (heard_by heard.now datagram.now)
entry_of (note.Timed time) = Timed time
entry_of (note.Sent sent to octets) = posted sent.now (station to) octets.now
entry_of (note.Offered taken to octets) = Offered (station to) octets.now taken
