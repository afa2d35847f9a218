-- The acts of a run, one after another; their journal, their calls of the link, and the text that `bactrace` prints
-- from the journal.
use Rattle.std.specs.{List.flat_map, Prelude.{[], Bool, codes, decimal, if◌then◌else◌, length, List, nat_le, nat_lt}}
use Rattle.std.specs.Prelude.{false, None, Option, slice_index, Some, true, ℕ, ◌&&◌, ◌++◌, ◌-◌, ◌<◌, ◌==◌, ◌^◌}
use Rattle.std.specs.{Option.option_to_list, Prelude.{◌∷◌, ◌≡◌}}
use Rattle.{hex.specs.Hex.{encode_lower, IsBytes}, bac_pdu.specs.Station}
use Rattle.bac_tsm.specs.{Data, Event, keeping, Note, Sent, step_of, Tick, Client.Client}
use Rattle.{bac_print.specs.peer_text, bac_script.specs.{Line.ends_with_feed, Text.note_text}}
use Rattle.{bac_script.specs.declared.input.Reading.Reading}
use Rattle.bac_links.specs.{Arrived, Entry, Heard, Offered, Timed, Waited}

-- One act of a run: it takes a line of its input; it finds no more lines, since reading has ended or failed; it makes
-- the request of a line; it has waited at a line without words; it makes a Who-Is, which opens no request; it has
-- waited this many milliseconds for a line; it receives a datagram in a wait of this length, and passes it to the
-- client; it waits this long and receives nothing for the client; it reads the time; the client gets a time that was
-- read; it offers a datagram to the link, which takes or refuses it; it ends well, and closes its journal.
pub data Act : Type 0 where
  Took : (line : List ℕ) → Act
  NoLine : (reading : Reading) → Act
  Asked : (line : List ℕ) (event : Event) → Act
  Paused : Act
  Sought : (to : Station) (octets : List ℕ) → Act
  Rested : (time : ℕ) → Act
  Came : (wait : ℕ) (from : Station) (octets : List ℕ) → Act
  Passed : (wait : ℕ) (heard : Heard) → Act
  Read : (time : ℕ) → Act
  Told : (time : ℕ) → Act
  Handed : (to : Station) (octets : List ℕ) (taken : Bool) → Act
  Closed : Act

-- The notes of the client, and the client after them.
pub record Turn : Type 0 where
  pub notes : List Note
  pub after : Client

abbrev pub at_event : Client → Event → Turn
at_event client event =
    record { notes = (step_of client event).notes; after = keeping client (step_of client event).after }

-- The event of an act, if it has one for the client; and those of all acts, in their order.
abbrev pub event_in : Act → Option Event
event_in (Asked line event) = Some event
event_in (Came wait from octets) = Some (Data from octets)
event_in (Told time) = Some (Tick time)
event_in _ = None

abbrev pub events_of : List Act → List Event
events_of = flat_map (λ act. option_to_list (event_in act))

-- The client's notes on an act, and the client after it.
abbrev pub turn_for : Client → Option Event → Turn
turn_for client None = record { notes = []; after = client }
turn_for client (Some event) = at_event client event

abbrev pub turn_at : Client → Act → Turn
turn_at client act = turn_for client (event_in act)

-- The last octet of a line is a carriage return (13).
abbrev pub ends_with_return : List ℕ → Bool
ends_with_return line = slice_index line (length line - 1) == 13

-- A line with its line feed (10), which only the last line of the input may lack. If that line ends with a carriage
-- return, it gets one more, since one before a line feed does not belong to the line.
abbrev pub whole_line : List ℕ → List ℕ
whole_line line =
    if ends_with_feed line then line
    else if ends_with_return line then line ++ 13 ∷ 10 ∷ []
    else line ++ 10 ∷ []

-- The line of the settings of a client, whose first ticket is 0.
abbrev pub settings_line : ℕ → ℕ → List ℕ
settings_line timeout retries = codes "client " ++ (decimal timeout ++ 32 ∷ (decimal retries ++ codes " 0\n"))

-- The line of a datagram, and the line of a time.
abbrev pub arrival_line : Station → List ℕ → List ℕ
arrival_line from octets = codes "data " ++ (peer_text from ++ 32 ∷ (encode_lower octets ++ 10 ∷ []))

abbrev pub time_line : ℕ → List ℕ
time_line time = codes "tick " ++ (decimal time ++ 10 ∷ [])

-- A datagram of this length has a line of at most 4,096 octets: `data `, at most 21 of its peer, a space, and two
-- digits for each of its octets. A datagram without octets has none.
abbrev pub has_line : ℕ → Bool
has_line count = nat_lt 0 count && nat_le count 2034

-- The remark of a Who-Is, of a datagram that was refused, and of a wait that is over.
abbrev pub seek_text : Station → List ℕ → List ℕ
seek_text to octets = codes "who " ++ (peer_text to ++ 32 ∷ (encode_lower octets ++ 10 ∷ []))

abbrev pub unsent_text : Station → List ℕ → List ℕ
unsent_text to octets = codes "unsent " ++ (peer_text to ++ 32 ∷ (encode_lower octets ++ 10 ∷ []))

abbrev pub rest_text : ℕ → List ℕ
rest_text time = codes "wait " ++ (decimal time ++ 10 ∷ [])

-- The closing remark, which is the last line of a whole journal.
abbrev pub closing_text : List ℕ
closing_text = codes "end of the run\n"

-- The line of an act in the journal.
abbrev pub line_of : Act → List ℕ
line_of (Asked line event) = whole_line line
line_of Paused = 10 ∷ []
line_of (Sought to octets) = codes "# " ++ seek_text to octets
line_of (Rested time) = codes "# " ++ rest_text time
line_of (Came wait from octets) = arrival_line from octets
line_of (Told time) = time_line time
line_of (Handed to octets false) = codes "# " ++ unsent_text to octets
line_of Closed = codes "# " ++ closing_text
line_of _ = []

-- The answer of the link fits its line: an address of 32 bits and a port of 16, without a route, and octets that have a
-- line; a time of 64 bits.
abbrev pub FitsLine : Act → Type 0
FitsLine (Came wait from octets) = (from.ip < 2 ^ 32) × (from.port < 2 ^ 16) × (from.route ≡ None) × IsBytes octets
    × (has_line (length octets) ≡ true)
FitsLine (Told time) = time < 2 ^ 64
FitsLine act = Unit {0}

-- A note as a remark: after # (35) and a space (32), the text that `bactrace` prints for it.
abbrev pub remark : Note → List ℕ
remark note = codes "# " ++ note_text note

abbrev pub remarks : List Note → List ℕ
remarks = flat_map remark

-- The call of an act on the link, if it makes one; and those of all acts, in their order.
abbrev pub asked_by : Act → List Entry
asked_by (Came wait from octets) = Waited wait (Arrived from octets) ∷ []
asked_by (Passed wait heard) = Waited wait heard ∷ []
asked_by (Read time) = Timed time ∷ []
asked_by (Handed to octets taken) = Offered to octets taken ∷ []
asked_by _ = []

abbrev pub calls_of : List Act → List Entry
calls_of = flat_map asked_by

-- The datagram in a note on a send, with its receiver; and those in all notes, in their order.
abbrev pub sent_in : Note → List (Station × List ℕ)
sent_in (Sent ticket to octets) = (to, octets) ∷ []
sent_in _ = []

abbrev pub sends_in : List Note → List (Station × List ℕ)
sends_in = flat_map sent_in

-- The datagrams that an act makes, which the run then offers to the link: a Who-Is, or those in the client's notes.
abbrev pub sends_at : Client → Act → List (Station × List ℕ)
sends_at client (Sought to octets) = (to, octets) ∷ []
sends_at client act = sends_in (turn_at client act).notes

-- The client after these acts.
abbrev pub client_after : Client → List Act → Client
client_after client [] = client
client_after client (act ∷ later) = client_after (turn_at client act).after later

-- The notes of the client on these acts.
abbrev pub notes_of : Client → List Act → List Note
notes_of client [] = []
notes_of client (act ∷ later) = (turn_at client act).notes ++ notes_of (turn_at client act).after later

-- The journal of these acts: for each its line, and then the client's notes as remarks.
abbrev pub journal : Client → List Act → List ℕ
journal client [] = []
journal client (act ∷ later) =
    (line_of act ++ remarks (turn_at client act).notes) ++ journal (turn_at client act).after later
