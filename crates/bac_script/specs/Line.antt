-- The lines of a script, and their meanings.
use Rattle.std.specs.Prelude.{[], Bool, bytes_eq, codes, Err, if◌then◌else◌, length, List, nat_lt, None, Ok, ok_or}
use Rattle.std.specs.Prelude.{Option, option_map, Result, slice_index, Some, take, ℕ, ◌&&◌, ◌-◌, ◌==◌, ◌^◌, ◌∷◌}
use Rattle.std.specs.{Result.result_ok, Str.{is_utf8, Lines.strip_carriage_return}}
use Rattle.bac_wire.specs.{◌>>=◌, Identifier.Identifier}
use Rattle.{bac_pdu.specs.read_octets, bac_tsm.specs.{Ask, Data, Event, Tick}, bac_device.specs.Arrival}
use Rattle.bac_text.specs.{longest_line, plain_peer_of, whole_body_of, words_of, Address.peer_of}
use Rattle.bac_text.specs.{Parameters.{priority_from, write_index_of}, Words.{at_end, next_as, number_up_to, octets_of}}
use Rattle.bac_script.specs.declared.line.LineFault.{LineFault, TheVariants.{Bad, TooLong}}

-- The meaning of a line: blank, a remark, the client's settings, an event of the client, or a datagram for the device.
pub data Said : Type 0 where
  Blank : Said
  Remark : Said
  Settings : (timeout retries first_ticket : ℕ) → Said
  Happens : (event : Event) → Said
  Asks : (arrival : Arrival) → Said

-- The settings TIMEOUT, at least 1, RETRIES and TICKET.
abbrev pub settings_of : List (List ℕ) → Option Said
settings_of words = do
  (timeout, words) ← next_as (number_up_to (2 ^ 32 - 1)) words
  (retries, words) ← next_as (number_up_to 255) words
  (ticket, words) ← next_as (number_up_to (2 ^ 64 - 1)) words
  if nat_lt 0 timeout then at_end words (Settings timeout retries ticket) else None

-- The number in the next word, if there is one.
abbrev pub index_in : List (List ℕ) → Option (Option ℕ × List (List ℕ))
index_in [] = Some (None, [])
index_in (word ∷ others) = option_map (λ n. (Some n, others)) (number_up_to (2 ^ 32 - 1) word)

-- The property of an object: KIND, INSTANCE and PROPERTY.
abbrev pub property_in : List (List ℕ) → Option ((Identifier × ℕ) × List (List ℕ))
property_in words = do
  (kind, words) ← next_as (number_up_to 1023) words
  (instance, words) ← next_as (number_up_to 4194303) words
  (property, words) ← next_as (number_up_to 4194303) words
  Some ((record { kind = kind; instance = instance }, property), words)

-- A ReadProperty request (service 12): PEER, a property of an object and, if given, INDEX.
abbrev pub reading_of : List (List ℕ) → Option Event
reading_of words = do
  (peer, words) ← next_as peer_of words
  ((object, property), words) ← property_in words
  (index, words) ← index_in words
  at_end words (Ask peer 12 (read_octets (record { object = object; property = property; index = index })))

-- The PRIORITY in a word, 0 to 16.
abbrev pub priority_of : List ℕ → Option (Option ℕ)
priority_of word = option_map priority_from (number_up_to 16 word)

-- A WriteProperty request (service 15), however long its body is: PEER, a property of an object, PRIORITY, INDEX, and
-- tags and values.
abbrev pub writing_of : List (List ℕ) → Option Event
writing_of words = do
  (peer, words) ← next_as peer_of words
  ((object, property), words) ← property_in words
  (priority, words) ← next_as priority_of words
  (index, words) ← next_as write_index_of words
  option_map (Ask peer 15) (result_ok (whole_body_of object property index priority words))

-- A datagram from a peer: PEER and HEX.
abbrev pub arrival_of : List (List ℕ) → Option Arrival
arrival_of words = do
  (peer, words) ← next_as plain_peer_of words
  (datagram, words) ← next_as octets_of words
  at_end words (record { from = peer; datagram = datagram })

-- The time of a tick: N.
abbrev pub tick_of : List (List ℕ) → Option Event
tick_of words = do
  (now, words) ← next_as (number_up_to (2 ^ 64 - 1)) words
  at_end words (Tick now)

-- The meaning of the words of a line, if they are in the language. Settings are allowed only on the first line that is
-- not blank or a remark. A first word that begins with # (35) makes a remark.
abbrev pub said_by : Bool → List (List ℕ) → Option Said
said_by is_first [] = Some Blank
said_by is_first (name ∷ others) =
    if slice_index name 0 == 35 then Some Remark
    else if is_first && bytes_eq name (codes "client") then settings_of others
    else if bytes_eq name (codes "read") then option_map Happens (reading_of others)
    else if bytes_eq name (codes "write") then option_map Happens (writing_of others)
    else if bytes_eq name (codes "data")
    then option_map (λ arrival. Happens (Data arrival.from arrival.datagram)) (arrival_of others)
    else if bytes_eq name (codes "tick") then option_map Happens (tick_of others)
    else if bytes_eq name (codes "ask") then option_map Asks (arrival_of others)
    else None

-- The line ends with a line feed (10).
abbrev pub ends_with_feed : List ℕ → Bool
ends_with_feed line = slice_index line (length line - 1) == 10

abbrev pub without_feed : List ℕ → List ℕ
without_feed line = if ends_with_feed line then take (length line - 1) line else line

-- The text of a line, if it has at most 4,096 octets without its line feed. Then a carriage return before the line feed
-- is dropped too.
abbrev pub text_of_line : List ℕ → Result (List ℕ) LineFault
text_of_line line =
    if nat_lt longest_line (length (without_feed line)) then Err TooLong
    else Ok (if ends_with_feed line then strip_carriage_return (without_feed line) else line)

abbrev pub said_in : Bool → Result (List ℕ) LineFault → Result Said LineFault
said_in is_first (Ok text) = if is_utf8 text then ok_or (said_by is_first (words_of text)) Bad else Err Bad
said_in is_first (Err fault) = Err fault

-- The meaning of a line. Only the first line that is not blank or a remark may have settings; the flag says whether
-- this line may.
abbrev pub said : Bool → List ℕ → Result Said LineFault
said is_first line = said_in is_first (text_of_line line)
