-- A script as a whole: its lines, their meanings, the text that is printed for them, and how it ends.
use Rattle.std.specs.{List.{flat_map, onto_first}, Option.option_map_or, Prelude.{[], Bool, Err, false, filter}}
use Rattle.std.specs.Prelude.{if◌then◌else◌, length, List, MatchOption, nat_lt, None, Ok, Option, Result, Some, suc}
use Rattle.std.specs.{Prelude.{true, ℕ, ◌&&◌, ◌++◌, ◌+◌, ◌==◌, ◌||◌, ◌∷◌, ◌≡◌}, Result.result_ok}
use Rattle.{bac_device.specs.{Arrival, demo_points, replies_to}, bac_pdu.specs.Station, bac_text.specs.longest_line}
use Rattle.bac_tsm.specs.{Accepted, client_rules, Event, Note, Rules, Lookahead.{accepted, output}}
use Rattle.bac_script.specs.declared.input.Reading.{Reading, TheVariants.{AtEnd, Failed, Open}}
use Rattle.bac_script.specs.declared.line.LineFault.{LineFault, TheVariants.{Bad, TooLong}}
use Rattle.bac_script.specs.declared.tracing.{TraceEnd.TraceEnd, TraceFault.TraceFault}
use Rattle.bac_script.specs.declared.tracing.TraceFault.TheVariants.{BadLine, LineTooLong, ReadFailed, WriteFailed}
use Rattle.bac_script.specs.{Line.{Asks, Blank, ends_with_feed, Happens, Remark, Said, said, Settings}}
use Rattle.bac_script.specs.{Running.small_device, Text.{notes_text, reply_text}}

-- The octets, cut after each line feed; the last piece may lack one.
abbrev pub pieces : List ℕ → List (List ℕ)
pieces [] = []
pieces (octet ∷ octets) = if octet == 10 then (octet ∷ []) ∷ pieces octets else onto_first octet (pieces octets)

-- A piece without a line feed is a line only at the end of the input, or once it is too long.
abbrev pub is_line : Reading → List ℕ → Bool
is_line AtEnd piece = true
is_line _ piece = ends_with_feed piece || nat_lt longest_line (length piece)

-- The lines of the octets that the reader gave, depending on how reading stopped.
abbrev pub lines : List ℕ → Reading → List (List ℕ)
lines octets reading = filter (is_line reading) (pieces octets)

-- The line is blank or a remark.
abbrev pub is_nothing : Said → Bool
is_nothing Blank = true
is_nothing Remark = true
is_nothing _ = false

-- The meanings of the lines, up to the first that is bad or too long. The flag says whether the first of them may have
-- settings.
abbrev pub said_from : Bool → List (List ℕ) → List Said
said_from is_first [] = []
said_from is_first (line ∷ lines) =
    option_map_or (λ one. one ∷ said_from (is_first && is_nothing one) lines) (result_ok (said is_first line)) []

-- The meanings of the lines of a script.
abbrev pub all_said : List (List ℕ) → List Said
all_said lines = said_from true lines

-- The settings and the first ticket of a script's client.
pub record ClientSettings : Type 0 where
  pub timeout : ℕ
  pub retries : ℕ
  pub first_ticket : ℕ

-- The settings of a script, if its first line that is not blank or a remark has settings; otherwise the usual ones.
abbrev pub settings_in : List Said → ClientSettings
settings_in (Blank ∷ later) = settings_in later
settings_in (Remark ∷ later) = settings_in later
settings_in (Settings timeout retries first_ticket ∷ later) =
    record { timeout = timeout; retries = retries; first_ticket = first_ticket }
settings_in _ = record { timeout = 3000; retries = 3; first_ticket = 0 }

abbrev pub event_in : Said → List Event
event_in (Happens event) = event ∷ []
event_in _ = []

-- The events of a script, in order.
abbrev pub events_in : List Said → List Event
events_in = flat_map event_in

abbrev pub arrival_in : Said → List Arrival
arrival_in (Asks arrival) = arrival ∷ []
arrival_in _ = []

-- The datagrams for the device, in order.
abbrev pub arrivals_in : List Said → List Arrival
arrivals_in = flat_map arrival_in

-- The rules of a script's client.
abbrev pub rules_in : List Said → Rules
rules_in all = client_rules (settings_in all).timeout (settings_in all).retries

-- The requests of a script that its client accepts, in order.
abbrev pub requests_in : List Said → List Accepted
requests_in all = accepted (rules_in all) (settings_in all).first_ticket (events_in all) (length (events_in all))

-- The text: for each line with an event, the notes at the event's position among the events; for each datagram, the
-- next of the device's replies.
abbrev pub printed : (ℕ → List Note) → ℕ → List Said → List (Option (Station × List ℕ)) → List ℕ
printed notes at [] replies = []
printed notes at (Happens event ∷ later) replies = notes_text (notes at) ++ printed notes (suc at) later replies
printed notes at (Asks arrival ∷ later) [] = []
printed notes at (Asks arrival ∷ later) (reply ∷ replies) = reply_text reply ++ printed notes at later replies
printed notes at (_ ∷ later) replies = printed notes at later replies

-- The text of these lines: the notes are those of the look-ahead for the script's client and events, and the replies
-- are those of the demonstration device.
abbrev pub text_of : List Said → List ℕ
text_of all = printed (output (rules_in all) (settings_in all).first_ticket (events_in all)) 0 all
    (replies_to small_device demo_points [] (arrivals_in all))

-- The text of a script: of the lines before the first one that is bad or too long, or of all lines.
abbrev pub text : List ℕ → Reading → List ℕ
text octets reading = text_of (all_said (lines octets reading))

-- The fault of the line with this number.
abbrev pub fault_at : ℕ → LineFault → TraceFault
fault_at n TooLong = LineTooLong n
fault_at n Bad = BadLine n

-- The fault of a line, or, if it has none, that of the lines after it.
abbrev pub fault_or : ℕ → Result Said LineFault → (Said → Option TraceFault) → Option TraceFault
fault_or n (Ok one) later = later one
fault_or n (Err fault) later = Some (fault_at n fault)

-- The fault of the first line that is bad or too long, if there is one. The first line has this number, and the flag
-- says whether it may have settings.
abbrev pub fault_from : Bool → ℕ → List (List ℕ) → Option TraceFault
fault_from is_first n [] = None
fault_from is_first n (line ∷ lines) =
    fault_or n (said is_first line) (λ one. fault_from (is_first && is_nothing one) (n + 1) lines)

-- The first fault of a script, whose first line has the number 1.
abbrev pub first_fault : List (List ℕ) → Option TraceFault
first_fault lines = fault_from true 1 lines

-- How a script without a fault ends: well at the end of its input, or with `ReadFailed` if its reader failed, and in
-- no other way.
abbrev pub EndsAs : Reading → ℕ → Result TraceEnd TraceFault → Type 0
EndsAs AtEnd count answer = answer ≡ Ok (record { lines = count })
EndsAs Failed count answer = answer ≡ Err ReadFailed
EndsAs Open count answer = ⊥

-- The whole text was written, and the result is the first fault, or how the input ended. If the writer failed, the
-- beginning of the text was written.
abbrev pub ScriptRuns : List ℕ → Reading → List ℕ → Result TraceEnd TraceFault → Type 0
ScriptRuns octets reading written (Err WriteFailed) = (rest : List ℕ) × (text octets reading ≡ written ++ rest)
ScriptRuns octets reading written answer = (written ≡ text octets reading)
    × MatchOption (first_fault (lines octets reading)) (EndsAs reading (length (lines octets reading)) answer)
    (λ fault. answer ≡ Err fault)
