-- One turn of a call, by the steps of the client.
use Rattle.std.specs.List.{All, flat_map}
use Rattle.std.specs.Prelude.{[], Bool, false, length, List, None, Option, Some, true, ℕ, ◌++◌, ◌-◌, ◌∷◌, ◌≡◌, ◌≢◌, ◌≤◌}
use Rattle.bac_pdu.specs.{longest_body, Station, station}
use Rattle.bac_tsm.specs.{Ask, Data, Done, Dropped, Event, keeping, Note, Outcome, Refused, Rules, rules_of, Sent}
use Rattle.bac_tsm.specs.{State, state_at, step, Stepped, Tick, Client.Client, Events.TimedOut, Lookahead.send_notes}
use Rattle.{bac_tsm.specs.Machine.Waiting, bac_text.specs.declared.jobs.Call.Call}
use Rattle.bac_links.specs.Asking.{Asks, Follows, Move, next_move, question_of, turn_after, waits_in}
use Rattle.bac_links.specs.{Call.{asked, Comes, end_in, move, rules_for, service_of}, declared.call.Purpose.Purpose}
use Rattle.bac_links.specs.{Handed.handed, History.{Account, Arrived, Entry, Failure, Gains, GainsAll, Heard, Posted}}
use Rattle.bac_links.specs.{History.{Silence, Timed, Unposted, Waited}, Limits.turn_wait}

-- The send in a note.
abbrev pub post_in : Note → List Entry
post_in (Sent ticket peer octets) = Posted peer octets ∷ []
post_in _ = []

-- The sends among notes.
abbrev pub posts : List Note → List Entry
posts = flat_map post_in

-- The sends of the request of a call at the last of these events.
abbrev pub sent_last : Purpose → Call → List Event → List Entry
sent_last purpose call events =
    posts (send_notes (rules_for call) events (length events - 1) (asked purpose call))

-- A send that is due is made next.
abbrev pub or_sent : List Entry → Move Comes → Move Comes
or_sent (send ∷ more) other = Asks (question_of send)
or_sent [] other = other

-- How long a turn waits.
abbrev pub wait_of : Call → ℕ
wait_of call = turn_wait call.timeout

-- The events of a call: the time, its request, and then these.
abbrev pub begun_at : Purpose → Call → ℕ → List Event → List Event
begun_at purpose call time later =
    Tick time ∷ Ask (station call.to) (service_of purpose) call.body.items ∷ later

-- The end in a note, and the ends among notes.
abbrev pub ending_in : Note → List (Option Outcome)
ending_in (Sent ticket peer octets) = []
ending_in (Refused why) = []
ending_in (Done ticket outcome) = Some outcome ∷ []
ending_in Dropped = []
ending_in (TimedOut ticket) = None ∷ []

abbrev pub endings : List Note → List (Option Outcome)
endings = flat_map ending_in

-- These notes are one send, which the link could not make.
pub record GainsLost {Origin : Type 0} (notes : List Note) (gained : List Entry) (before after : Account Origin)
    : Type 0 where
  pub to : Station
  pub octets : List ℕ
  pub one : posts notes ≡ Posted to octets ∷ []
  pub gains : GainsAll (gained ++ Unposted to octets ∷ []) before after

-- A received datagram is passed to the client.
abbrev pub heard_step : Rules → State → Heard → Stepped
heard_step rules state Silence = record { notes = []; after = state }
heard_step rules state (Arrived from octets) = step rules state (Data from octets)
heard_step rules state Failure = record { notes = []; after = state }

-- The client has one open request.
abbrev pub IsAlone : State → Type 0
IsAlone state = (w : Waiting) × (state.waiting ≡ w ∷ [])

-- The end that a tick brings, if it brings one.
abbrev pub timeouts : Bool → List (Option Outcome)
timeouts true = None ∷ []
timeouts false = []

abbrev pub answers : Option Outcome → List (Option Outcome)
answers None = []
answers (Some outcome) = Some outcome ∷ []

-- The client gets the result of a wait of this length; that ends its request with this outcome, or not.
pub record Hears {Origin : Type 0} (wait : ℕ) (before after : Client) (outcome : Option Outcome)
    (seen left : Account Origin) : Type 0 where
  pub heard : Heard
  pub gains : Gains (Waited wait heard) seen left
  pub received : heard ≢ Failure
  pub ends : endings (heard_step (rules_of before) before.state heard).notes ≡ answers outcome
  pub handed : after ≡ keeping before (heard_step (rules_of before) before.state heard).after

-- The step of a client at this time.
abbrev pub ticked : Client → ℕ → Stepped
ticked client time = step (rules_of client) client.state (Tick time)

-- The client gets the time, and its sends are made; that ends its request, or not.
pub record Ticks {Origin : Type 0} (before after : Client) (over : Bool) (seen left : Account Origin) : Type 0 where
  pub time : ℕ
  pub ends : endings (ticked before time).notes ≡ timeouts over
  pub handed : after ≡ keeping before (ticked before time).after
  pub gains : GainsAll (Timed time ∷ posts (ticked before time).notes) seen left

-- The client gets the time, and its send could not be made.
pub record TicksLost {Origin : Type 0} (before : Client) (seen left : Account Origin) : Type 0 where
  pub time : ℕ
  pub open_still : endings (ticked before time).notes ≡ []
  pub lost : GainsLost (ticked before time).notes (Timed time ∷ []) seen left

-- After its request, a call passes the client only datagrams and ticks.
abbrev pub AsksNothing : Event → Type 0
AsksNothing (Ask peer service body) = ⊥
AsksNothing (Data peer bytes) = Unit {0}
AsksNothing (Tick now) = Unit {0}

-- The client of a call that began at this time and got these events since, with its request open.
pub record CarriesOn (purpose : Purpose) (call : Call) (time : ℕ) (later : List Event) (client : Client) : Type 0 where
  pub short : length call.body.items ≤ longest_body
  pub quiet : All AsksNothing later
  pub unended : end_in purpose call (begun_at purpose call time later) ≡ None
  pub client_is : client ≡ record {
    timeout = call.timeout;
    retries = call.retries;
    state = state_at (rules_for call) 0 (begun_at purpose call time later) (length (begun_at purpose call time later));
  }

-- The history of a link gained the entries of n turns of a call, with its request open.
pub record Underway {Origin : Type 0} (purpose : Purpose) (call : Call) (seen left : Account Origin) (client : Client)
    (n : ℕ) : Type 0 where
  pub time : ℕ
  pub more : List Entry
  pub gains : GainsAll (Timed time ∷ more) seen left
  pub carried : CarriesOn purpose call time (handed more) client
  pub follows : Follows (move purpose call) [] (Timed time ∷ more)
  pub next : next_move (move purpose call) (Timed time ∷ more) ≡ turn_after (wait_of call) n
  pub turns : waits_in more ≡ n
