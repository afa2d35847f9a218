-- The course of a run: its aims, and the act that is due after all acts so far.
use Rattle.std.specs.{List.flat_map, Prelude.{[], Bool, Err, false, if◌then◌else◌, length, List, max, min, nat_le}}
use Rattle.std.specs.Prelude.{nat_lt, None, Ok, Option, Result, Some, suc, true, zero, ℕ, ⊤, ◌++◌, ◌+◌, ◌-◌, ◌/◌, ◌<◌}
use Rattle.std.specs.Prelude.{◌==◌, ◌^◌, ◌∷◌, ◌≡◌, ◌≤◌}
use Rattle.{bac_pdu.specs.Station, bac_tsm.specs.{clock, Event}}
use Rattle.{bac_tsm.specs.{Client.Client, Machine.oldest_send}, bac_script.specs.declared.input.Reading.Reading}
use Rattle.bac_script.specs.declared.{input.Reading.TheVariants.AtEnd, tracing.TraceEnd.TraceEnd}
use Rattle.bac_script.specs.declared.tracing.TraceFault.{TraceFault, TheVariants.{ReadFailed, WriteFailed}}
use Rattle.bac_links.specs.{Arrived, Failure, Heard, most_turns, Silence}
use Rattle.bac_links.specs.{declared.fault.ToolFault.TheVariants.{ReceiveFailed, TurnsSpent}, Limits.turn_wait}
use Rattle.bac_run.specs.declared.{fault.RunFault.{RunFault, TheVariants.{Link, Script}}, turns.Until.Until}
use Rattle.bac_run.specs.{declared.turns.Until.TheVariants.{ClockAt, FewOpen, TimeTold}, Input.acts_of_line}
use Rattle.bac_run.specs.{Input.{fault_of_line, line_in}, Journal.{Act, Asked, asked_by, Came, Closed, Handed}}
use Rattle.bac_run.specs.Journal.{has_line, NoLine, Passed, Paused, Read, Rested, sends_at, Sought, Told, Took, turn_at}

-- An aim of a run: to take at most this many turns until a wait is over; to read the time for a request; to read the
-- time from which a wait of this many milliseconds begins; to do what a line asks for; to take the next line, after
-- this many; or to end with this result.
pub data Aim : Type 0 where
  Turns : (until : Until) (left : ℕ) → Aim
  Fresh : Aim
  Rests : (time : ℕ) → Aim
  Does : (act : Act) → Aim
  NextLine : (window taken : ℕ) → Aim
  Ends : (end : Result TraceEnd TraceFault) → Aim

-- The phase of a run: outside a turn; in a turn, the time was read, and a wait is due; the client must get a time;
-- these datagrams must be offered to the link; the wait failed.
pub data Phase : Type 0 where
  Outside : Phase
  Looked : (time : ℕ) → Phase
  Telling : (time : ℕ) → Phase
  Handing : (sends : List (Station × List ℕ)) → Phase
  Broken : Phase

-- Datagrams must be offered, or none.
abbrev pub handing : List (Station × List ℕ) → Phase
handing [] = Outside
handing (send ∷ later) = Handing (send ∷ later)

-- The stage of a run: its client; how many waits are over since the client last got the time, 0 if that was in the last
-- turn, and at least 1 while answers are expected (since_asked); its phase; and its aims, in order.
pub record Stage : Type 0 where
  pub client : Client
  pub since_told : ℕ
  pub phase : Phase
  pub aims : List Aim

-- How many requests of a client are open.
abbrev pub open_in : Client → ℕ
open_in client = length client.state.waiting

-- After this many waits in a row the client gets the time anyway.
abbrev pub longest_row : ℕ
longest_row = 256

-- How many requests may be open at the end of a wait for at most this many: none if datagrams may be left to hear.
abbrev pub most_open : (most since_told : ℕ) → ℕ
most_open most since_told = if since_told == 0 then most else 0

-- The aim is reached with this client and this many waits over since the client last got the time.
abbrev pub is_reached : Client → (since_told : ℕ) → Aim → Bool
is_reached client since_told (Turns (FewOpen most) left) = nat_le (open_in client) (most_open most since_told)
is_reached client since_told (Turns TimeTold left) = since_told == 0
is_reached client since_told (Turns (ClockAt time) left) = nat_le time client.state.clock
is_reached client since_told aim = false

-- The aims from the first one that is not reached.
abbrev pub left_of : Client → (since_told : ℕ) → List Aim → List Aim
left_of client since_told [] = []
left_of client since_told (aim ∷ later) =
    if is_reached client since_told aim then left_of client since_told later else aim ∷ later

-- The stage without the aims that are reached, if no turn goes on.
abbrev pub settled_in : Stage → Phase → Stage
settled_in stage Outside = record stage { aims = left_of stage.client stage.since_told stage.aims }
settled_in stage phase = stage

abbrev pub settled : Stage → Stage
settled stage = settled_in stage stage.phase

-- Outside of a turn, with these aims.
abbrev pub ready : Client → (since_told : ℕ) → List Aim → Stage
ready client since_told aims =
    settled (record { client = client; since_told = since_told; phase = Outside; aims = aims })

-- The client must get the time, if it is later than its last one.
abbrev pub telling : Stage → (time : ℕ) → Stage
telling stage time =
    if nat_lt stage.client.state.clock time then record stage { since_told = 0; phase = Telling time }
    else record stage { since_told = 0; phase = Outside }

-- A datagram was received in a turn, or a wait is over. Others may have come before the present time, so the client
-- does not get the time of the turn yet, except after too many waits.
abbrev pub heard_at : Stage → (time : ℕ) → Stage
heard_at stage time =
    if nat_lt (suc stage.since_told) longest_row
    then record stage { since_told = suc stage.since_told; phase = Outside }
    else telling stage time

-- Nothing was passed to the client in a turn. If the turn only looked, the client gets its time. After a wait that time
-- is old: the next turn reads the time anew, and looks. A datagram that is too long for a line counts as received.
abbrev pub passed_at : Stage → (time wait : ℕ) → Heard → Stage
passed_at stage time wait Silence = if wait == 0 then telling stage time else heard_at stage time
passed_at stage time wait (Arrived from octets) = heard_at stage time
passed_at stage time wait Failure = record stage { phase = Broken }

-- How many waits are over once a request was made. If more than this many are open, there is no room for another. Then,
-- if it is not the only one, answers to others may have come, and the next turn looks for them before it waits.
abbrev pub since_asked : (most : ℕ) → Client → (since_told : ℕ) → ℕ
since_asked most client since_told = if nat_lt (max most 1) (open_in client) then max since_told 1 else since_told

-- The same after an act, before these aims.
abbrev pub since_act : Act → Client → (since_told : ℕ) → List Aim → ℕ
since_act (Asked line event) client since_told (Turns (FewOpen most) left ∷ later) = since_asked most client since_told
since_act act client since_told aims = since_told

-- The turns of a wait are counted anew when the client gets a time.
abbrev pub renewed : List Aim → List Aim
renewed (Turns until left ∷ later) = Turns until most_turns ∷ later
renewed aims = aims

-- The stage with the client after an act, whose datagrams must be offered.
abbrev pub acted : Stage → Act → Stage
acted stage act =
    record stage { client = (turn_at stage.client act).after; phase = handing (sends_at stage.client act) }

-- A wait brought nothing for the client.
abbrev pub IsPassed : Heard → Type 0
IsPassed (Arrived from octets) = has_line (length octets) ≡ false
IsPassed heard = ⊤

-- ---- the aims that a line of the input adds

-- The aims of a request, of a line without words, of a Who-Is and of a wait.
abbrev pub aims_of : Act → List Aim
aims_of (Asked line event) = Fresh ∷ Does (Asked line event) ∷ []
aims_of Paused = Turns (FewOpen 0) most_turns ∷ Does Paused ∷ []
aims_of (Sought to octets) = Fresh ∷ Does (Sought to octets) ∷ []
aims_of (Rested time) = Rests time ∷ Does (Rested time) ∷ []
aims_of act = []

-- There must be room for one more request before a line is read, and before the input ends.
abbrev pub room_for : (window : ℕ) → Aim
room_for window = Turns (FewOpen (window - 1)) most_turns

-- After this many lines, the next one is taken once there is room.
abbrev pub taking : (window taken : ℕ) → List Aim → List Aim
taking window taken later = room_for window ∷ NextLine window taken ∷ later

-- A run that ends well closes its journal before.
abbrev pub closing : Result TraceEnd TraceFault → List Aim → List Aim
closing (Ok end) later = Does Closed ∷ Ends (Ok end) ∷ later
closing (Err fault) later = Ends (Err fault) ∷ later

-- No more lines are taken: once no request is open, the run ends with this result.
abbrev pub ending : Result TraceEnd TraceFault → List Aim → List Aim
ending end later = Turns (FewOpen 0) most_turns ∷ closing end later

-- The aims after the line with this number: its acts, and then the next line; but after a bad line no more lines.
abbrev pub aims_for : Option (List Act) → (window number : ℕ) → (line : List ℕ) → List Aim → List Aim
aims_for (Some acts) window number line later = flat_map aims_of acts ++ taking window number later
aims_for None window number line later = ending (Err (fault_of_line number line)) later

-- The end of a run that finds no more lines, after this many.
abbrev pub end_by : Reading → (taken : ℕ) → Result TraceEnd TraceFault
end_by AtEnd taken = Ok (record { lines = taken })
end_by reading taken = Err ReadFailed

-- ---- the act that is due

module _ (timeout : ℕ) where
  -- How long it takes from this time until the first open request is due, if it was last sent at this one.
  abbrev pub due_in : (time : ℕ) → Option ℕ → ℕ
  due_in time None = turn_wait timeout
  due_in time (Some sent) = timeout - (time - sent)

  -- How long a turn that begins at this time waits, in milliseconds: at most until the first open request is due. If a
  -- wait is over since the client last got the time, or if answers are expected, the turn only looks.
  abbrev pub wait_at : Client → (since_told time : ℕ) → ℕ
  wait_at client since_told time =
      if since_told == 0 then min (turn_wait timeout) (due_in time (oldest_send client.state)) else 0

  -- The time was read for a request. If none is open, the client gets it. Otherwise, if the client's last time is older
  -- than a tenth of the timeout, turns are taken until the client gets a time.
  abbrev pub freshened : Stage → (time : ℕ) → Stage
  freshened stage time =
      let told = record stage { aims = Turns TimeTold most_turns ∷ stage.aims } in
      if open_in stage.client == 0 then telling told time
      else if nat_lt (timeout / 10) (time - stage.client.state.clock)
      then record told { since_told = max stage.since_told 1 }
      else stage

  -- This act is due in this phase, with these aims.
  abbrev pub DueIn : Stage → Phase → List Aim → Act → Type 0
  DueIn stage Outside (Turns until (suc left) ∷ later) (Read time) = ⊤
  DueIn stage Outside (Fresh ∷ later) (Read time) = ⊤
  DueIn stage Outside (Rests time ∷ later) (Read now) = ⊤
  DueIn stage Outside (Does due ∷ later) act = (act ≡ due) × (line_in act ≡ []) × (asked_by act ≡ [])
  DueIn stage Outside (NextLine window taken ∷ later) (Took line) = ⊤
  DueIn stage Outside (NextLine window taken ∷ later) (NoLine reading) = ⊤
  DueIn stage (Looked time) aims (Came wait from octets) =
      (wait ≡ wait_at stage.client stage.since_told time) × (has_line (length octets) ≡ true)
  DueIn stage (Looked time) aims (Passed wait heard) =
      (wait ≡ wait_at stage.client stage.since_told time) × IsPassed heard
  DueIn stage (Telling time) aims act = act ≡ Told time
  DueIn stage (Handing ((to, octets) ∷ later)) aims (Handed to' octets' taken) = (to' ≡ to) × (octets' ≡ octets)
  DueIn stage phase aims act = ⊥

  -- The stage after this act, in this phase, with these aims.
  abbrev pub moved_in : Stage → Phase → List Aim → Act → Stage
  moved_in stage Outside (Turns until (suc left) ∷ later) (Read time) =
      record stage { phase = Looked time; aims = Turns until left ∷ later }
  moved_in stage Outside (Fresh ∷ later) (Read time) = freshened (record stage { aims = later }) time
  moved_in stage Outside (Rests time ∷ later) (Read now) =
      record stage { aims = Turns (ClockAt (min (now + time) (2 ^ 64 - 1))) most_turns ∷ later }
  moved_in stage Outside (Does due ∷ later) act =
      let after = acted stage act in
      record after { since_told = since_act act after.client stage.since_told later; aims = later }
  moved_in stage Outside (NextLine window taken ∷ later) (Took line) =
      record stage { aims = aims_for (acts_of_line line) window (suc taken) line later }
  moved_in stage Outside (NextLine window taken ∷ later) (NoLine reading) =
      record stage { aims = ending (end_by reading taken) later }
  moved_in stage (Looked time) aims (Came wait from octets) = heard_at (acted stage (Came wait from octets)) time
  moved_in stage (Looked time) aims (Passed wait heard) = passed_at stage time wait heard
  moved_in stage (Telling time) aims act = record (acted stage act) { aims = renewed aims }
  moved_in stage (Handing (send ∷ later)) aims act = record stage { phase = handing later }
  moved_in stage phase aims act = stage

  -- The act is due at the stage, and the stage after it.
  abbrev pub IsDue : Stage → Act → Type 0
  IsDue stage = DueIn stage stage.phase stage.aims

  abbrev pub moved : Stage → Act → Stage
  moved stage act = settled (moved_in stage stage.phase stage.aims act)

  -- Each of these acts was due when it was done.
  abbrev pub Goes : Stage → List Act → Type 0
  Goes stage [] = ⊤
  Goes stage (act ∷ later) = IsDue stage act × Goes (moved stage act) later

  -- The stage after these acts.
  abbrev pub stage_after : Stage → List Act → Stage
  stage_after stage [] = stage
  stage_after stage (act ∷ later) = stage_after (moved stage act) later

-- ---- the end of a run

-- The result of a run that is over in this phase, with these aims.
abbrev pub result_in : Phase → List Aim → Option (Result TraceEnd RunFault)
result_in Broken aims = Some (Err (Link ReceiveFailed))
result_in Outside (Turns until zero ∷ later) = Some (Err (Link TurnsSpent))
result_in Outside (Ends (Ok end) ∷ later) = Some (Ok end)
result_in Outside (Ends (Err fault) ∷ later) = Some (Err (Script fault))
result_in phase aims = None

-- The result of a run is a function of its stage; there is none while an act is due.
abbrev pub result_at : Stage → Option (Result TraceEnd RunFault)
result_at stage = result_in stage.phase stage.aims

-- A run with this fault stops at this stage. If the writer fails, it may stop at any stage.
abbrev pub StopsAt : RunFault → Stage → Type 0
StopsAt (Script WriteFailed) stage = ⊤
StopsAt fault stage = result_at stage ≡ Some (Err fault)

-- A run with this result ends at this stage.
abbrev pub EndsAt : Result TraceEnd RunFault → Stage → Type 0
EndsAt (Ok end) stage = result_at stage ≡ Some (Ok end)
EndsAt (Err fault) stage = StopsAt fault stage

-- ---- how long a request waits

-- None of the events after this position moves the clock by more than `longest`.
abbrev pub AreSteady : (longest : ℕ) → List Event → (position : ℕ) → Type 0
AreSteady longest events i = (j : ℕ) → i < j → clock events (suc j) ≤ clock events j + longest
