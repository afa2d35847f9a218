-- A call: one request, its moves, and its end.
use Rattle.std.specs.{List.list_any, Prelude.{[], Bool, Err, if◌then◌else◌, length, List, nat_eq, None, Ok, Option}}
use Rattle.std.specs.Prelude.{Result, Some, ℕ, ◌-◌, ◌∷◌, ◌≡◌}
use Rattle.{bac_pdu.specs.station, bac_tsm.specs.{Accepted, Ask, client_rules, end, Event, Outcome, Rules}}
use Rattle.{bac_tsm.specs.{Events.request_of, Lookahead.{accepted, End, sends}}, bac_text.specs.declared.jobs.Call.Call}
use Rattle.bac_print.specs.{Took, Checked.TakesFront, declared.checked.Checked.Checked}
use Rattle.bac_links.specs.Asking.{Asks, ForTime, Move, Over, Plays, ToSend, turn_after, waits_in}
use Rattle.bac_links.specs.declared.{call.Purpose.{Purpose, TheVariants.{Reading, Writing}}, exit.Exit.Exit}
use Rattle.bac_links.specs.declared.fault.ToolFault.{ToolFault, TheVariants.{ReceiveFailed, SendFailed, WriteFailed}}
use Rattle.bac_links.specs.{Ending.{ending_line, exit_of}, Handed.handed}
use Rattle.bac_links.specs.{History.{Account, Entry, Failure, Offered, Posted, Timed}}
use Rattle.bac_links.specs.{History.{Unposted, Waited}, Limits.turn_wait}

-- The service choices of ReadProperty and WriteProperty (clause 21, BACnetConfirmedServiceChoice).
abbrev pub service_of : Purpose → ℕ
service_of Reading = 12
service_of Writing = 15

-- The rules of a call's client: its timeout, and its retries.
abbrev pub rules_for : Call → Rules
rules_for call = client_rules call.timeout call.retries

-- The result of a call's moves: the end of its request, by an outcome or a timeout; or a fault.
abbrev pub Comes : Type 0
Comes = Result (Option Outcome) ToolFault

-- If the request has ended, the call is over.
abbrev pub or_ended : Option End → Move Comes → Move Comes
or_ended (Some x) other = Over (Ok x.outcome)
or_ended None other = other

module _ (purpose : Purpose) (call : Call) where
  -- The request of a call. It comes after one event, from a client without open requests, so it has the first ticket
  -- and the invoke id 1.
  abbrev pub asked : Accepted
  asked = record {
    position = 1;
    request = request_of (rules_for call) 0 (station call.to) (service_of purpose) call.body.items 1;
  }

  -- Among these events only the request of the call is accepted.
  abbrev pub IsAccepted : List Event → Type 0
  IsAccepted events = accepted (rules_for call) 0 events (length events) ≡ asked ∷ []

  -- The end of the call's request among these events, if it has one.
  abbrev pub end_in : List Event → Option End
  end_in events = end (rules_for call) events asked

  -- The request is sent at the last of these events, by the look-ahead.
  abbrev pub is_sent_last : List Event → Bool
  is_sent_last events = list_any (nat_eq (length events - 1)) (sends (rules_for call) events asked)

  -- The events, with the request after the first one.
  abbrev pub with_request : List Event → List Event
  with_request [] = []
  with_request (first ∷ later) = first ∷ Ask (station call.to) (service_of purpose) call.body.items ∷ later

  -- The events of the client: the first time, the request, and then each received datagram and each time.
  abbrev pub events_of : List Entry → List Event
  events_of gained = with_request (handed gained)

  -- The next move of a call, from the last entry: the time comes first, and after each wait, except a wait that brings
  -- the end; after a time the request is sent if it is due; and then the next turn begins.
  abbrev pub move : List Entry → Option Entry → Move Comes
  move gained None = Asks ForTime
  move gained (Some (Timed time)) =
      or_ended (end_in (events_of gained))
      (if is_sent_last (events_of gained) then Asks (ToSend asked.request.peer asked.request.octets)
      else turn_after (turn_wait call.timeout) (waits_in gained))
  move gained (Some (Posted to octets)) = turn_after (turn_wait call.timeout) (waits_in gained)
  move gained (Some (Offered to octets taken)) = turn_after (turn_wait call.timeout) (waits_in gained)
  move gained (Some (Unposted to octets)) = Over (Err SendFailed)
  move gained (Some (Waited wait Failure)) = Over (Err ReceiveFailed)
  move gained (Some (Waited wait heard)) = or_ended (end_in (events_of gained)) (Asks ForTime)

  module _ {Origin W : Type 0} (contents : W → Option (List ℕ)) (before after : Checked W)
      (seen left : Account Origin) where
    -- The request ended in this way, and the line of its end was printed.
    pub record TellsEnd (exit : Exit) : Type 0 where
      pub ending : Option Outcome
      pub exit_is : exit ≡ exit_of purpose ending
      pub printed : Took contents before after (ending_line purpose ending)
      pub plays : Plays move seen left (Ok ending)

    -- The request ended in some way, and the beginning of the line was printed.
    pub record TellsFront : Type 0 where
      pub ending : Option Outcome
      pub printed : TakesFront contents before after (ending_line purpose ending)
      pub plays : Plays move seen left (Ok ending)

    -- The call met this fault, and nothing was printed.
    pub record TellsFault (fault : ToolFault) : Type 0 where
      pub unprinted : after ≡ before
      pub plays : Plays move seen left (Err fault)

    -- The text, the answer and the moves of a call: it printed the line of the request's end, or the beginning of it if
    -- the writer failed; after any other fault it printed nothing.
    abbrev pub Tells : Result Exit ToolFault → Type 0
    Tells (Ok exit) = TellsEnd exit
    Tells (Err WriteFailed) = TellsFront
    Tells (Err fault) = TellsFault fault
