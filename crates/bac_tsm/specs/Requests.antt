-- A request as it was accepted, its end, and the notes on it.
use Rattle.std.specs.Prelude.{ℕ, List, [], ◌∷◌, map, Option, Some, None, nat_lt, nat_eq, if◌then◌else◌, Result, Ok, Err}
use Rattle.std.specs.{List.fold, Option.option_map_or}
use Rattle.bac_tsm.specs.declared.client.SubmitFault.{SubmitFault}
use Rattle.bac_tsm.specs.Events.{Outcome, Event, Data, Note, Sent, Refused, Done, Dropped, TimedOut, Request, Rules}

-- A request, and the position at which it was accepted.
pub record Accepted : Type 0 where
  pub position : ℕ
  pub request : Request

-- The position at which a request ends, and the outcome of the answer that ends it. A timeout has no outcome.
pub record End : Type 0 where
  pub position : ℕ
  pub outcome : Option Outcome

-- The earlier of two ends.
abbrev pub earlier_end : Option End → Option End → Option End
earlier_end None late = late
earlier_end (Some early) None = Some early
earlier_end (Some early) (Some late) = if nat_lt early.position late.position then Some early else Some late

-- The outcome that the event gives to a request, if it answers the request.
abbrev pub outcome_of_event : Rules → Request → Option Event → Option Outcome
outcome_of_event rules request (Some (Data peer bytes)) = rules.outcome_of request peer bytes
outcome_of_event rules request _ = None

-- The invoke id of the last of these requests, 0 if there is none.
abbrev pub last_invoke_id : List Accepted → ℕ
last_invoke_id requests = fold (λ last a. a.request.invoke_id) 0 requests

-- The invoke ids of these requests.
abbrev pub invoke_ids_of : List Accepted → List ℕ
invoke_ids_of requests = map (λ a. a.request.invoke_id) requests

-- The request, unless there is a reason to refuse it.
abbrev pub unless_refused : Option SubmitFault → Accepted → Result Accepted SubmitFault
unless_refused refusal request = option_map_or Err refusal (Ok request)

-- The note on an end at position i: its outcome, or a timeout if it has no outcome.
abbrev pub end_notes : ℕ → Request → Option End → List Note
end_notes i request None = []
end_notes i request (Some e) =
    if nat_eq e.position i then option_map_or (Done request.ticket) e.outcome (TimedOut request.ticket) ∷ [] else []

-- These notes, or the note that the datagram was dropped if there are none.
abbrev pub or_dropped : List Note → List Note
or_dropped [] = Dropped ∷ []
or_dropped (note ∷ notes) = note ∷ notes

-- The note on the result of an Ask.
abbrev pub ask_notes : Result Accepted SubmitFault → List Note
ask_notes (Ok a) = Sent a.request.ticket a.request.peer a.request.octets ∷ []
ask_notes (Err why) = Refused why ∷ []
