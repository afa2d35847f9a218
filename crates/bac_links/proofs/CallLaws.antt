-- Whole calls: two that are answered alike, one whose waits are prompt, and one that received nothing.
use Rattle.std.proofs.Common.{[], ap, append-nil, arith, Err, inl, inr, length, List, max, None, Ok, Option, refl}
use Rattle.std.proofs.Common.{Result, Some, subst, suc, sym, take_all, ℕ, ◌*◌, ◌++◌, ◌+◌, ◌<◌, ◌∙◌, ◌∷◌, ◌≡◌, ◌≢◌, ◌≤◌}
use Rattle.std.{proofs.lemmas.{Bool.cases_lt, Grind.common_steps, List.take-append-le}, specs.List.last_or}
use Rattle.bac_tsm.proofs.Laws.{clock_rises, never_due, open_soon}
use Rattle.{bac_tsm.specs.{clock, Event, Tick, Positions.greatest_tick}, bac_text.specs.declared.jobs.Call.Call}
use Rattle.bac_print.{proofs.Printed.Took-none, specs.Took}
use Rattle.bac_links.proofs.CallTurns.{handed_push, last_push, plays_all, to_the_end}
use Rattle.bac_links.specs.{Account, ArePrompt, AreTold, Arrived, AskAlike, asked, Asks, Checked, Comes, end_in}
use Rattle.bac_links.specs.{ending_line, Entry, events_of, Exit, exit_of, Failure, Follows, ForDatagram, ForTime}
use Rattle.bac_links.specs.{handed_of, Heard, move, next_move, Offered, OneText, Over, Plays, Posted, Printed, Purpose}
use Rattle.bac_links.specs.{Question, question_of, ReceiveFailed, rules_for, SendFailed, Silence, Tells, Timed}
use Rattle.bac_links.specs.{ToolFault, TurnsSpent, Waited, waits_in, WriteFailed}

module _ (purpose : Purpose) (call : Call) where
  abbrev pub result_of : Comes → Result Exit ToolFault
  result_of (Ok ending) = Ok (exit_of purpose ending)
  result_of (Err fault) = Err fault

  abbrev pub line_of : Comes → List ℕ
  line_of (Ok ending) = ending_line purpose ending
  line_of (Err fault) = []

  -- The result of a call's moves, its answer, and its text.
  module _ {Origin W : Type 0} (contents : W → Option (List ℕ)) (before after : Checked W)
      (seen left : Account Origin) where
    pub record Went (result : Result Exit ToolFault) : Type 0 where
      pub comes : Comes
      pub plays : Plays (move purpose call) seen left comes
      pub answers : result ≢ Err WriteFailed → result ≡ result_of comes
      pub prints : Printed contents before after (line_of comes) result

    unprinted : after ≡ before → Took contents before after []
    unprinted same = subst (λ (w : Checked W). Took contents before w []) (sym same) (Took-none before)

    pub went : (result : Result Exit ToolFault) → Tells purpose call contents before after seen left result
        → Went result
    went (Ok exit) tells =
        record {
          comes = Ok tells.ending;
          plays = tells.plays;
          answers = λ other. ap Ok tells.exit_is;
          prints = tells.printed;
        }
    went (Err WriteFailed) tells = record {
      comes = Ok tells.ending;
      plays = tells.plays;
      answers = λ other. absurd (other refl);
      prints = tells.printed;
    }
    went (Err SendFailed) it =
        record { comes = Err SendFailed; plays = it.plays; answers = λ other. refl; prints = unprinted it.unprinted }
    went (Err ReceiveFailed) it =
        record { comes = Err ReceiveFailed; plays = it.plays; answers = λ other. refl; prints = unprinted it.unprinted }
    went (Err TurnsSpent) it =
        record { comes = Err TurnsSpent; plays = it.plays; answers = λ other. refl; prints = unprinted it.unprinted }

  -- Two calls that are answered alike.
  module _ {V W : Type 0} (contents : V → Option (List ℕ)) (contents' : W → Option (List ℕ)) (before after : Checked V)
      (before' after' : Checked W) where
    abbrev EndAlike : Result Exit ToolFault → Result Exit ToolFault → Type 0
    EndAlike result result' = result ≢ Err WriteFailed → result' ≢ Err WriteFailed → result ≡ result'

    abbrev PrintAlike : Result Exit ToolFault → Result Exit ToolFault → Type 0
    PrintAlike = OneText contents before after contents' before' after'

    pub calls_so_far : {Origin Other : Type 0} → AskAlike Origin Other (Tells purpose call contents before after)
        (Tells purpose call contents' before' after') (λ r. ⊥) EndAlike PrintAlike
    calls_so_far seen left seen' left' result result' first rest first' rest' tells tells' gains gains' same =
        let a = went contents before after seen left result tells in
        let b = went contents' before' after' seen' left' result' tells' in
        to_the_end EndAlike PrintAlike result result' a.plays b.plays (grind (arith, a, b)) first rest first' rest'
        gains gains' same

-- ---- the clock over some events

all_by : (events : List Event) (j : ℕ) → length events ≤ j → clock events j ≡ greatest_tick events
all_by _ j le = ap greatest_tick (take_all j _ le)

-- If no event moves the clock by more than d, events of this kind can be added.
steady_more : (d : ℕ) (first next : List Event) → ((j : ℕ) → 1 < j → clock first (suc j) ≤ clock first j + d) →
    greatest_tick (first ++ next) ≤ greatest_tick first + d → (j : ℕ) → 1 < j
    → clock (first ++ next) (suc j) ≤ clock (first ++ next) j + d
steady_more d first next before bound j lt = elim (cases_lt j (length first)) [
  | inl within ↦
      let here = ap greatest_tick (take-append-le (suc j) first next (omega arith)) in
      let ago = ap greatest_tick (take-append-le j first next (omega arith)) in
      omega (arith, before j lt, here, ago)
  | inr past ↦
      let low = clock_rises (first ++ next) _ j past in
      let front = ap greatest_tick (take-append-le (length first) first next (omega arith)) in
      let whole = all_by first (length first) (omega arith) in
      let high = clock_rises (first ++ next) (suc j) (suc j + length (first ++ next)) (omega arith) in
      let top = all_by (first ++ next) (suc j + length (first ++ next)) (omega arith) in
      omega (arith, low, front, whole, high, top, bound)
]

greatest_tick-append : (first next : List Event)
    → greatest_tick (first ++ next) ≡ max (greatest_tick first) (greatest_tick next)
greatest_tick-append [] _ = omega arith
greatest_tick-append (Tick now ∷ first) next = grind (arith, greatest_tick-append first next)
greatest_tick-append (_ ∷ first) next = greatest_tick-append first next

-- ---- sends and waits are made only while the request is open

-- A datagram was sent or offered.
abbrev IsSend : Entry → Type 0
IsSend (Posted to octets) = Unit {0}
IsSend (Offered to octets taken) = Unit {0}
IsSend _ = ⊥

-- After these entries the time was read since the last wait.
abbrev IsTimely : Entry → Type 0
IsTimely (Timed time) = Unit {0}
IsTimely entry = IsSend entry

module _ (purpose : Purpose) (call : Call) where
  abbrev IsOpen : List Entry → Type 0
  IsOpen gained = end_in purpose call (events_of purpose call gained) ≡ None

  -- A call with its request open makes sends and waits only after the time was read.
  record IsReady (gained : List Entry) (last : Entry) : Type 0 where
    timely : IsTimely last
    unended : IsOpen gained

  ready : (gained : List Entry) (last : Entry) (question : Question) → (question ≡ ForTime → ⊥)
      → (IsSend last → IsOpen gained)
      → move purpose call gained (Some last) ≡ Asks question → IsReady gained last
  ready = grind arith

  -- ---- one entry after another

  module _ (time_behind : ℕ → ℕ) (longest first : ℕ) where
    abbrev events : List Entry → List Event
    events before = events_of purpose call (Timed first ∷ before)

    abbrev open_bound : ℕ
    open_bound = first + call.retries * (call.timeout + longest) + call.timeout

    abbrev bound : ℕ
    bound = first + suc call.retries * (call.timeout + longest)

    -- No event moves the clock by more than `longest`, and the clock has reached this time.
    record IsSteady (all : List Event) (now : ℕ) : Type 0 where
      steady : (j : ℕ) → 1 < j → clock all (suc j) ≤ clock all j + longest
      reached : now ≤ greatest_tick all

    events_push : (before : List Entry) (x : Entry) → events before ++ handed_of x ≡ events (before ++ x ∷ [])
    events_push = grind (arith, handed_push)

    further : (before : List Entry) (x : Entry) (now next : ℕ) → IsSteady (events before) now
        → greatest_tick (handed_of x) ≤ now + longest → next ≤ max now (greatest_tick (handed_of x))
        → IsSteady (events (before ++ x ∷ [])) next
    further before x _ next is small big =
        let both = greatest_tick-append (events before) (handed_of x) in
        subst (λ (all : List Event). IsSteady all next) (events_push before x) (record {
          steady = steady_more _ _ _ is.steady (omega (arith, both, small, is.reached));
          reached = omega (arith, both, big, is.reached);
        })

    -- While the request is open no more time has passed than this.
    open_in_time : (before : List Entry) (now : ℕ) → IsSteady (events before) now → IsOpen (Timed first ∷ before)
        → now ≤ open_bound
    open_in_time before _ is still =
        let all = events before in
        let soon : clock all (length all) ≤ clock all 2 + call.retries * (call.timeout + longest) + call.timeout =
        open_soon (rules_for call) all 1 _ _ (length all) is.steady
        (never_due (rules_for call) all (asked purpose call) (grind (arith, still))) in
        omega (arith, is.reached, all_by all (length all) (omega arith), soon)

    -- The facts about the clock after these entries, the last of which is `last`, and n waits; `now` was the last time.
    record IsAt (before : List Entry) (last : Entry) (n now : ℕ) : Type 0 where
      came_last : last_or (Some (Timed first)) before ≡ Some last
      steady : IsSteady (events before) now
      near : time_behind n ≤ now + longest
      within : time_behind n ≤ bound
      told : IsTimely last → time_behind n ≤ now
      sent : IsSend last → IsOpen (Timed first ∷ before)

    abbrev Goes : List Entry → List Entry → Type 0
    Goes before rest = Follows (move purpose call) (Timed first ∷ before) rest

    -- A send changes nothing else.
    at_send : (before : List Entry) (last x : Entry) (n now : ℕ) → IsAt before last n now → handed_of x ≡ []
        → (question_of x ≡ ForTime → ⊥) → next_move (move purpose call) (Timed first ∷ before) ≡ Asks (question_of x)
        → IsAt (before ++ x ∷ []) x n now
    at_send = grind (arith, common_steps, ready, append-nil, events_push, last_push)

    at_wait : (before : List Entry) (last : Entry) (wait : ℕ) (heard : Heard) (n now : ℕ) → IsAt before last n now
        → next_move (move purpose call) (Timed first ∷ before) ≡ Asks (ForDatagram wait)
        → time_behind (suc n) ≤ time_behind n + longest
        → IsAt (before ++ Waited wait heard ∷ []) (Waited wait heard) (suc n) now
    at_wait before last wait heard n now is asks prompt =
        let asked = ready (Timed first ∷ before) last (ForDatagram wait) (λ e. cc) is.sent
        (ap (move purpose call (Timed first ∷ before)) (sym is.came_last) ∙ asks) in
        let soon = open_in_time before now is.steady asked.unended in
        let told = is.told asked.timely in
        record {
          came_last = last_push (Some (Timed first)) before (Waited wait heard);
          steady = further before (Waited wait heard) now now is.steady (small heard) (omega arith);
          near = omega (arith, told, prompt);
          within = omega (arith, told, prompt, soon);
          told = λ timely. absurd timely;
          sent = λ is_send. absurd is_send;
        }
      where
        small : (heard : Heard) → greatest_tick (handed_of (Waited wait heard)) ≤ now + longest
        small Silence = omega arith
        small Failure = omega arith
        small (Arrived from octets) = omega arith

    at_time : (before : List Entry) (last : Entry) (n now : ℕ) → IsAt before last n now
        → IsAt (before ++ Timed (time_behind n) ∷ []) (Timed (time_behind n)) n (time_behind n)
    at_time before _ n now is = record {
      came_last = last_push (Some (Timed first)) before (Timed (time_behind n));
      steady = further before (Timed (time_behind n)) _ _ is.steady (omega (arith, is.near))
          (omega arith);
      near = omega arith;
      within = is.within;
      told = λ timely. omega arith;
      sent = λ is_send. absurd is_send;
    }

    in_bound : (before : List Entry) (last : Entry) (n now : ℕ) (rest : List Entry) → IsAt before last n now
        → Goes before rest → AreTold time_behind n rest
        → ((k : ℕ) → k < n + waits_in rest → time_behind (suc k) ≤ time_behind k + longest)
        → time_behind (n + waits_in rest) ≤ bound
    in_bound _ _ n _ [] is goes told prompt = grind arith
    in_bound before last n now (Waited wait heard ∷ rest) is (asks, later) told prompt =
        let more = in_bound (before ++ Waited wait heard ∷ []) (Waited wait heard) (suc n) now rest
        (at_wait _ _ _ _ n _ is asks (prompt n (omega arith))) later told
        (λ k less. prompt k (omega (arith, less))) in
        grind (arith, more)
    in_bound before last n now (Timed time ∷ rest) is (_, later) (shown, told) prompt =
        in_bound (before ++ Timed time ∷ []) (Timed time) n time rest (rw shown (at_time _ _ n _ is)) later
        told prompt
    in_bound before last n now (x ∷ rest) is (asks, later) told prompt =
        in_bound (before ++ x ∷ []) x n now rest (at_send _ _ x n _ is refl (λ e. cc) asks) later told prompt

    begun : first ≡ time_behind 0 → IsAt [] (Timed first) 0 first
    begun = grind (arith, all_by)

  in_time : (time_behind : ℕ → ℕ) (longest : ℕ) (gained : List Entry) → Follows (move purpose call) [] gained
      → AreTold time_behind 0 gained → ArePrompt time_behind longest (waits_in gained)
      → time_behind (waits_in gained) ≤ time_behind 0 + suc call.retries * (call.timeout + longest)
  in_time time_behind longest (Timed time ∷ more) (_, follows) (shown, told) prompt =
      let in_all = in_bound time_behind longest time [] (Timed time) 0 time more (begun time_behind _ _ shown)
      follows told (λ n less. prompt n (omega (arith, less))) in
      grind (arith, in_all)
  in_time _ _ _ follows told prompt = grind arith

pub told_in_time : {Origin W : Type 0} (contents : W → Option (List ℕ)) (purpose : Purpose) (call : Call)
    (before after : Checked W) (seen left : Account Origin) (result : Result Exit ToolFault) (gained : List Entry)
    (time_behind : ℕ → ℕ) (longest : ℕ) → Tells purpose call contents before after seen left result
    → left.history ≡ seen.history ++ gained → AreTold time_behind 0 gained
    → ArePrompt time_behind longest (waits_in gained)
    → time_behind (waits_in gained) ≤ time_behind 0 + suc call.retries * (call.timeout + longest)
told_in_time contents purpose call before after seen left result gained time_behind longest tells gains =
    let it = went purpose call contents before after seen left result tells in
    in_time purpose call time_behind longest gained (plays_all it.plays gains).follows

-- ---- a call over a link whose history gained nothing has not ended

pub not_ended : {Origin W : Type 0} (contents : W → Option (List ℕ)) (purpose : Purpose) (call : Call)
    (before after : Checked W)
    (seen : Account Origin) (exit : Exit) → Tells purpose call contents before after seen seen (Ok exit) → ⊥
not_ended _ purpose call _ _ seen exit tells =
    let plays = plays_all {gained = []} tells.plays (sym (append-nil _)) in
    let over : Asks ForTime ≡ Over (Ok tells.ending) = plays.over in cc
