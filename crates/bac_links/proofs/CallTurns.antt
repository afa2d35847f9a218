-- Tools that follow their moves, and are answered alike, ask alike; and a call, turn by turn.
use Rattle.std.proofs.Common.{[], All, ap, append-nil, append_assoc, arith, Err, false, flat_map, IfErr, IfOk, inl, inr}
use Rattle.std.proofs.Common.{length, List, nat_lt, None, Ok, Option, refl, Result, slice_get, Some, subst, suc, sym}
use Rattle.std.proofs.{Common.{true, zero, ℕ, ◌++◌, ◌+◌, ◌<◌, ◌∙◌, ◌∷◌, ◌≡◌, ◌≢◌, ◌≤◌, ◌⊎◌}, lemmas.Bool.cases_Bool}
use Rattle.std.proofs.lemmas.{Bool.{cases_eq, cases_lt, le-ltb, lt-ltb, Decides.nat_tests}, Grind.common_steps}
use Rattle.std.proofs.lemmas.List.{append_cancel_left, length_push, take-append-le, Concat.flat_map-append}
use Rattle.std.proofs.lemmas.{List.Elements.{All-cons, All-nil}, Option.{get_or_from_slice_get, slice_get_within}}
use Rattle.std.{proofs.Math.Seq.take-append_seam, specs.List.last_or}
use Rattle.bac_pdu.specs.{longest_body, Station, station}
use Rattle.bac_tsm.proofs.Laws.{both_are, by_invoke_id, drop_head, early_unended, early_unsent, few_open, looks_back}
use Rattle.bac_tsm.proofs.Laws.{one_step, past_unended, quiet_unsent, run_first, run_whole, sent_first}
use Rattle.bac_tsm.specs.{Accepted, Ask, Data, Dropped, end, Event, initial, keeping, next_invoke_id, Note, Outcome}
use Rattle.bac_tsm.specs.{refusal_of, Rules, rules_of, sent, State, state_at, step, Stepped, Tick, Client.Client}
use Rattle.bac_tsm.specs.{declared.client.SubmitFault.SubmitFault, Events.Request, Laws.{AnswersByInvokeId, waiting_at}}
use Rattle.bac_tsm.specs.Lookahead.{accepted, accepted_at, End, end_notes, or_dropped, output, send_notes}
use Rattle.bac_tsm.specs.Machine.{Answered, folded, Run, submit, tick}
use Rattle.{bac_text.specs.declared.jobs.Call.Call, bac_print.specs.Checked.TookOrFailed}
use Rattle.bac_links.specs.{Account, answer_of, answers_of, Arrived, asked, Asks, Checked, Comes, end_in, ending_line}
use Rattle.bac_links.specs.{Entry, events_of, Exit, exit_of, Failure, Follows, ForDatagram, ForTime, Gains, GainsAll}
use Rattle.bac_links.specs.{GoOnAlike, handed, handed_of, Heard, IsAccepted, most_turns, Move, move, next_move}
use Rattle.bac_links.specs.{or_ended, Over, Plays, Posted, Purpose, question_of, ReceiveFailed, rules_for, SendFailed}
use Rattle.bac_links.specs.{service_of, Silence, Tells, Timed, times_in, ToolFault, ToSend, turn_after, TurnsSpent}
use Rattle.bac_links.specs.{Unposted, Waited, waits_in, WriteFailed, Inner.AsksNothing}
use Rattle.bac_links.specs.Inner.{begun_at, CarriesOn, ending_in, endings, GainsLost, heard_step, Hears, IsAlone}
use Rattle.bac_links.specs.Inner.{or_sent, post_in, posts, sent_last, ticked, Ticks, TicksLost, Underway, wait_of}

-- An account with this history.
abbrev with_history : {Origin : Type 0} → Account Origin → List Entry → Account Origin
with_history a entries = record a { history = entries }

pub gains_both : {Origin : Type 0} (xs ys : List Entry) (a b c : Account Origin) → GainsAll xs a b → GainsAll ys b c
    → GainsAll (xs ++ ys) a c
gains_both = grind (arith, append_assoc)

pub gains_none : {Origin : Type 0} (a : Account Origin) → GainsAll [] a a
gains_none a = sym (ap (with_history a) (append-nil a.history))

-- ---- tools that follow their moves, and are answered alike, ask alike

pub last_push : {A : Type 0} (o : Option A) (xs : List A) (x : A) → last_or o (xs ++ x ∷ []) ≡ Some x
last_push o [] x = refl
last_push o (y ∷ xs) x = last_push _ xs x

pub waits_push : (more : List Entry) (x : Entry) → waits_in (more ++ x ∷ []) ≡ waits_in more + waits_in (x ∷ [])
waits_push [] x = omega arith
waits_push (Waited wait heard ∷ more) x = let h = waits_push more x in omega (arith, h)
waits_push (_ ∷ more) x = waits_push more x

pub times_push : (more : List Entry) (x : Entry) → times_in (more ++ x ∷ []) ≡ times_in more ++ times_in (x ∷ [])
times_push [] x = refl
times_push (Timed time ∷ more) x = ap (λ (ts : List ℕ). time ∷ ts) (times_push more x)
times_push (_ ∷ more) x = times_push more x

module _ {X : Type 0} (wait n : ℕ) where
  abbrev turn : Move (Result X ToolFault)
  turn = turn_after wait n

  pub turn_begins : n < most_turns → turn ≡ Asks (ForDatagram wait)
  turn_begins within = rw (lt-ltb n _ within) refl

  pub turns_over : most_turns ≤ n → turn ≡ Over (Err TurnsSpent)
  turns_over over = rw (le-ltb n _ over) refl

-- The question and the answer make the entry.
one_entry : (x y : Entry) → question_of x ≡ question_of y → answer_of x ≡ answer_of y → x ≡ y
one_entry = grind arith

module _ {R : Type 0} (move : List Entry → Option Entry → Move R) where
  pub follows_push : (before xs : List Entry) (x : Entry) → Follows move before xs
      → next_move move (before ++ xs) ≡ Asks (question_of x) → Follows move before (xs ++ x ∷ [])
  follows_push _ [] x _ due = (ap (next_move move) (sym (append-nil _)) ∙ due, tt)
  follows_push _ (y ∷ xs) x (asks, later) due =
      (asks, follows_push _ xs x later (ap (next_move move) (append_assoc _ _ xs) ∙ due))

  -- The move after one more entry depends on it.
  pub next_push : (xs : List Entry) (x : Entry) → next_move move (xs ++ x ∷ []) ≡ move (xs ++ x ∷ []) (Some x)
  next_push = grind (arith, last_push)

  -- A property that holds at first, and is kept by each further entry, holds after all entries.
  pub followed : (P : List Entry → Type 0)
      → ((xs : List Entry) (x : Entry) → Follows move [] xs → next_move move xs ≡ Asks (question_of x) → P xs
      → P (xs ++ x ∷ [])) → P [] → (xs : List Entry) → Follows move [] xs → P xs
  followed P more first xs = go [] xs tt first
    where
      go : (before later : List Entry) → Follows move [] before → P before → Follows move before later
          → P (before ++ later)
      go before [] here so _ = subst P (sym (append-nil before)) so
      go before (x ∷ later) here so (asks, follows) =
          subst P (append_assoc before (x ∷ []) later) (go (before ++ x ∷ []) later
          (follows_push [] before x here asks) (more before x here asks so) follows)

  follows_behind : (before xs ys : List Entry) → Follows move before (xs ++ ys) → Follows move (before ++ xs) ys
  follows_behind _ [] ys follows = grind (arith, append-nil)
  follows_behind before (x ∷ xs) ys (_, later) =
      grind (arith, append_assoc, follows_behind (before ++ x ∷ []) xs ys later)

  -- As far as two tools were answered alike, they asked alike.
  pub same_so_far : (before first other rest other_rest : List Entry) → Follows move before (first ++ rest)
      → Follows move before (other ++ other_rest) → answers_of first ≡ answers_of other → first ≡ other
  same_so_far _ [] [] _ _ p q e = refl
  same_so_far before (x ∷ first) (y ∷ other) rest other_rest (asks, later) (other_asks, other_later) e =
      grind (arith, one_entry, same_so_far (before ++ x ∷ []) first other rest other_rest later)
  same_so_far _ [] (y ∷ other) _ _ p q e = cc
  same_so_far _ (x ∷ first) [] _ _ p q e = cc

  -- Then they go on alike.
  module _ {A : Type 0} (IsCutOff : A → Type 0) (EndAlike PrintAlike : A → A → Type 0)
      (first rest other_rest : List Entry) (r s : A)
      (cut : rest ≡ [] → (x : Entry) → next_move move first ≡ Asks (question_of x) → IsCutOff r × PrintAlike r s)
      (other_cut : other_rest ≡ [] → (x : Entry) → next_move move first ≡ Asks (question_of x)
      → IsCutOff s × PrintAlike r s)
      (ends : rest ≡ [] → other_rest ≡ [] → EndAlike r s × PrintAlike r s) where
    go_on : (xs ys : List Entry) → rest ≡ xs → other_rest ≡ ys → Follows move first xs → Follows move first ys
        → GoOnAlike IsCutOff EndAlike PrintAlike r s xs ys
    go_on = grind arith

    pub so_far : (other : List Entry) → first ≡ other → Follows move [] (first ++ rest)
        → Follows move [] (other ++ other_rest) → GoOnAlike IsCutOff EndAlike PrintAlike r s rest other_rest
    so_far = grind (arith, go_on, follows_behind)

-- The entries that were gained, from the present history.
pub played : {Origin R : Type 0} {move : List Entry → Option Entry → Move R} {seen left : Account Origin} {result : R}
    {gained : List Entry} (plays : Plays move seen left result) → left.history ≡ seen.history ++ gained
    → plays.gained ≡ gained
played = grind (arith, append_cancel_left)

-- These entries answer the moves that were due, and after them the tool is over.
pub record PlaysAll {R : Type 0} (move : List Entry → Option Entry → Move R) (gained : List Entry) (result : R) : Type 0
  where
    pub follows : Follows move [] gained
    pub over : next_move move gained ≡ Over result

pub plays_all : {Origin R : Type 0} {move : List Entry → Option Entry → Move R} {seen left : Account Origin}
    {result : R} {gained : List Entry} → Plays move seen left result → left.history ≡ seen.history ++ gained
    → PlaysAll move gained result
plays_all plays gains = rw (← played plays gains) (record { follows = plays.follows; over = plays.over })

-- Two tools that follow their moves to their ends stop together.
module _ {Origin Other R A : Type 0} {move : List Entry → Option Entry → Move R} (EndAlike PrintAlike : A → A → Type 0)
    {seen left : Account Origin} {other_seen other_left : Account Other} {c d : R} (r s : A)
    (plays : Plays move seen left c) (others : Plays move other_seen other_left d)
    (ends : c ≡ d → plays.gained ≡ others.gained → EndAlike r s × PrintAlike r s) where
  pub to_the_end : (first rest other other_rest : List Entry) → left.history ≡ seen.history ++ (first ++ rest)
      → other_left.history ≡ other_seen.history ++ (other ++ other_rest) → answers_of first ≡ answers_of other
      → (first ≡ other) × GoOnAlike (λ r. ⊥) EndAlike PrintAlike r s rest other_rest
  to_the_end first rest other other_rest gains other_gains same =
      let here = plays_all plays gains in
      let there = plays_all others other_gains in
      let one = same_so_far move [] first other rest other_rest here.follows there.follows same in (
        one,
        so_far move (λ r. ⊥) EndAlike PrintAlike first rest other_rest r s (grind (arith, append-nil, here))
            (grind (arith, append-nil, there, one))
            (grind (arith, append-nil, here, there, one, ends, played plays gains, played others other_gains))
            other one here.follows there.follows,
      )

-- ---- one more event at the end of any list

pub slice_get-last : (events : List Event) (event : Event)
    → slice_get (events ++ event ∷ []) (length events) ≡ Some event
slice_get-last [] _ = refl
slice_get-last (x ∷ events) event = slice_get-last events event

module _ (rules : Rules) (by_invoke_id : AnswersByInvokeId rules) (small : rules.most_open ≤ 255) (events : List Event)
    (event : Event) where
  -- The state before the last event does not depend on it.
  state_before : state_at rules 0 (events ++ event ∷ []) (length events) ≡ state_at rules 0 events (length events)
  state_before =
      let first = run_first rules 0 _ by_invoke_id small (length events)
      (let e = length_push events event in omega arith) in
      let whole = run_whole rules 0 events by_invoke_id small in
      sym (ap (λ r. r.after) first)
      ∙ ap (λ xs. (folded rules (initial 0) 0 xs).after) (take-append_seam events (event ∷ []))
      ∙ ap (λ r. r.after) whole

  -- The step of the last event gives the notes and the state of the look-ahead.
  last_step : step rules (state_at rules 0 events (length events)) event ≡ record {
    notes = output rules 0 (events ++ event ∷ []) (length events);
    after = state_at rules 0 (events ++ event ∷ []) (suc (length events));
  }
  last_step = grind (arith, state_before, one_step, by_invoke_id, slice_get-last)

-- ---- the events of a call

news_at : (rest : List Event) (j : ℕ) (event : Event) → All AsksNothing rest → slice_get rest j ≡ Some event
    → AsksNothing event
news_at = grind (arith, get_or_from_slice_get, slice_get_within)

none_at : (rules : Rules) (events : List Event) (i : ℕ) (before : List Accepted) (rest : List Event) (j : ℕ)
    → All AsksNothing rest →
    accepted_at rules 0 events i before (slice_get rest j) ≡ []
none_at rules events i before rest j quiet = go (slice_get rest j) (λ event e. news_at rest j event quiet e)
  where
    go : (here : Option Event) → ((event : Event) → here ≡ Some event → AsksNothing event)
        → accepted_at rules 0 events i before here ≡ []
    go (Some (Ask peer service body)) news = absurd (news (Ask peer service body) refl)
    go _ news = refl

module _ (purpose : Purpose) (call : Call) (time : ℕ) where
  fitting : length call.body.items ≤ longest_body → nat_lt longest_body (length call.body.items) ≡ false
  fitting = grind (arith, nat_tests)

  -- The request is accepted, and no other is made.
  accepted_is : (later : List Event) → length call.body.items ≤ longest_body → All AsksNothing later → (j : ℕ) →
      accepted (rules_for call) 0 (begun_at purpose call time later) (suc (suc j)) ≡ asked purpose call ∷ []
  unfolding refusal_of next_invoke_id
  accepted_is _ short quiet zero = rw (fitting short) refl
  accepted_is later short quiet (suc j) = grind (arith, none_at, accepted_is later short quiet j)

-- ---- the ends and the sends among notes

not_silent : (request : Request) (x : Option End) (y : End) → x ≡ Some y → endings (end_notes y.position request x) ≡ []
    → ⊥
not_silent _ x y e none = grind (arith, nat_tests, e, none)

none_if : (x : Option End) → ((y : End) → x ≡ Some y → ⊥) → x ≡ None
none_if = grind arith

-- ---- the notes at a position

-- The sends and the end that the look-ahead places at position i.
abbrev placed : Rules → List Event → ℕ → Accepted → List Note
placed rules events i a = send_notes rules events i a ++ end_notes i a.request (end rules events a)

sends_placed : (rules : Rules) (events : List Event) (i : ℕ) (a : Accepted)
    → posts (placed rules events i a) ≡ posts (send_notes rules events i a)
sends_placed _ _ i a = grind arith

ends_placed : (rules : Rules) (events : List Event) (i : ℕ) (a : Accepted)
    → endings (placed rules events i a) ≡ endings (end_notes i a.request (end rules events a))
ends_placed _ _ i a = grind arith

-- The sends and the ends in the notes at position i are those that the look-ahead places there.
record TellsPlaced (rules : Rules) (events : List Event) (a : Accepted) (i : ℕ) : Type 0 where
  sends : posts (output rules 0 events i) ≡ posts (send_notes rules events i a)
  ends : endings (output rules 0 events i) ≡ endings (end_notes i a.request (end rules events a))

-- A function of notes that ignores a dropped datagram.
module _ {X : Type 0} (read : Note → List X) (silent : read Dropped ≡ []) where
  dropped : (notes : List Note) → flat_map read (or_dropped notes) ≡ flat_map read notes
  dropped = grind (arith, silent)

  -- If one request was accepted before, the notes on a later event are those of that request at its position.
  news_told : (rules : Rules) (events : List Event) (i : ℕ) (a : Accepted) → accepted rules 0 events i ≡ a ∷ []
      → (a.position ≡ i → ⊥) →
      (event : Event) → AsksNothing event → slice_get events i ≡ Some event
      → flat_map read (output rules 0 events i) ≡ flat_map read (placed rules events i a)
  news_told = grind (arith, dropped, append-nil, quiet_unsent)

-- ---- a call, event by event

abbrev Client_of : Call → State → Client
Client_of call state = record { timeout = call.timeout; retries = call.retries; state = state }

module _ (purpose : Purpose) (call : Call) (time : ℕ) (later : List Event)
    (short : length call.body.items ≤ longest_body)
    (quiet : All AsksNothing later) where
  abbrev all : List Event
  all = begun_at purpose call time later

  pub is_accepted : IsAccepted purpose call all
  is_accepted = grind (arith, accepted_is)

  told_at : {X : Type 0} (read : Note → List X) → read Dropped ≡ [] → (i : ℕ) (event : Event)
      → slice_get all i ≡ Some event →
      flat_map read (output (rules_for call) 0 all i)
      ≡ flat_map read (placed (rules_for call) all i (asked purpose call))
  unfolding refusal_of next_invoke_id
  told_at _ silent zero _ e =
      rw (
        early_unsent _ all (asked purpose call) 0 (omega arith),
        early_unended _ all (asked purpose call) 0 (omega arith),
      ) refl
  told_at _ silent (suc zero) _ e =
      rw (
        sent_first (rules_for call) all (asked purpose call),
        early_unended _ all (asked purpose call) 1 (omega arith),
        fitting purpose call time short,
      ) refl
  told_at read silent (suc (suc j)) event e =
      news_told read silent (rules_for call) all _ _
      (accepted_is _ call time later short quiet j) (λ q. omega arith) event (news_at later j event quiet e) e

  told : (i : ℕ) → i < length all → TellsPlaced (rules_for call) all (asked purpose call) i
  told i within =
      let (event, here, _) = drop_head all i within in
      record {
        sends = told_at post_in refl i event here ∙ sends_placed (rules_for call) all i (asked purpose call);
        ends = told_at ending_in refl i event here ∙ ends_placed (rules_for call) all i (asked purpose call);
      }

  -- If the request has an end, the end is within the events.
  end_within : (x : End) → end_in purpose call all ≡ Some x → x.position < length all
  end_within x e = elim (cases_lt x.position (length all)) [
    | inl within ↦ within
    | inr past ↦
        let none = past_unended (rules_for call) all _ _ past (omega arith) in
        absurd (not_silent (asked purpose call).request _ x e (ap endings none))
  ]

-- The facts about one more event.
module _ (purpose : Purpose) (call : Call) (time : ℕ) (later : List Event)
    (short : length call.body.items ≤ longest_body)
    (quiet : All AsksNothing later) (event : Event) (news : AsksNothing event) where
  abbrev before : List Event
  before = begun_at purpose call time later

  abbrev after : List Event
  after = begun_at purpose call time (later ++ event ∷ [])

  quiet_after : All AsksNothing (later ++ event ∷ [])
  quiet_after = grind (arith, common_steps)

  longer : length after ≡ suc (length before)
  longer = let l = length_push before event in omega arith

  same_output : (i : ℕ) → i < length before → output (rules_for call) 0 after i ≡ output (rules_for call) 0 before i
  same_output i within =
      looks_back (rules_for call) 0 after before i (omega (arith, longer)) within
      (take-append-le (suc i) before _ (omega arith))

  same_ends : (i : ℕ) → i < length before →
      endings (end_notes i (asked purpose call).request (end_in purpose call after))
      ≡ endings (end_notes i (asked purpose call).request (end_in purpose call before))
  same_ends i within =
      sym (told purpose call time (later ++ event ∷ []) short quiet_after i (omega (arith, longer))).ends
      ∙ ap endings (same_output i within) ∙ (told purpose call time later short quiet i within).ends

  -- The client's step at the event is that of the look-ahead.
  step_is : step (rules_for call) (state_at (rules_for call) 0 before (length before)) event ≡ record {
    notes = output (rules_for call) 0 after (length before);
    after = state_at (rules_for call) 0 after (length after);
  }
  step_is =
      last_step (rules_for call) (by_invoke_id call.timeout call.retries) few_open before event
      ∙ both_are _ _ _ _ refl (ap (state_at (rules_for call) 0 after) (sym longer))

  told_last : TellsPlaced (rules_for call) after (asked purpose call) (length before)
  told_last = told purpose call time (later ++ event ∷ []) short quiet_after (length before) (omega (arith, longer))

  -- An end that comes with the event is at its position.
  end_is_last : end_in purpose call before ≡ None → (x : End) → end_in purpose call after ≡ Some x
      → x.position ≡ length before
  end_is_last unended x e = elim (cases_eq x.position (length before)) [
    | inl same ↦ same
    | inr other ↦
        let within = end_within purpose call time (later ++ event ∷ []) short quiet_after x e in
        let none = same_ends x.position (omega (arith, longer))
        ∙ ap (λ e. endings (end_notes x.position (asked purpose call).request e)) unended in
        absurd (grind arith)
  ]

module _ {purpose : Purpose} {call : Call} {time : ℕ} {later : List Event} {client : Client}
    (far : CarriesOn purpose call time later client) (event : Event) (news : AsksNothing event) where
  abbrev stepped_now : Stepped
  stepped_now = step (rules_of client) client.state event

  abbrev begun_so_far : List Event
  begun_so_far = begun_at purpose call time later

  abbrev next : List Event
  next = begun_at purpose call time (later ++ event ∷ [])

  handed_is : stepped_now ≡ record {
    notes = output (rules_for call) 0 next (length begun_so_far);
    after = state_at (rules_for call) 0 next (length next);
  }
  handed_is = grind (arith, step_is)

  told_next : TellsPlaced (rules_for call) next (asked purpose call) (length begun_so_far)
  told_next = search (arith, told_last)

  -- The sends of the step are those of the request at the event.
  pub sends_next : sent_last purpose call next ≡ posts stepped_now.notes
  sends_next = grind (arith, length_push, handed_is, told_next)

  ends_told : endings stepped_now.notes
      ≡ endings (end_notes (length begun_so_far) (asked purpose call).request (end_in purpose call next))
  ends_told = ap (λ s. endings s.notes) handed_is ∙ told_next.ends

  -- Without an end the call goes on.
  pub carries_on : endings stepped_now.notes ≡ [] → (left : Client) → left ≡ keeping client stepped_now.after
      → CarriesOn purpose call time (later ++ event ∷ []) left
  carries_on none left e = record {
    short = far.short;
    quiet = grind (arith, quiet_after);
    unended = none_if _ (λ x e.
        let there = end_is_last purpose call time later far.short far.quiet event news far.unended x e in
        not_silent (asked purpose call).request _ x e (rw there (sym ends_told ∙ none)));
    client_is = grind (arith, far.client_is, handed_is);
  }

  -- An end in the notes is the end of the request.
  pub ends_next : (o : Option Outcome) → endings stepped_now.notes ≡ o ∷ []
      → end_in purpose call next ≡ Some (record { position = length begun_so_far; outcome = o })
  ends_next o one = grind (arith, nat_tests, sym ends_told ∙ one)

-- One request is open in a call.
pub carried_alone : {purpose : Purpose} {call : Call} {time : ℕ} {later : List Event} {client : Client}
    → CarriesOn purpose call time later client → IsAlone client.state
carried_alone {purpose} {call} {time} {later} far = (
  waiting_at (rules_for call) (begun_at purpose call time later) (length (begun_at purpose call time later))
      (asked purpose call),
  grind (arith, accepted_is),
)

-- ---- the beginning

module _ (purpose : Purpose) (call : Call) (time : ℕ) (short : length call.body.items ≤ longest_body) where
  abbrev first : List Event
  first = begun_at purpose call time []

  abbrev pub submitted : Answered (Result ℕ SubmitFault)
  submitted = submit (rules_for call) (tick (rules_for call) (initial 0) time).after (station call.to)
      (service_of purpose)
      call.body.items

  -- The request is accepted.
  pub submitted_is : submitted.answer ≡ Ok 0
  unfolding refusal_of
  submitted_is = grind arith

  pub begins : CarriesOn purpose call time [] (Client_of call submitted.after)
  begins = record {
    short = short;
    quiet = All-nil _;
    unended = none_if _ (λ x e.
        let within = end_within purpose call time [] short (All-nil AsksNothing) x e in
        let none = early_unended (rules_for call) first (asked purpose call) _ (omega arith) in
        not_silent (asked purpose call).request _ x e (ap endings none));
    client_is =
        ap (λ (r : Run). Client_of call r.after)
        (run_whole (rules_for call) 0 first (by_invoke_id call.timeout call.retries) few_open);
  }

  pub begins_sent : sent_last purpose call first ≡ posts (sent submitted.after 0)
  unfolding refusal_of next_invoke_id
  begins_sent = rw (sent_first (rules_for call) first (asked purpose call), fitting purpose call time short) refl

-- ---- one open request

-- If one request is open and a tick ends it, the tick sends nothing.
unsent_at_end : (rules : Rules) (state : State) (now : ℕ) → IsAlone state →
    endings (step rules state (Tick now)).notes ≡ None ∷ [] → posts (step rules state (Tick now)).notes ≡ []
unsent_at_end = grind (arith, cases_Bool)

-- At most one send is made at a time.
abbrev OneOrNone : List Entry → Type 0
OneOrNone xs = (xs ≡ []) ⊎ ((to : Station) × (octets : List ℕ) × (xs ≡ Posted to octets ∷ []))

one_or_none : (rules : Rules) (events : List Event) (i : ℕ) (a : Accepted)
    → OneOrNone (posts (send_notes rules events i a))
one_or_none = grind (arith, cases_Bool)

-- ---- the events of the client

pub handed_push : (more : List Entry) (x : Entry) → handed (more ++ x ∷ []) ≡ handed more ++ handed_of x
handed_push = grind (arith, flat_map-append, append-nil)

pub quiet_handed : (more : List Entry) → All AsksNothing (handed more)
quiet_handed [] = All-nil _
quiet_handed (Waited wait (Arrived from octets) ∷ more) = All-cons AsksNothing _ _ tt (quiet_handed more)
quiet_handed (Timed time ∷ more) = All-cons AsksNothing _ _ tt (quiet_handed more)
quiet_handed (_ ∷ more) = quiet_handed more

-- ---- one more entry that has an event

module _ {purpose : Purpose} {call : Call} {time : ℕ} (more : List Entry) {client : Client}
    (far : CarriesOn purpose call time (handed more) client) where
  module _ (x : Entry) (event : Event) (news : AsksNothing event) (one : handed_of x ≡ event ∷ []) where
    abbrev handing : Stepped
    handing = step (rules_of client) client.state event

    pushed : handed more ++ event ∷ [] ≡ handed (more ++ x ∷ [])
    pushed = grind (arith, handed_push)

    sends_so : sent_last purpose call (events_of purpose call (Timed time ∷ (more ++ x ∷ []))) ≡ posts handing.notes
    sends_so = grind (arith, pushed, sends_next)

    ends_so : (o : Option Outcome) → endings handing.notes ≡ o ∷ []
        → end_in purpose call (events_of purpose call (Timed time ∷ (more ++ x ∷ [])))
        ≡ Some (record { position = length (begun_at purpose call time (handed more)); outcome = o })
    ends_so o is =
        ap (λ (later : List Event). end_in purpose call (begun_at purpose call time later)) (sym pushed)
        ∙ ends_next far event news o is

    on_so : endings handing.notes ≡ [] → (left : Client) → left ≡ keeping client handing.after
        → CarriesOn purpose call time (handed (more ++ x ∷ [])) left
    on_so none left e =
        subst (λ (later : List Event). CarriesOn purpose call time later left) pushed
        (carries_on far event news none left e)

  -- An entry without an event changes nothing for the client.
  same_so : (x : Entry) → handed_of x ≡ [] → CarriesOn purpose call time (handed (more ++ x ∷ [])) client
  same_so = grind (arith, handed_push, append-nil)

  -- A datagram in a call whose request stays open.
  heard_on : (wait : ℕ) (heard : Heard) (left : Client)
      → endings (heard_step (rules_of client) client.state heard).notes ≡ [] →
      left ≡ keeping client (heard_step (rules_of client) client.state heard).after
      → CarriesOn purpose call time (handed (more ++ Waited wait heard ∷ [])) left
  heard_on wait (Arrived from octets) left none e =
      on_so (Waited wait (Arrived from octets)) (Data from octets) tt refl none left e
  heard_on wait Silence _ none e = rw e (same_so (Waited wait Silence) refl)
  heard_on wait Failure _ none e = rw e (same_so (Waited wait Failure) refl)

  -- An answer ends the request.
  heard_end : (wait : ℕ) (heard : Heard) (outcome : Outcome)
      → endings (heard_step (rules_of client) client.state heard).notes ≡ Some outcome ∷ [] →
      end_in purpose call (events_of purpose call (Timed time ∷ (more ++ Waited wait heard ∷ [])))
      ≡ Some (record { position = length (begun_at purpose call time (handed more)); outcome = Some outcome })
  heard_end wait (Arrived from octets) outcome one =
      ends_so (Waited wait (Arrived from octets)) (Data from octets) tt refl (Some outcome) one
  heard_end _ _ _ one = cc

-- ---- the next move

module _ (purpose : Purpose) (call : Call) where
  -- The move after one more entry is `next`.
  abbrev Behind : List Entry → Entry → Move Comes → Type 0
  Behind gained x next = next_move (move purpose call) (gained ++ x ∷ []) ≡ next

  behind_wait : (gained : List Entry) (wait : ℕ) (heard : Heard) → heard ≢ Failure →
      next_move (move purpose call) (gained ++ Waited wait heard ∷ [])
      ≡ or_ended (end_in purpose call (events_of purpose call (gained ++ Waited wait heard ∷ []))) (Asks ForTime)
  behind_wait = grind (arith, last_push)

  -- After a time the request is sent if it is due, unless it has ended.
  behind_now : (gained : List Entry) (now : ℕ) → next_move (move purpose call) (gained ++ Timed now ∷ [])
      ≡ or_ended (end_in purpose call (events_of purpose call (gained ++ Timed now ∷ [])))
      (or_sent (sent_last purpose call (events_of purpose call (gained ++ Timed now ∷ [])))
      (turn_after (wait_of call) (waits_in (gained ++ Timed now ∷ []))))
  behind_now = grind (arith, last_push)

  -- If the request stays open, a turn begins after the time.
  behind_time : (gained : List Entry) (now : ℕ)
      → end_in purpose call (events_of purpose call (gained ++ Timed now ∷ [])) ≡ None →
      next_move (move purpose call) (gained ++ Timed now ∷ [])
      ≡ or_sent (sent_last purpose call (events_of purpose call (gained ++ Timed now ∷ [])))
      (turn_after (wait_of call) (waits_in (gained ++ Timed now ∷ [])))
  behind_time = grind (arith, behind_now)

-- ---- after a time, with the request open

module _ {purpose : Purpose} {call : Call} {time : ℕ} (more : List Entry) {client : Client} {n : ℕ}
    (carried : CarriesOn purpose call time (handed more) client)
    (follows : Follows (move purpose call) [] (Timed time ∷ more)) (due : List Entry)
    (next : next_move (move purpose call) (Timed time ∷ more) ≡ or_sent due (turn_after (wait_of call) n))
    (turns : waits_in more ≡ n) where
  follows_sent : (x : Entry) (to : Station) (octets : List ℕ) → due ≡ Posted to octets ∷ []
      → ToSend to octets ≡ question_of x → Follows (move purpose call) [] (Timed time ∷ (more ++ x ∷ []))
  follows_sent = grind (arith, follows_push)

  module _ {Origin : Type 0} {seen left : Account Origin} where
    -- The due request was sent, or none is due.
    goes_on : OneOrNone due → GainsAll (Timed time ∷ (more ++ due)) seen left → Underway purpose call seen left client n
    goes_on (inl none) gains = grind (arith, append-nil)
    goes_on (inr (to, octets, one)) gains =
        let x = Posted to octets in
        record {
          time = time;
          more = more ++ x ∷ [];
          gains = rw one at gains;
          carried = same_so more carried x refl;
          follows = follows_sent x to octets one refl;
          next = next_push (move purpose call) (Timed time ∷ more) x ∙ ap (turn_after (wait_of call)) (turned x refl);
          turns = turned x refl;
        }
      where
        turned : (x : Entry) → waits_in (x ∷ []) ≡ 0 → waits_in (more ++ x ∷ []) ≡ n
        turned x none = let e = waits_push more x in omega (arith, e, none, turns)

    -- The due request could not be sent.
    loses : (to : Station) (octets : List ℕ) → due ≡ Posted to octets ∷ [] →
        GainsAll (Timed time ∷ (more ++ Unposted to octets ∷ [])) seen left
        → Plays (move purpose call) seen left (Err SendFailed)
    loses to octets one gains = record {
      gained = Timed time ∷ (more ++ Unposted to octets ∷ []);
      gains = gains;
      follows = follows_sent (Unposted to octets) to octets one refl;
      over = next_push (move purpose call) (Timed time ∷ more) (Unposted to octets);
    }

-- ---- a turn

module _ {Origin : Type 0} {purpose : Purpose} {call : Call} {seen mid next : Account Origin} {client : Client} {n : ℕ}
    (within : n < most_turns) (far : Underway purpose call seen mid client n) (heard : Heard)
    (gains : Gains (Waited (wait_of call) heard) mid next) where
  abbrev waited : List Entry
  waited = far.more ++ Waited (wait_of call) heard ∷ []

  gains_waited : GainsAll (Timed far.time ∷ waited) seen next
  gains_waited = gains_both _ _ seen mid next far.gains gains

  follows_waited : Follows (move purpose call) [] (Timed far.time ∷ waited)
  follows_waited = grind (arith, follows_push, turn_begins)

  comes : (r : Comes) → next_move (move purpose call) (Timed far.time ∷ waited) ≡ Over r
      → Plays (move purpose call) seen next r
  comes = grind (arith, gains_waited, follows_waited)

  behind_waited : heard ≢ Failure → (e : Option End)
      → end_in purpose call (events_of purpose call (Timed far.time ∷ waited)) ≡ e →
      next_move (move purpose call) (Timed far.time ∷ waited) ≡ or_ended e (Asks ForTime)
  behind_waited received e is =
      behind_wait purpose call (Timed far.time ∷ far.more) (wait_of call) heard received
      ∙ ap (λ (e : Option End). or_ended e (Asks ForTime)) is

  -- An answer ends the call.
  pub answered : (outcome : Outcome) → heard ≢ Failure →
      endings (heard_step (rules_of client) client.state heard).notes ≡ Some outcome ∷ []
      → Plays (move purpose call) seen next (Ok (Some outcome))
  answered outcome received one =
      comes (Ok (Some outcome)) (behind_waited received _ (heard_end far.more far.carried _ heard _ one))

  pub unheard : heard ≡ Failure → Plays (move purpose call) seen next (Err ReceiveFailed)
  unheard failure =
      comes (Err ReceiveFailed)
      (ap (λ (h : Heard). next_move (move purpose call) (Timed far.time ∷ (far.more ++ Waited (wait_of call) h ∷ [])))
      failure
      ∙ next_push (move purpose call) (Timed far.time ∷ far.more) (Waited (wait_of call) Failure))

-- The wait does not end the request.
module _ {Origin : Type 0} {purpose : Purpose} {call : Call} {seen mid next : Account Origin} {client middle : Client}
    {n : ℕ} (within : n < most_turns) (far : Underway purpose call seen mid client n)
    (hears : Hears (wait_of call) client middle None mid next) where
  abbrev until_now : List Entry
  until_now = waited within far hears.heard hears.gains

  carried : CarriesOn purpose call far.time (handed until_now) middle
  carried = heard_on far.more far.carried _ hears.heard _ hears.ends hears.handed

  pub alone : IsAlone middle.state
  alone = carried_alone carried

  module _ (now : ℕ) where
    abbrev timed : List Entry
    timed = until_now ++ Timed now ∷ []

    follows_timed : Follows (move purpose call) [] (Timed far.time ∷ timed)
    follows_timed =
        follows_push (move purpose call) [] (Timed far.time ∷ until_now) (Timed now)
        (follows_waited within far hears.heard hears.gains)
        (behind_waited within far hears.heard hears.gains hears.received None carried.unended)

    due_is : sent_last purpose call (events_of purpose call (Timed far.time ∷ timed)) ≡ posts (ticked middle now).notes
    due_is = sends_so until_now carried (Timed now) (Tick now) tt refl

    turned : waits_in timed ≡ suc n
    turned = grind (arith, waits_push)

    gains_timed : {last : Account Origin} (rest : List Entry) → GainsAll (Timed now ∷ rest) next last
        → GainsAll (Timed far.time ∷ (timed ++ rest)) seen last
    gains_timed = grind (arith, append_assoc, gains_both, gains_waited)

    carried_then : endings (ticked middle now).notes ≡ [] → (after : Client)
        → after ≡ keeping middle (ticked middle now).after → CarriesOn purpose call far.time (handed timed) after
    carried_then = search (arith, on_so, carried)

    next_then : endings (ticked middle now).notes ≡ [] → next_move (move purpose call) (Timed far.time ∷ timed)
        ≡ or_sent (posts (ticked middle now).notes) (turn_after (wait_of call) (suc n))
    next_then none_then =
        behind_time purpose call (Timed far.time ∷ until_now) now (carried_then none_then _ refl).unended
        ∙ ap (λ (d : List Entry). or_sent d (turn_after (wait_of call) (waits_in timed))) due_is
        ∙ ap (λ (k : ℕ). or_sent (posts (ticked middle now).notes) (turn_after (wait_of call) k)) turned

  -- The call goes on.
  pub on : {last : Account Origin} {after : Client} → Ticks middle after false next last
      → Underway purpose call seen last after (suc n)
  on ticks =
      let now = ticks.time in
      goes_on (timed now) (carried_then now ticks.ends _ ticks.handed) (follows_timed now) _ (next_then now ticks.ends)
      (turned now) (grind (arith, due_is now, one_or_none)) (gains_timed now _ ticks.gains)

  -- The request ends by a timeout.
  pub timed_out : {last : Account Origin} {after : Client} → Ticks middle after true next last
      → Plays (move purpose call) seen last (Ok None)
  timed_out ticks = let now = ticks.time in record {
    gained = Timed far.time ∷ timed now;
    gains = grind (arith, unsent_at_end, alone, append-nil, gains_timed now _ ticks.gains);
    follows = follows_timed now;
    over =
        behind_now purpose call (Timed far.time ∷ until_now) now
        ∙ rw (ends_so until_now carried (Timed now) (Tick now) tt refl None ticks.ends) refl;
  }

  -- The request could not be sent again.
  pub unsent : {last : Account Origin} → TicksLost middle next last
      → Plays (move purpose call) seen last (Err SendFailed)
  unsent ticks =
      let now = ticks.time in
      loses (timed now) (carried_then now ticks.open_still _ refl) (follows_timed now) _
      (next_then now ticks.open_still) (turned now) _ _ ticks.lost.one (gains_timed now _ ticks.lost.gains)

-- ---- the beginning

-- A call begins with its request sent, or with a request that could not be sent.
module _ (purpose : Purpose) (call : Call) (time : ℕ) (short : length call.body.items ≤ longest_body)
    {client : Client} (client_is : client ≡ record {
      timeout = call.timeout;
      retries = call.retries;
      state = (submitted purpose call time short).after;
    }) where
  carried_first : CarriesOn purpose call time [] client
  carried_first = grind (arith, begins)

  next_first : next_move (move purpose call) (Timed time ∷ [])
      ≡ or_sent (posts (sent client.state 0)) (turn_after (wait_of call) 0)
  next_first =
      behind_time purpose call [] time carried_first.unended
      ∙ ap (λ (d : List Entry). or_sent d (turn_after (wait_of call) 0))
      (begins_sent purpose call time short ∙ ap (λ (c : Client). posts (sent c.state 0)) (sym client_is))

  pub begun : {Origin : Type 0} {seen left : Account Origin}
      → GainsAll (Timed time ∷ posts (sent client.state 0)) seen left → Underway purpose call seen left client 0
  begun gains = grind (arith, goes_on, carried_first, next_first, begins_sent, one_or_none)

  pub unbegun : {Origin : Type 0} {seen mid left : Account Origin} → Gains (Timed time) seen mid
      → GainsLost (sent client.state 0) [] mid left → Plays (move purpose call) seen left (Err SendFailed)
  unbegun told lost =
      loses [] carried_first (refl, tt) _ next_first refl _ _ lost.one (gains_both _ _ _ _ _ told lost.gains)

-- ---- the end

-- All turns are spent.
pub spent : {Origin : Type 0} {purpose : Purpose} {call : Call} {seen left : Account Origin} {client : Client} (n : ℕ)
    → n ≡ most_turns → Underway purpose call seen left client n → Plays (move purpose call) seen left (Err TurnsSpent)
spent = grind (arith, turns_over)

module _ {Origin W : Type 0} (purpose : Purpose) (call : Call) (contents : W → Option (List ℕ))
    (before after : Checked W) {seen left : Account Origin} where
  -- A call that meets this fault reports it.
  pub fails_so : (fault : ToolFault) → fault ≢ WriteFailed → after ≡ before
      → Plays (move purpose call) seen left (Err fault) → Tells purpose call contents before after seen left (Err fault)
  fails_so = grind arith

  -- The call prints the text of the request's end.
  pub shown_so : (ending : Option Outcome) (result : Result Exit ToolFault)
      → TookOrFailed contents before after (ending_line purpose ending) result →
      IfOk result (λ exit. exit ≡ exit_of purpose ending) → IfErr result (λ fault. fault ≡ WriteFailed) →
      Plays (move purpose call) seen left (Ok ending) → Tells purpose call contents before after seen left result
  shown_so = grind arith
