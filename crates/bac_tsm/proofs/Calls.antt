-- Calls of a client: what a datagram answers, the notes on a call, and calls one after another.
use Rattle.std.proofs.Common.{[], All, AllPairs, ap, append-nil, arith, Bool, eq-eqb, eqb-true, false, filter, find}
use Rattle.std.proofs.Common.{flat_map, if◌then◌else◌, is_some, IsSome, length, List, map, max, nat_eq, None, not, Ok}
use Rattle.std.proofs.Common.{Option, option_and_then, option_map, option_to_list, refl, Result, slice_get, Some, suc}
use Rattle.std.proofs.Common.{sym, true, zero, ℕ, ◌%◌, ◌++◌, ◌+◌, ◌-◌, ◌<◌, ◌==◌, ◌^◌, ◌∙◌, ◌∷◌, ◌≡◌, ◌≤◌}
use Rattle.std.proofs.lemmas.{Bool.{false≢true, Decides.nat_tests}, Grind.flat_map-append}
use Rattle.std.proofs.lemmas.List.{get_or-map, length-map, nil_from_length, Elements.{All-append, All-cons, All-filter}}
use Rattle.std.proofs.lemmas.{List.Elements.{All-head, All-nil, All-tail, All-weaker}, Option.none-some}
use Rattle.std.{proofs.lemmas.Slice.Eq.bytes_eq-Decides, specs.{List.list_any, Option.option_map_or, Prelude.⊤}}
use Rattle.bac_wire.proofs.TagLaws.{bind_some}
use Rattle.bac_pdu.{proofs.{DatagramLaws.{apdu_is, carried_is}, DiscoveryLaws.error_is}, specs.{abort, complex_ack}}
use Rattle.bac_pdu.specs.{error, error_of, longest_body, Message, reject, simple_ack, Station, Failure.IsErrorBody}
use Rattle.bac_tsm.{proofs.WholeRun.RequestLife.{step_back, turn_notes}, specs.{aborted, acknowledged, Answer}}
use Rattle.bac_tsm.specs.{answer_in_apdu, answer_in_datagram, AnswersByInvokeId, client_rules, datagram, deliver}
use Rattle.bac_tsm.specs.{due_answer, due_notes, DueEntry, Ends, failed, failed_unreadably, is_answer_to, is_due}
use Rattle.bac_tsm.specs.{IsAnsweredBy, keeping, kept, next_invoke_id, opened, Outcome, outcome_of, outcome_of_answer}
use Rattle.bac_tsm.specs.{refusal_of, rejected, Request, request_of, returned, Rules, rules_of, same_station, segmented}
use Rattle.bac_tsm.specs.{Sent, sent, State, submit, SubmitFault, table_size, TakesStep, tick, Client.Client}
use Rattle.bac_tsm.specs.{Inner.{error_outcome, invoke_id_in, IsTimely, ticket_in}, Machine.Waiting}

-- ---- a datagram answers only requests of one invoke id

-- A request that is answered has the invoke id of the answer.
invoke_id_is : (request : Request) (read : Option Answer)
    → is_some (option_and_then (outcome_of_answer request) read) ≡ true →
    request.invoke_id ≡ option_map_or (λ answer. answer.invoke_id) read 0
unfolding is_answer_to
invoke_id_is = grind (arith, false≢true)

-- The rules of a client satisfy AnswersByInvokeId.
pub by_invoke_id : (timeout retries : ℕ) → AnswersByInvokeId (client_rules timeout retries)
by_invoke_id _ _ a b peer bytes h k = cc (invoke_id_is a _ h, invoke_id_is b _ k)

-- The slots are fewer than the invoke ids.
pub few_open : table_size ≤ 255
few_open = omega arith

-- ---- the test of two stations is true exactly if they are equal

pub same_station_is : (a b : Station) → same_station a b ≡ true → a ≡ b
unfolding same_station
same_station_is = grind (arith, bytes_eq-Decides)

pub same_station_refl : (a : Station) → same_station a a ≡ true
unfolding same_station
same_station_refl = grind (arith, bytes_eq-Decides)

-- An answer that gives an outcome comes from the request's peer, to its invoke id, and names its service or none.
record Agrees (request : Request) (answer : Answer) (outcome : Outcome) : Type 0 where
  peer : answer.peer ≡ request.peer
  invoke_id : answer.invoke_id ≡ request.invoke_id
  service : option_map_or (λ service. request.service == service) answer.service true ≡ true
  gives : answer.outcome ≡ outcome

agrees : (request : Request) (answer : Answer) (outcome : Outcome) → outcome_of_answer request answer ≡ Some outcome
    → Agrees request answer outcome
unfolding is_answer_to
agrees = grind (arith, same_station_is)

-- An answer that names the request's service, or none, gives its outcome.
is_to : (request : Request) (service : Option ℕ) (outcome : Outcome)
    → option_map_or (λ service. request.service == service) service true ≡ true → outcome_of_answer request
    (record { peer = request.peer; invoke_id = request.invoke_id; service = service; outcome = outcome }) ≡ Some outcome
unfolding is_answer_to
is_to = grind (arith, same_station_refl)

-- How an Error ends a request.
error_ends : (invoke_id service : ℕ) (body : List ℕ) (read : Option (ℕ × ℕ)) → error_of body ≡ read →
    Ends invoke_id service (error invoke_id service body) (error_outcome read)
error_ends _ _ _ None e =
    failed_unreadably _ (λ class code h. none-some (class, code) (sym e ∙ (error_is _ _).1 h))
error_ends _ _ _ (Some (class, code)) e = failed _ _ code ((error_is _ _).0 e)

-- If the table gives an outcome, the relation has it too.
ends : (request : Request) (peer : Station) (message : Message) (outcome : Outcome) →
    option_and_then (outcome_of_answer request) (answer_in_apdu peer message) ≡ Some outcome →
    (peer ≡ request.peer) × Ends request.invoke_id request.service message outcome
ends _ _ (simple_ack id service) _ h =
    let a = agrees _ _ _ h in
    (a.peer, rw (a.invoke_id, sym (eqb-true _ _ a.service), sym a.gives) acknowledged)
ends _ _ (complex_ack None id service body) _ h =
    let a = agrees _ _ _ h in (a.peer, rw (a.invoke_id, sym (eqb-true _ _ a.service), sym a.gives) (returned _))
ends _ _ (complex_ack (Some part) id service body) _ h =
    let a = agrees _ _ _ h in (a.peer, rw (a.invoke_id, sym (eqb-true _ _ a.service), sym a.gives) (segmented _ _))
ends _ _ (error id service body) _ h = grind (arith, agrees, error_ends)
ends _ _ (reject id reason) _ h = let a = agrees _ _ _ h in (a.peer, rw (a.invoke_id, sym a.gives) (rejected _))
ends _ _ (abort true id reason) _ h = let a = agrees _ _ _ h in (a.peer, rw (a.invoke_id, sym a.gives) (aborted _))
ends _ _ _ _ h = cc

-- A service equals itself.
own : (request : Request) → (request.service == request.service) ≡ true
own _ = eq-eqb _ _ refl

-- If a body does not begin with a class and a code, an Error with this body has none.
none_read : (body : List ℕ) → ((class code : ℕ) → IsErrorBody body (class, code) → ⊥) → (read : Option (ℕ × ℕ))
    → error_of body ≡ read → read ≡ None
none_read _ _ None e = refl
none_read _ unread (Some (class, code)) e = absurd (unread _ code ((error_is _ _).0 e))

-- If the relation has an outcome, the table gives it too.
ended : (request : Request) (message : Message) (outcome : Outcome)
    → Ends request.invoke_id request.service message outcome →
    option_and_then (outcome_of_answer request) (answer_in_apdu request.peer message) ≡ Some outcome
ended request _ _ (failed body class code h) = grind (arith, error_is body (class, code), is_to)
ended request _ _ (failed_unreadably body unread) = rw (none_read _ unread _ refl) (is_to _ _ _ (own request))
ended _ _ _ (rejected reason) = is_to _ _ _ refl
ended _ _ _ (aborted reason) = is_to _ _ _ refl
ended request _ _ _ = is_to _ _ _ (own request)

-- The outcome of a datagram is an answer in the standard's words.
pub answers : (request : Request) (from : Station) (datagram : List ℕ) (outcome : Outcome) →
    outcome_of request from datagram ≡ Some outcome → IsAnsweredBy request from datagram outcome
unfolding answer_in_datagram
answers _ _ _ _ h =
    let (_, answered, gives) = step_back _ _ _ h in
    let (delivery, delivered, more) = bind_some _ _ _ answered in
    let (message, read, table) = bind_some _ _ _ more in
    let (peer_is, ended_so) = ends _ _ _ _ (ap (option_and_then _) table ∙ gives) in
    record {
      delivery = delivery;
      message = message;
      carried = (carried_is _ _ _).0 delivered;
      laid_out = (apdu_is _ _).0 read;
      peer = peer_is;
      ends = ended_so;
    }

pub answered : (request : Request) (from : Station) (datagram : List ℕ) (outcome : Outcome) →
    IsAnsweredBy request from datagram outcome → outcome_of request from datagram ≡ Some outcome
unfolding answer_in_datagram
answered _ _ _ _ a = rw ((carried_is _ _ _).1 a.carried, (apdu_is _ _).1 a.laid_out, a.peer) (ended _ _ _ a.ends)

-- ---- the answers of the calls as notes: each send is that of the open request with the ticket

pub pairs_head : {A : Type 0} (R : A → A → Type 0) (x : A) (xs : List A) → AllPairs R (x ∷ xs) → All (R x) xs
pairs_head R x xs h k d lt = h zero (suc k) d (omega arith) (omega arith)

pub pairs_tail : {A : Type 0} (R : A → A → Type 0) (x : A) (xs : List A) → AllPairs R (x ∷ xs) → AllPairs R xs
pairs_tail R x xs h i j d lt below = h (suc i) (suc j) d (omega arith) (omega arith)

pub pairs_map : {A B : Type 0} (R : B → B → Type 0) (f : A → B) (xs : List A) → AllPairs (λ x y. R (f x) (f y)) xs →
    AllPairs R (map f xs)
pairs_map R f [] h = λ i j d lt below. absurd (omega arith)
pairs_map R f (x ∷ xs) h = λ i j d lt below. grind (arith, get_or-map, length-map, h i j x)

-- Each request has a greater ticket than those before it.
abbrev pub TicketsRise : List Waiting → Type 0
TicketsRise ws = AllPairs (λ v w. v.request.ticket < w.request.ticket) ws

-- The ticket of this request is not t.
abbrev NotTicket : ℕ → Waiting → Type 0
NotTicket t w = w.request.ticket ≡ t → ⊥

abbrev pub by_ticket : ℕ → Waiting → Bool
by_ticket t w = nat_eq w.request.ticket t

find_past : (t : ℕ) (xs ys : List Waiting) → All (NotTicket t) xs
    → find (by_ticket t) (xs ++ ys) ≡ find (by_ticket t) ys
find_past t [] ys h = refl
find_past t (x ∷ xs) ys h = grind (arith, All-head, find_past t xs ys (All-tail (NotTicket t) x xs h))

pub find_none : (t : ℕ) (ws : List Waiting) → All (NotTicket t) ws → find (by_ticket t) ws ≡ None
find_none t ws h = cc (append-nil ws, find_past t ws [] h)

flat_each : {A B C : Type 0} (h : B → List C) (f : A → List B) (k : A → List C) (xs : List A) →
    All (λ x. flat_map h (f x) ≡ k x) xs → flat_map h (flat_map f xs) ≡ flat_map k xs
flat_each h f k [] _ = refl
flat_each {A} h f k (x ∷ xs) each =
    let P = λ (x : A). flat_map h (f x) ≡ k x in
    grind (arith, flat_map-append, All-head P x xs, flat_each h f k xs (All-tail P x xs each))

module _ (rules : Rules) where
  -- If a property holds of a request that is kept after a tick, it holds of each kept request.
  pub kept_of_one : (P : Waiting → Type 0) (now : ℕ) (w : Waiting) → (is_due rules now w ≡ false → P w)
      → P (record { request = w.request; last_sent = now; resends = suc w.resends }) → All P (kept rules now w)
  kept_of_one = grind arith

  pub kept_of_all : (P : Waiting → Type 0) (now : ℕ)
      → ((w : Waiting) → P w → P (record { request = w.request; last_sent = now; resends = suc w.resends })) →
      (ws : List Waiting) → All P ws → All P (flat_map (kept rules now) ws)
  kept_of_all P _ _ [] h = All-nil P
  kept_of_all P now again (w ∷ ws) h =
      let first = All-head P w ws h in
      All-append P _ _ (kept_of_one P now w (λ f. first) (again w first))
      (kept_of_all P now again ws (All-tail P w ws h))

  -- A search among the kept requests finds the one with the ticket.
  abbrev FoundAmong : ℕ → List Waiting → Waiting → Type 0
  FoundAmong now ws w =
      find (by_ticket w.request.ticket) (flat_map (kept rules now) ws)
      ≡ find (by_ticket w.request.ticket) (kept rules now w)

  found_each : (now : ℕ) (ws : List Waiting) → TicketsRise ws → All (FoundAmong now ws) ws
  found_each _ [] _ = All-nil _
  found_each now (w ∷ ws) rise =
      let R = λ (v w : Waiting). v.request.ticket < w.request.ticket in
      let above = pairs_head R w ws rise in
      let others = kept_of_all (NotTicket _) now (λ v h. h) ws
      (All-weaker (R w) (NotTicket w.request.ticket) (λ v lt q. omega arith) ws above) in
      All-cons (FoundAmong now (w ∷ ws)) w ws (grind (arith, find_none)) (λ k d lt.
      find_past _ _ _ (kept_of_one (NotTicket _) now w (λ f q. omega arith) (λ q. omega arith))
      ∙ found_each now ws (pairs_tail R w ws rise) k d lt)

  -- The notes on a tick are the notes on each request in turn.
  pub tick_told : (now : ℕ) (after : State) (ws : List Waiting) → after.waiting ≡ flat_map (kept rules now) ws
      → TicketsRise ws →
      flat_map (due_notes after) (flat_map (due_answer rules now) ws) ≡ flat_map (turn_notes rules now) ws
  tick_told = grind (arith, flat_each, found_each)

  -- The note on a submit is the send of the new request.
  pub submit_told : (after : State) (ws : List Waiting) (w : Waiting) → after.waiting ≡ ws ++ w ∷ [] →
      All (λ v. v.request.ticket < w.request.ticket) ws →
      sent after w.request.ticket ≡ Sent w.request.ticket w.request.peer (w.request.octets) ∷ []
  submit_told = grind (arith, find_past)

-- ---- a tick, and what a client keeps through each call

-- A client with this table, as its callers see it.
abbrev seen_as : ℕ → ℕ → ℕ → ℕ → ℕ → List Waiting → Client
seen_as timeout retries clock last next ws = record {
  timeout = timeout;
  retries = retries;
  state = record { clock = clock; last_invoke_id = last; next_ticket = next; waiting = ws };
}

pub ticked : (timeout retries clock last next : ℕ) (ws : List Waiting) (now later : ℕ) → later ≡ max now clock
    → (answer : List DueEntry) (after : List Waiting) →
    (answer ≡ flat_map (due_answer (client_rules timeout retries) later) ws)
    × (after ≡ flat_map (kept (client_rules timeout retries) later) ws) →
    (client : Client) → seen_as timeout retries clock last next ws ≡ client
    → TakesStep client (tick (rules_of client) client.state now) answer (seen_as timeout retries later last next after)
ticked = grind arith

pub timely-filter : (p : Waiting → Bool) (clock next : ℕ) (ws : List Waiting) → IsTimely clock next ws
    → IsTimely clock next (filter p ws)
timely-filter p clock next ws (tickets, sent) =
    (All-filter p (λ w. w.request.ticket < next) ws tickets, All-filter p (λ w. w.last_sent ≤ clock) ws sent)

module _ (clock next : ℕ) (ws : List Waiting) (t : IsTimely clock next ws) (now later : ℕ) (is : later ≡ max now clock)
  where
    pub timely-tick : (rules : Rules) (after : List Waiting) → after ≡ flat_map (kept rules later) ws
        → IsTimely later next after
    timely-tick rules _ to = let (tickets, _) = t in rw to (
      kept_of_all rules (λ w. w.request.ticket < next) _ (λ w lt. lt) ws tickets,
      kept_of_all rules (λ w. w.last_sent ≤ later) _ (λ w le. omega arith) ws (grind arith),
    )

-- ---- the answer of a datagram, and the requests that stay

-- The ticket of a request, with an outcome.
abbrev ended_with : Outcome → Waiting → ℕ × Outcome
ended_with outcome w = (w.request.ticket, outcome)

module _ (p : Request → Bool) (o : Outcome) (f : Request → Option Outcome)
    (same : (r : Request) → f r ≡ (if p r then Some o else None)) where
  delivers_none : (ws : List Waiting) → filter (λ w. p w.request) ws ≡ [] →
      (deliver f ws ≡ record { answer = None; waiting = ws }) × (filter (λ w. not (p w.request)) ws ≡ ws)
  delivers_none [] h = (refl, refl)
  delivers_none (w ∷ ws) h = grind (arith, delivers_none ws)

  -- If at most one open request passes, it is done and the others stay.
  delivers_one : (ws : List Waiting) → length (filter (λ w. p w.request) ws) ≤ 1 →
      deliver f ws ≡ record {
        answer = option_map (ended_with o) (slice_get (filter (λ w. p w.request) ws) 0);
        waiting = filter (λ w. not (p w.request)) ws;
      }
  delivers_one [] h = refl
  delivers_one (w ∷ ws) h = grind (arith, delivers_one ws, delivers_none ws, nil_from_length)

-- A datagram that carries no answer changes nothing.
delivers_nothing : (f : Request → Option Outcome) → ((r : Request) → f r ≡ None) → (ws : List Waiting) →
    deliver f ws ≡ record { answer = None; waiting = ws }
delivers_nothing f _ [] = refl
delivers_nothing f none (w ∷ ws) = grind (arith, delivers_nothing f none ws)

-- The answer of a datagram, and the client after it.
abbrev Delivers : Client → Station → List ℕ → Option (ℕ × Outcome) → Client → Type 0
Delivers old peer bytes = TakesStep old (datagram (rules_of old) old.state peer bytes)

-- The client with these open requests.
abbrev with_waiting : Client → List Waiting → Client
with_waiting client waiting = keeping client (record client.state { waiting = waiting })

delivers_by : (client : Client) (peer : Station) (bytes : List ℕ) (answer : Option (ℕ × Outcome))
    (waiting : List Waiting) →
    deliver (λ r. outcome_of r peer bytes) client.state.waiting ≡ record { answer = answer; waiting = waiting } →
    Delivers client peer bytes answer (with_waiting client waiting)
delivers_by client _ _ _ _ e = record { answer = cc e; left = ap (with_waiting client) (cc e) }

pub no_answer : (client : Client) (peer : Station) (bytes : List ℕ) → answer_in_datagram peer bytes ≡ None
    → Delivers client peer bytes None client
no_answer _ _ _ e = delivers_by _ _ _ _ _ (delivers_nothing _ (λ r. rw e) _)

-- If at most one request ends, it is listed by its ticket.
few_of_one : (ws : List Waiting) → (ended : Option ℕ) → option_to_list ended ≡ map ticket_in ws → (outcome : Outcome) →
    (length ws ≤ 1) × (option_map (ended_with outcome) (slice_get ws 0) ≡ option_map (λ t. (t, outcome)) ended)
few_of_one [] None _ _ = (omega arith, refl)
few_of_one (w ∷ []) (Some t) told _ = (omega arith, cc)
few_of_one _ _ told _ = grind arith

module _ (timeout retries clock last next : ℕ) (ws : List Waiting) (peer : Station) (bytes : List ℕ)
    (answer : Answer) (carried : answer_in_datagram peer bytes ≡ Some answer) where
  pub closed : (client : Client) → seen_as timeout retries clock last next ws ≡ client
      → (ended : Option ℕ) (after : List Waiting) →
      option_to_list ended ≡ map ticket_in (filter (λ w. is_answer_to w.request answer) ws) →
      after ≡ filter (λ w. not (is_answer_to w.request answer)) ws →
      Delivers client peer bytes (option_map (λ t. (t, answer.outcome)) ended)
      (seen_as timeout retries clock last next after)
  closed _ same _ _ told left =
      let (few, one) = few_of_one _ _ told _ in
      rw (← same) (delivers_by _ _ _ _ _ (delivers_one _ _ _ (λ r. rw carried refl) ws few
      ∙ (λ i. record { answer = one i; waiting = sym left i })))

-- The machine opens a request under the next ticket and the next invoke id.
opened_next : (rules : Rules) (state : State) (peer : Station) (service : ℕ) (body : List ℕ)
    → length body ≤ longest_body → length state.waiting < rules.most_open → state.next_ticket < 2 ^ 64 - 1
    → list_any (nat_eq ((state.last_invoke_id + 1) % 256)) (map invoke_id_in state.waiting) ≡ false
    → submit rules state peer service body ≡ record {
      answer = Ok state.next_ticket;
      after = opened state (request_of rules state.next_ticket peer service body ((state.last_invoke_id + 1) % 256));
    }
unfolding next_invoke_id refusal_of
opened_next = grind (arith, nat_tests)

-- A request is opened with the next ticket and the next invoke id if there is room and no open request has that id, in
-- particular if no request is open.
pub opens : {known client after : Client} {answer : Result ℕ SubmitFault}
    (peer : Station) (service : ℕ) (body : List ℕ) → client ≡ known
    → TakesStep client (submit (rules_of client) client.state peer service body) answer after
    → length body ≤ longest_body → length known.state.waiting < table_size → known.state.next_ticket < 2 ^ 64 - 1
    → list_any (nat_eq ((known.state.last_invoke_id + 1) % 256)) (map invoke_id_in known.state.waiting) ≡ false
    → TakesStep known (record {
      answer = Ok known.state.next_ticket;
      after = opened known.state (request_of (rules_of known) known.state.next_ticket peer service body
          ((known.state.last_invoke_id + 1) % 256));
    }) answer after
opens {known} _ _ _ is done short room left free =
    let now = rw is at done in
    rw (opened_next (rules_of _) known.state _ _ _ short room left free) at now

-- No two of these requests have the same invoke id.
abbrev pub AreApart : List Waiting → Type 0
AreApart [] = ⊤
AreApart (w ∷ ws) = (list_any (nat_eq w.request.invoke_id) (map invoke_id_in ws) ≡ false) × AreApart ws

module _ (f : Request → Option Outcome)
    (by : (a b : Request) → IsSome (f a) → IsSome (f b) → a.invoke_id ≡ b.invoke_id) (g : Waiting → List DueEntry) where
  abbrev unless_answered : Waiting → List DueEntry
  unless_answered w = option_map_or (λ _. []) (f w.request) (g w)

  none_answered : (a : Request) → IsSome (f a) → (ws : List Waiting)
      → list_any (nat_eq a.invoke_id) (map invoke_id_in ws) ≡ false → flat_map g ws ≡ flat_map unless_answered ws
  none_answered a _ [] _ = refl
  none_answered a some (w ∷ ws) free = grind (arith, by a w.request some, none_answered a some ws)

  others : (ws : List Waiting) → AreApart ws → flat_map g (deliver f ws).waiting ≡ flat_map unless_answered ws
  others [] _ = refl
  others (w ∷ ws) apart = grind (arith, none_answered, others ws)

-- After a datagram, a tick has the same notes on each request that the datagram does not answer.
pub told_unless_answered : {known client after : Client} {told : List DueEntry}
    (from : Station) (heard : List ℕ) (now : ℕ) → client ≡ known → AreApart known.state.waiting
    → after ≡ keeping client (datagram (rules_of client) client.state from heard).after
    → told ≡ (tick (rules_of after) after.state now).answer
    → told ≡ flat_map (λ w. option_map_or (λ _. []) (outcome_of w.request from heard)
    (due_answer (rules_of known) (max now known.state.clock) w)) known.state.waiting
told_unless_answered {known} _ _ _ is apart heard_so ticked =
    rw is at (rw heard_so at ticked) ∙ others _ (λ a b. by_invoke_id known.timeout known.retries a b _ _) _ _ apart
