-- Searches and servers, turn by turn: two that are answered alike; and the sends of a server, a search and a call.
use Rattle.std.proofs.Common.{[], ap, append-nil, append_assoc, arith, Bool, Err, false, flat_map, IfOk, if◌then◌else◌}
use Rattle.std.proofs.Common.{length, length-append, List, map, max, None, Ok, Option, option_to_list, refl}
use Rattle.std.proofs.Common.{Result, Some, subst, suc, sym, true, zero, ℕ, ◌++◌, ◌+◌, ◌-◌, ◌<◌, ◌||◌, ◌∙◌, ◌∷◌, ◌≡◌}
use Rattle.std.proofs.{Common.{◌≢◌, ◌≤◌, ◌⊎◌}, lemmas.Bool.{cases_Bool, le-leb, lt-leb, Decides.nat_tests}}
use Rattle.std.proofs.lemmas.{Grind.common_steps, List.{append_cancel_left, length_push, map-append}}
use Rattle.std.{proofs.lemmas.List.Concat.flat_map-append, specs.List.last_or}
use Rattle.{bac_pdu.specs.{Station, station, Found.Found}, bac_tsm.proofs.Laws.{quiet_unsent, sends_push, sent_unended}}
use Rattle.bac_tsm.specs.{Accepted, Data, Event, Tick, Lookahead.{due, sends, sends_within}}
use Rattle.bac_device.{proofs.Answering.next_after, specs.{Arrival, device_after, DeviceState, replies_to, Write}}
use Rattle.bac_device.specs.{Device.Holds, Info.Info, Point.Description, Reply.{reply_of, writes_after}}
use Rattle.{bac_device.specs.Turns.{all_writes, AreDefined}, bac_text.specs.declared.jobs.{Call.Call, Search.Search}}
use Rattle.bac_print.{proofs.Printed.{Took-more, Took-none}, specs.{Took, Checked.TakesFront}}
use Rattle.bac_links.proofs.CallTurns.{followed, follows_push, gains_both, gains_none, handed_push, last_push}
use Rattle.bac_links.proofs.CallTurns.{next_push, played, plays_all, PlaysAll, same_so_far, slice_get-last, so_far}
use Rattle.bac_links.proofs.CallTurns.{times_push, to_the_end, turn_begins, turns_over, waits_push}
use Rattle.bac_links.specs.{Account, AllSent, arrivals_in, Arrived, AskAlike, asked, Asks, Bad, behind_time, came_by}
use Rattle.bac_links.specs.{Checked, Comes, device_behind, device_next, end_in, Entry, events_of, Exit, Failure}
use Rattle.bac_links.specs.{Follows, ForTime, found_by, found_in, found_line, Gains, GainsAll, Good, greatest_of}
use Rattle.bac_links.specs.{handed_of, Heard, is_sent_last, IsCutOff, most_turns, Move, move, next_move, Offered}
use Rattle.bac_links.specs.{OneText, or_reply, Over, passed_in, Posted, Printed, Purpose, question_of, ReceiveFailed}
use Rattle.bac_links.specs.{replies_of, rules_for, search_move, Searched, SendFailed, sends_of_call, sent_at}
use Rattle.bac_links.specs.{sent_behind, sent_in, serve_move, serve_next, serve_wait, Serves, Silence, Tells, Timed}
use Rattle.bac_links.specs.{times_in, ToOffer, ToolFault, ToSend, turn_after, TurnsSpent, Unposted, Waited, waits_in}
use Rattle.bac_links.specs.{who_is_to, WriteFailed, Inner.brought_by}
use Rattle.bac_links.specs.Inner.{found_lines, has_found, LeavesDevice, Listens, search_wait, sends_of, ServesTurn}

-- The first entries of a search, and then these.
abbrev pub searched : Search → ℕ → List Entry → List Entry
searched search first more = Timed first ∷ Posted (station search.to) (who_is_to search) ∷ more

-- A search after n turns.
pub record SearchGoes {Origin W : Type 0} (search : Search) (contents : W → Option (List ℕ)) (before after : Checked W)
    (seen link : Account Origin) (first greatest : ℕ) (any : Bool) (n : ℕ) : Type 0 where
  pub more : List Entry
  pub gains : GainsAll (searched search first more) seen link
  pub follows : Follows (search_move search) [] (searched search first more)
  pub next : next_move (search_move search) (searched search first more) ≡ turn_after (search_wait search) n
  pub turns : waits_in more ≡ n
  pub time : greatest ≡ greatest_of first (times_in more)
  pub any_is : any ≡ has_found (found_in search more)
  pub printed : Took contents before after (found_lines (found_in search more))

-- ---- lists

has_found-append : (xs ys : List Found) → has_found (xs ++ ys) ≡ (has_found xs || has_found ys)
has_found-append = grind (arith, common_steps, nat_tests)

greatest-push : (greatest : ℕ) (times : List ℕ) (time : ℕ)
    → greatest_of greatest (times ++ time ∷ []) ≡ max (greatest_of greatest times) time
greatest-push _ [] _ = refl
greatest-push greatest (x ∷ times) time = greatest-push (max greatest x) times time

pub behind_wait : (search : Search) (gained : List Entry) (wait : ℕ) (heard : Heard) → heard ≢ Failure
    → next_move (search_move search) (gained ++ Waited wait heard ∷ []) ≡ Asks ForTime
behind_wait = grind (arith, last_push)

-- ---- a turn

module _ {Origin W : Type 0} {search : Search} {contents : W → Option (List ℕ)} {before middle : Checked W}
    {seen mid : Account Origin} {first greatest : ℕ} {any : Bool} {n : ℕ}
    (goes : SearchGoes search contents before middle seen mid first greatest any n) (within : n < most_turns) where
  -- The facts about one more wait.
  module _ {left : Account Origin} (heard : Heard) (hears : Gains (Waited (search_wait search) heard) mid left) where
    abbrev waited : List Entry
    waited = goes.more ++ Waited (search_wait search) heard ∷ []

    gains_waited : GainsAll (searched search first waited) seen left
    gains_waited = gains_both _ _ _ _ _ goes.gains hears

    follows_waited : Follows (search_move search) [] (searched search first waited)
    follows_waited = grind (arith, follows_push, turn_begins)

  -- A wait without a fault, and the time after it.
  module _ {after : Checked W} {left : Account Origin} {some : Bool}
      (listens : Listens search.who (search_wait search) contents middle after mid left (Ok some))
      (now : ℕ) {last : Account Origin} (asks : Gains (Timed now) left last) where
    abbrev heard : Heard
    heard = listens.heard

    abbrev timed : List Entry
    timed = waited heard listens.gains ++ Timed now ∷ []

    abbrev all : List Entry
    all = searched search first timed

    found_next : found_in search timed
        ≡ found_in search goes.more ++ found_by search.who (Waited (search_wait search) heard)
    found_next = grind (arith, flat_map-append, append-nil)

    printed_next : Took contents before after (found_lines (found_in search timed))
    printed_next =
        subst (Took contents before after)
        (sym (ap found_lines found_next
        ∙ flat_map-append found_line (found_in search goes.more)
        (found_by search.who (Waited (search_wait search) heard))))
        (Took-more goes.printed listens.printed)

    any_next : (any || some) ≡ has_found (found_in search timed)
    any_next = grind (arith, found_next, has_found-append)

    time_next : max greatest now ≡ greatest_of first (times_in timed)
    time_next = grind (arith, greatest-push, times_push, append-nil)

    turned : waits_in timed ≡ suc n
    turned = grind (arith, waits_push)

    gains_timed : GainsAll all seen last
    gains_timed = gains_both _ _ _ _ _ (gains_waited heard listens.gains) asks

    follows_timed : Follows (search_move search) [] all
    follows_timed =
        follows_push (search_move search) [] (searched search first (waited heard listens.gains)) (Timed now)
        (follows_waited heard listens.gains)
        (behind_wait search (searched search first goes.more) _ heard listens.received)

    next_timed : next_move (search_move search) all ≡ behind_time search all (suc n)
    next_timed =
        next_push (search_move search) (searched search first (waited heard listens.gains)) _
        ∙ ap (behind_time search all) turned

    passed : max greatest now - first ≡ passed_in (times_in all)
    passed = ap (λ (k : ℕ). k - first) time_next

    pub goes_on : max greatest now - first < search.timeout
        → SearchGoes search contents before after seen last first (max greatest now) (any || some) (suc n)
    goes_on in_time = record {
      more = timed;
      gains = gains_timed;
      follows = follows_timed;
      next = next_timed ∙ rw (lt-leb search.timeout (passed_in (times_in all)) (rw (← passed) in_time)) refl;
      turns = turned;
      time = time_next;
      any_is = any_next;
      printed = printed_next;
    }

    pub ended : (exit : Exit) → exit ≡ (if any || some then Good else Bad)
        → search.timeout ≤ max greatest now - first → Searched search contents before after seen last (Ok exit)
    ended _ exit_is over = record {
      plays = record {
        gained = all;
        gains = gains_timed;
        follows = follows_timed;
        over = next_timed ∙ rw (le-leb search.timeout (passed_in (times_in all)) (rw (← passed) over)) refl
            ∙ ap (λ (e : Exit). Over (Ok e)) (sym (exit_is ∙ ap (λ (b : Bool). if b then Good else Bad) any_next));
      };
      printed = printed_next;
    }

  -- A wait that fails.
  pub fails : (after : Checked W) (left : Account Origin) (fault : ToolFault) {wait : ℕ} → wait ≡ search_wait search
      → Listens search.who wait contents middle after mid left (Err fault) →
      Searched search contents before after seen left (Err fault)
  fails after _ ReceiveFailed same listens =
      let gains = rw same at listens.gains in
      record {
        plays = record {
          gained = searched search first (waited Failure gains);
          gains = gains_waited Failure gains;
          follows = follows_waited Failure gains;
          over = next_push (search_move search) (searched search first goes.more) (Waited (search_wait search) Failure);
        };
        printed = subst (Took contents before after) (append-nil _ ∙ ap found_lines (sym (flat_map-append _ goes.more _
            ∙ append-nil _))) (Took-more goes.printed listens.unprinted);
      }
  fails _ _ WriteFailed same listens =
      let gains = rw same at listens.gains in
      record {
        earlier = searched search first goes.more;
        wait = search_wait search;
        heard = listens.heard;
        gains = gains_waited _ gains;
        follows = follows_waited _ gains;
        last = listens.last;
        finds = listens.finds;
        taken = listens.taken;
        rest = listens.rest;
        line = listens.line;
        printed = Took-more goes.printed listens.printed;
      }
  fails _ _ _ _ listens = absurd listens

-- A search begins with its Who-Is sent.
pub search_begun : {Origin W : Type 0} (search : Search) {contents : W → Option (List ℕ)} {before : Checked W}
    {seen mid link : Account Origin} (first : ℕ) → Gains (Timed first) seen mid →
    Gains (Posted (station search.to) (who_is_to search)) mid link
    → SearchGoes search contents before before seen link first first false 0
search_begun = grind (arith, common_steps, gains_both)

-- A search begins with a Who-Is that could not be sent.
pub search_unbegun : {Origin W : Type 0} (search : Search) {contents : W → Option (List ℕ)} {before : Checked W}
    {seen mid link : Account Origin} (first : ℕ) → Gains (Timed first) seen mid →
    Gains (Unposted (station search.to) (who_is_to search)) mid link
    → Searched search contents before before seen link (Err SendFailed)
search_unbegun search {before} {seen} {mid} {link} first asks sends = record {
  plays = record {
    gained = Timed first ∷ Unposted (station search.to) (who_is_to search) ∷ [];
    gains = gains_both _ _ _ _ _ asks sends;
    follows = (refl, (refl, tt));
    over = refl;
  };
  printed = Took-none _;
}

pub search_spent : {Origin W : Type 0} {search : Search} {contents : W → Option (List ℕ)} {before after : Checked W}
    {seen link : Account Origin} {first greatest : ℕ} {any : Bool} (n : ℕ) → n ≡ most_turns →
    SearchGoes search contents before after seen link first greatest any n
    → Searched search contents before after seen link (Err TurnsSpent)
search_spent {search} {first} n all goes = record {
  plays = record {
    gained = searched search first goes.more;
    gains = goes.gains;
    follows = goes.follows;
    over = goes.next ∙ turns_over _ n (omega (arith, all));
  };
  printed = goes.printed;
}

-- ---- two searches that are answered alike ask alike, end alike, and print one text

module _ (search : Search) where
  abbrev lines_in : List Entry → List ℕ
  lines_in gained = flat_map found_line (found_in search gained)

  lines-append : (xs ys : List Entry) → lines_in (xs ++ ys) ≡ lines_in xs ++ lines_in ys
  lines-append xs ys = ap (flat_map found_line) (flat_map-append _ xs ys) ∙ flat_map-append found_line _ _

  module _ {W : Type 0} (contents : W → Option (List ℕ)) (before after : Checked W) where
    extended : (xs ys : List ℕ) → TakesFront contents before after xs → TakesFront contents before after (xs ++ ys)
    extended xs ys (taken, rest, e, took) =
        (taken, rest ++ ys, ap (λ (zs : List ℕ). zs ++ ys) e ∙ append_assoc _ rest ys, took)

    -- The search was cut off after a wait.
    pub record WasCut (result : Result Exit ToolFault) (gained : List Entry) : Type 0 where
      pub failed : result ≡ Err WriteFailed
      pub waited : 0 < waits_in gained
      pub asks : next_move (search_move search) gained ≡ Asks ForTime

    -- After these entries the search is over, or it was cut off; and their lines were printed.
    pub record Stops (result : Result Exit ToolFault) (gained : List Entry) : Type 0 where
      pub follows : Follows (search_move search) [] gained
      pub over : (next_move (search_move search) gained ≡ Over result) ⊎ WasCut result gained
      pub printed : Printed contents before after (lines_in gained) result

    -- If a search had another move, it was cut off, and printed the beginning of any longer text.
    cut_off : (result : Result Exit ToolFault) (first more : List Entry) (x : Entry) → Stops result first
        → next_move (search_move search) first ≡ Asks (question_of x)
        → (result ≡ Err WriteFailed) × Printed contents before after (lines_in (first ++ more)) result
    cut_off result first more x it asks =
        grind (arith, it, lines-append first more, extended (lines_in first) (lines_in more))

    module _ {Origin : Type 0} (seen left : Account Origin) where
      cut : (it : IsCutOff search contents before after seen left)
          → Stops (Err WriteFailed) (it.earlier ++ Waited it.wait it.heard ∷ [])
      cut = grind (arith, behind_wait, lines-append, append-nil, append_assoc, waits_push)

      pub stops : (result : Result Exit ToolFault) (gained : List Entry)
          → Searched search contents before after seen left result → left.history ≡ seen.history ++ gained
          → Stops result gained
      stops = grind (arith, append_cancel_left, cut, played)

-- Two searches that are answered alike.
module _ {V W : Type 0} (contents : V → Option (List ℕ)) (contents' : W → Option (List ℕ)) (search : Search)
    (before after : Checked V) (before' after' : Checked W) where
  abbrev PrintAlike : Result Exit ToolFault → Result Exit ToolFault → Type 0
  PrintAlike = OneText contents before after contents' before' after'

  pub searches_so_far : {Origin Other : Type 0} → AskAlike Origin Other (Searched search contents before after)
      (Searched search contents' before' after') (λ result. result ≡ Err WriteFailed)
      (λ result other. result ≡ other) PrintAlike
  searches_so_far seen left seen' left' result result' first rest first' rest' tells tells' gains gains' same =
      let a = stops _ contents _ _ _ _ _ _ tells gains in
      let b = stops _ contents' _ _ _ _ _ _ tells' gains' in
      let one = same_so_far (search_move search) [] first first' rest rest' a.follows b.follows same in
      let cut : rest ≡ [] → (x : Entry) → next_move (search_move search) first ≡ Asks (question_of x)
      → (result ≡ Err WriteFailed) × PrintAlike result result' =
      grind (arith, append-nil, a, b, one, cut_off search contents before after result first rest') in
      let other_cut : rest' ≡ [] → (x : Entry) → next_move (search_move search) first ≡ Asks (question_of x)
      → (result' ≡ Err WriteFailed) × PrintAlike result result' =
      grind (arith, append-nil, a, b, one, cut_off search contents' before' after' result' first rest) in
      let ends : rest ≡ [] → rest' ≡ [] → (result ≡ result') × PrintAlike result result' =
      grind (arith, append-nil, a, b, one) in (
        one,
        so_far (search_move search) (λ r. r ≡ Err WriteFailed) (λ r s. r ≡ s) PrintAlike _ _ _ _ _
            cut other_cut ends _ one a.follows b.follows,
      )

-- ---- a device that serves, wait by wait

abbrev Reply : Type 0
Reply = Option (Station × List ℕ)

abbrev AtMostOne : List Reply → Type 0
AtMostOne [] = Unit {0}
AtMostOne (r ∷ []) = Unit {0}
AtMostOne (r ∷ s ∷ rs) = ⊥

one_at_most : (device : DeviceState) (heard : Heard) → AtMostOne (replies_of device (brought_by heard))
one_at_most = grind arith

-- ---- datagrams one after another

behind-append : (device : DeviceState) (xs ys : List Arrival)
    → device_behind device (xs ++ ys) ≡ device_behind (device_behind device xs) ys
behind-append _ [] ys = refl
behind-append _ (x ∷ xs) ys = behind-append (device_next _ x) xs ys

pub replies-append : (device : DeviceState) (xs ys : List Arrival)
    → replies_of device (xs ++ ys) ≡ replies_of device xs ++ replies_of (device_behind device xs) ys
replies-append _ [] ys = refl
replies-append device (x ∷ xs) ys =
    ap (λ (rs : List Reply). reply_of device x.from x.datagram ∷ rs) (replies-append (device_next _ x) xs ys)

pub arrivals-push : (gained : List Entry) (x : Entry) → arrivals_in (gained ++ x ∷ []) ≡ arrivals_in gained ++ came_by x
arrivals-push = grind (arith, flat_map-append, append-nil)

-- A datagram and its receiver, without a note.
abbrev alone : List Entry → Station → List ℕ → Station × List ℕ
alone before to octets = (to, octets)

-- The number of sends with one more entry.
sent_more : (before gained : List Entry) (x : Entry) → length (sent_behind alone before (gained ++ x ∷ []))
    ≡ length (sent_behind alone before gained) + length (sent_in (x ∷ []))
sent_more before [] x = grind arith
sent_more before (y ∷ gained) x = grind (arith, sent_more (before ++ y ∷ []) gained x)

-- ---- the next move

module _ (count : ℕ) (before : DeviceState) where
  -- The replies after one more wait.
  replies-push : (gained : List Entry) (device : DeviceState) → device ≡ device_behind before (arrivals_in gained)
      → (x : Entry) → replies_of before (arrivals_in (gained ++ x ∷ []))
      ≡ replies_of before (arrivals_in gained) ++ replies_of device (came_by x)
  replies-push = grind (arith, arrivals-push, replies-append)

  behind_receive : (gained : List Entry) (device : DeviceState) → device ≡ device_behind before (arrivals_in gained)
      → (heard : Heard) → heard ≢ Failure → (rs : List Reply) → replies_of device (brought_by heard) ≡ rs →
      next_move (serve_move count before) (gained ++ Waited serve_wait heard ∷ [])
      ≡ or_reply (last_or None rs) (serve_next count (gained ++ Waited serve_wait heard ∷ []))
  behind_receive _ _ is Failure received rs e = absurd (received refl)
  behind_receive gained _ is Silence _ rs e = grind (arith, last_push)
  behind_receive gained _ is (Arrived from octets) _ rs e =
      let x = Waited serve_wait (Arrived from octets) in
      let next = serve_next count (gained ++ x ∷ []) in
      next_push (serve_move count before) gained x
      ∙ ap (λ (rs : List Reply). or_reply (last_or None rs) next) (replies-push gained _ is x)
      ∙ ap (λ (o : Option Reply). or_reply o next) (last_push None (replies_of _ (arrivals_in gained)) _)
      ∙ ap (λ (rs : List Reply). or_reply (last_or None rs) next) e

-- A server after n waits.
pub record ServeGoes {Origin : Type 0} (before device : DeviceState) (seen link : Account Origin)
    (count came sent n : ℕ) : Type 0 where
  pub gained : List Entry
  pub gains : GainsAll gained seen link
  pub follows : Follows (serve_move count before) [] gained
  pub next : next_move (serve_move count before) gained ≡ serve_next count gained
  pub turns : waits_in gained ≡ n
  pub device_is : device ≡ device_behind before (arrivals_in gained)
  pub came_is : came ≡ length (arrivals_in gained)
  pub sent_is : sent ≡ length (sent_in gained)

pub serves_none : {Origin : Type 0} {device : DeviceState} {seen : Account Origin} {count : ℕ}
    → ServeGoes device device seen seen count 0 0 0
serves_none = grind (arith, gains_none)

module _ {Origin : Type 0} {before device : DeviceState} {seen mid : Account Origin} {count came sent n : ℕ}
    (goes : ServeGoes before device seen mid count came sent n) where
  -- The end of a server.
  served : (result : Result ℕ ToolFault) → next_move (serve_move count before) goes.gained ≡ Over result
      → Serves count before device seen mid result
  served _ over = record {
    plays = grind arith;
    device = goes.device_is;
  }

  pub serve_done : came ≡ count → Serves count before device seen mid (Ok sent)
  serve_done all = served _ (grind arith)

  turn_so : came < count → next_move (serve_move count before) goes.gained ≡ turn_after serve_wait n
  turn_so = grind (arith, lt-leb)

  pub serve_spent : n ≡ most_turns → came < count → Serves count before device seen mid (Err TurnsSpent)
  serve_spent = grind (arith, served, turn_so, turns_over)

  -- The facts about one more wait.
  module _ (heard : Heard) where
    abbrev awaited : List Entry
    awaited = goes.gained ++ Waited serve_wait heard ∷ []

    gains_wait : {left : Account Origin} (rest : List Entry) → GainsAll (Waited serve_wait heard ∷ rest) mid left
        → GainsAll (awaited ++ rest) seen left
    gains_wait = grind (arith, append_assoc, gains_both)

    gains_one : {left : Account Origin} → GainsAll (Waited serve_wait heard ∷ []) mid left → GainsAll awaited seen left
    gains_one more = gains_both _ _ _ _ _ goes.gains more

    -- The facts about these entries after the wait, if they have no further wait.
    record IsBehind (gained : List Entry) : Type 0 where
      arrived : arrivals_in gained ≡ arrivals_in goes.gained ++ brought_by heard
      waits : waits_in gained ≡ suc n

    behind_waited : IsBehind awaited
    behind_waited = grind (arith, arrivals-push, waits_push)

    behind_sent : (x : Entry) → came_by x ≡ [] → waits_in (x ∷ []) ≡ 0 → IsBehind (awaited ++ x ∷ [])
    behind_sent = grind (arith, arrivals-push, append-nil, waits_push)

    module _ {after : DeviceState} (leaves : LeavesDevice device heard after) (gained : List Entry)
        (is : IsBehind gained) where
      replies_are : replies_of before (arrivals_in gained)
          ≡ replies_of before (arrivals_in goes.gained) ++ replies_of device (brought_by heard)
      replies_are = grind (arith, replies-append)

      device_is : after ≡ device_behind before (arrivals_in gained)
      device_is = grind (arith, behind-append)

      on_with : {left : Account Origin} (brought replied : ℕ) → brought ≡ length (brought_by heard)
          → sent + replied ≡ length (sent_in gained) → GainsAll gained seen left
          → Follows (serve_move count before) [] gained
          → next_move (serve_move count before) gained ≡ serve_next count gained
          → ServeGoes before after seen left count (came + brought) (sent + replied) (suc n)
      on_with = grind (arith, device_is, length-append, replies_are, flat_map-append)

      fails_with : {left : Account Origin} (result : Result ℕ ToolFault) → GainsAll gained seen left
          → Follows (serve_move count before) [] gained → next_move (serve_move count before) gained ≡ Over result
          → Serves count before after seen left result
      fails_with _ gains follows over = record {
        plays = grind arith;
        device = device_is;
      }

    module _ (within : n < most_turns) (fewer : came < count) where
      follows_wait : Follows (serve_move count before) [] awaited
      follows_wait = grind (arith, follows_push, turn_so, turn_begins)

      follows_sent : heard ≢ Failure → (x : Entry) (to : Station) (octets : List ℕ)
          → replies_of device (brought_by heard) ≡ Some (to, octets) ∷ [] → ToSend to octets ≡ question_of x
          → Follows (serve_move count before) [] (awaited ++ x ∷ [])
      follows_sent = grind (arith, follows_push, follows_wait, behind_receive)

    next_silent : heard ≢ Failure → (rs : List Reply) → replies_of device (brought_by heard) ≡ rs → AtMostOne rs
        → sends_of rs ≡ [] → next_move (serve_move count before) awaited ≡ serve_next count awaited
    next_silent = grind (arith, behind_receive)

  module _ {after : DeviceState} {left : Account Origin} (within : n < most_turns) (fewer : came < count) where
    pub serve_on : (brought replied : ℕ) → ServesTurn device after mid left (Ok (brought, replied)) →
        ServeGoes before after seen left count (came + brought) (sent + replied) (suc n)
    serve_on brought replied turn =
        go (replies_of device (brought_by turn.heard)) refl (one_at_most device turn.heard) turn.gains
      where
        sent_so : (rs : List Reply) → replies_of device (brought_by turn.heard) ≡ rs → sends_of rs ≡ []
            → sent + replied ≡ length (sent_in (awaited turn.heard))
        sent_so rs e none =
            let more = sent_more [] goes.gained (Waited serve_wait turn.heard) in
            let count = turn.sent in grind (arith, goes.sent_is)

        silent : (rs : List Reply) → replies_of device (brought_by turn.heard) ≡ rs → AtMostOne rs → sends_of rs ≡ []
            → GainsAll (Waited serve_wait turn.heard ∷ []) mid left →
            ServeGoes before after seen left count (came + brought) (sent + replied) (suc n)
        silent rs e few none more =
            on_with turn.heard turn.leaves _ (behind_waited turn.heard) _ _ turn.came (sent_so rs e none)
            (gains_one _ more) (follows_wait turn.heard within fewer)
            (next_silent _ turn.received rs e few none)

        go : (rs : List Reply) → replies_of device (brought_by turn.heard) ≡ rs → AtMostOne rs
            → GainsAll (Waited serve_wait turn.heard ∷ sends_of rs) mid left →
            ServeGoes before after seen left count (came + brought) (sent + replied) (suc n)
        go [] e few more = silent [] e few refl more
        go (None ∷ []) e few more = silent (None ∷ []) e few refl more
        go (Some (to, octets) ∷ []) e few more =
            let x = Posted to octets in
            let waited = sent_more [] goes.gained (Waited serve_wait turn.heard) in
            let posted = sent_more [] (awaited turn.heard) x in
            let count_so = turn.sent in
            on_with turn.heard turn.leaves (awaited turn.heard ++ x ∷ []) (behind_sent turn.heard x refl refl) _ _
            turn.came (grind (arith, goes.sent_is)) (gains_wait _ _ more)
            (follows_sent _ within fewer turn.received x to octets e refl)
            (next_push (serve_move count before) (awaited turn.heard) x)
        go (r ∷ s ∷ rs) e few more = absurd few

    pub serve_fails : (fault : ToolFault) → ServesTurn device after mid left (Err fault)
        → Serves count before after seen left (Err fault)
    serve_fails SendFailed lost =
        search (arith, fails_with, behind_sent, gains_wait, follows_sent, next_push (serve_move count before))
    serve_fails ReceiveFailed failed =
        fails_with Failure failed.same (awaited Failure) (behind_waited Failure) (Err ReceiveFailed)
        (gains_one Failure failed.gains)
        (follows_wait Failure within fewer)
        (next_push (serve_move count before) goes.gained (Waited serve_wait Failure))
    serve_fails _ one = absurd one

-- ---- the replies of a device, one after another, are those of the definition

module _ (info : Info) (points : List Description) where
  replied_after : (writes : List Write) (arrivals : List Arrival)
      → replies_of (device_after info points writes) arrivals ≡ replies_to info points writes arrivals
  replied_after _ [] = refl
  replied_after writes (came ∷ arrivals) =
      grind (arith, next_after, replied_after (writes_after info points writes came.from came.datagram) arrivals)

  left_after : (writes : List Write) (arrivals : List Arrival)
      → device_behind (device_after info points writes) arrivals
      ≡ device_after info points (all_writes info points writes arrivals)
  left_after _ [] = refl
  left_after writes (came ∷ arrivals) =
      grind (arith, next_after, left_after (writes_after info points writes came.from came.datagram) arrivals)

pub defined : (device : DeviceState) (writes : List Write) (arrivals : List Arrival) → Holds device writes
    → AreDefined device writes arrivals (replies_of device arrivals) (device_behind device arrivals)
defined = grind (arith, replied_after, left_after)

-- ---- two servers that are answered alike, over devices in the same state, ask, send and end alike

module _ (count : ℕ) (before after after' : DeviceState) where
  abbrev EndAlike : Result ℕ ToolFault → Result ℕ ToolFault → Type 0
  EndAlike result result' = (result ≡ result') × (after ≡ after')

  pub servings_so_far : {Origin Other : Type 0} → AskAlike Origin Other (Serves count before after)
      (Serves count before after') (λ r. ⊥) EndAlike (λ result result'. Unit {0})
  servings_so_far seen left seen' left' result result' first rest first' rest' serves serves' gains gains' same =
      to_the_end EndAlike (λ r r'. Unit {0}) result result' serves.plays serves'.plays
      (grind (arith, serves.device, serves'.device)) _ _ _ _ gains gains' same

-- ---- the sends are the due ones: of a server, of a search, and of a call

module _ {D A : Type 0} (told : List Entry → Station → List ℕ → D)
    (move : List Entry → Option Entry → Move (Result A ToolFault)) (due : List Entry → List D) where
  sent_push : (before xs : List Entry) (x : Entry) → sent_behind told before (xs ++ x ∷ [])
      ≡ sent_behind told before xs ++ sent_behind told (before ++ xs) (x ∷ [])
  sent_push before [] x = rw append-nil refl
  sent_push before (y ∷ xs) x = grind (arith, append_assoc, sent_push (before ++ y ∷ []) xs x)

  -- The send of a move, if it is one.
  abbrev pub sending : List Entry → Move (Result A ToolFault) → List D
  sending before (Asks (ToSend to octets)) = told before to octets ∷ []
  sending before _ = []

  -- The due sends were made, or come next; if a send failed, all but that one were made.
  abbrev IsSent : List Entry → Move (Result A ToolFault) → Type 0
  IsSent xs (Over result) = AllSent (due xs) (sent_behind told [] xs) result
  IsSent xs (Asks question) = due xs ≡ sent_behind told [] xs ++ sending xs (Asks question)

  -- After a send that failed the tool is over with that fault, and after no other entry.
  abbrev FailsThere : Entry → Move (Result A ToolFault) → Type 0
  FailsThere (Unposted to octets) next = next ≡ Over (Err SendFailed)
  FailsThere _ next = next ≢ Over (Err SendFailed)

  -- The list of due sends grows by the next one, and no datagram is offered.
  pub record SendsDues : Type 0 where
    pub first : IsSent [] (next_move move [])
    pub grows : (xs : List Entry) (x : Entry) → Follows move [] xs → next_move move xs ≡ Asks (question_of x)
        → due (xs ++ x ∷ []) ≡ due xs ++ sending (xs ++ x ∷ []) (move (xs ++ x ∷ []) (Some x))
    pub fails : (xs : List Entry) (x : Entry) → FailsThere x (move xs (Some x))
    pub unoffered : (xs : List Entry) (to : Station) (octets : List ℕ) → next_move move xs ≢ Asks (ToOffer to octets)

  module _ (dues : SendsDues) where
    on : (xs : List Entry) (x : Entry) → Follows move [] xs → next_move move xs ≡ Asks (question_of x)
        → IsSent xs (next_move move xs) → IsSent (xs ++ x ∷ []) (next_move move (xs ++ x ∷ []))
    on xs (Unposted to octets) follows asks so =
        rw (last_push, dues.fails (xs ++ Unposted to octets ∷ []) (Unposted to octets))
        (told xs to octets, grind (arith, dues, sent_push, append-nil))
    on xs (Offered to octets taken) follows asks so = absurd (dues.unoffered xs to octets asks)
    on xs x follows asks so = grind (arith, dues, last_push, sent_push, append-nil)

    pub sent_so_far : (xs : List Entry) → Follows move [] xs → IsSent xs (next_move move xs)
    sent_so_far = followed move (λ xs. IsSent xs (next_move move xs)) on dues.first

    pub all_sent : {gained : List Entry} {result : Result A ToolFault} → PlaysAll move gained result
        → AllSent (due gained) (sent_behind told [] gained) result
    all_sent plays = rw plays.over at (sent_so_far _ plays.follows)

-- ---- a server

module _ (count : ℕ) (device : DeviceState) where
  -- The replies that are due.
  abbrev replies_due : List Entry → List (Station × List ℕ)
  replies_due xs = flat_map option_to_list (replies_of device (arrivals_in xs))

  server_dues : SendsDues alone (serve_move count device) replies_due
  server_dues = record {
    first = grind (arith, nat_tests);
    grows = grind (arith, arrivals-push, replies-append, flat_map-append, last_push, append-nil, nat_tests);
    fails = grind (arith, nat_tests);
    unoffered = grind (arith, nat_tests);
  }

  module _ {gained : List Entry} {result : Result ℕ ToolFault}
      (plays : PlaysAll (serve_move count device) gained result) where
    pub server_sent : AllSent (replies_due gained) (sent_in gained) result
    server_sent = all_sent alone (serve_move count device) replies_due server_dues plays

    -- A server receives at most as many datagrams as its count, and exactly as many if it answers, with the number of
    -- its replies.
    pub as_many : (length (arrivals_in gained) ≤ count)
        × IfOk result (λ replies. (length (arrivals_in gained) ≡ count) × (replies ≡ length (sent_in gained)))
    as_many =
        let most = followed (serve_move count device) (λ xs. length (arrivals_in xs) ≤ count)
        (grind (arith, arrivals-push, length-append, nat_tests)) (omega arith) gained plays.follows in
        (most, grind (arith, nat_tests))

-- ---- a search

module _ (search : Search) where
  -- The Who-Is is due after the first entry.
  abbrev who_is_due : List Entry → List (Station × List ℕ)
  who_is_due [] = []
  who_is_due (_ ∷ _) = (station search.to, who_is_to search) ∷ []

  -- A search reads the time first, and after a wait.
  at_times : (xs : List Entry) → Follows (search_move search) [] xs → next_move (search_move search) xs ≡ Asks ForTime
      → (xs ≡ []) ⊎ (0 < waits_in xs)
  at_times = followed (search_move search)
      (λ xs. next_move (search_move search) xs ≡ Asks ForTime → (xs ≡ []) ⊎ (0 < waits_in xs))
      (grind (arith, last_push, waits_push, nat_tests)) (grind arith)

  search_dues : SendsDues alone (search_move search) who_is_due
  search_dues = record {
    first = refl;
    grows = grind (arith, at_times, waits_push, nat_tests);
    fails = grind (arith, nat_tests);
    unoffered = grind (arith, nat_tests);
  }

  module _ {Origin W : Type 0} (contents : W → Option (List ℕ)) (before after : Checked W)
      (seen left : Account Origin) where
    pub one_sent : (result : Result Exit ToolFault) (gained : List Entry)
        → Searched search contents before after seen left result → left.history ≡ seen.history ++ gained
        → AllSent ((station search.to, who_is_to search) ∷ []) (sent_in gained) result
    one_sent result gained searched gains =
        let it = stops search contents before after seen left result gained searched gains in
        let so = sent_so_far alone (search_move search) who_is_due search_dues gained it.follows in
        grind (arith, append-nil, it, so)

-- ---- the sends of a call are those of its request by the look-ahead

module _ (purpose : Purpose) (call : Call) where
  abbrev a : Accepted
  a = asked purpose call

  abbrev place : ℕ → ℕ × Station × List ℕ
  place i = (i, a.request.peer, a.request.octets)

  abbrev at : List Event → List (ℕ × Station × List ℕ)
  at events = map place (sends (rules_for call) events a)

  abbrev evs : List Entry → List Event
  evs = events_of purpose call

  abbrev told : List Entry → Station → List ℕ → ℕ × Station × List ℕ
  told before to octets = (length (evs before) - 1, to, octets)

  evs_push : (time : ℕ) (more : List Entry) (x : Entry)
      → evs (Timed time ∷ (more ++ x ∷ [])) ≡ evs (Timed time ∷ more) ++ handed_of x
  evs_push = grind (arith, handed_push)

  -- One more entry, with this event for the client.
  module _ (time : ℕ) (more : List Entry) (x : Entry) (event : Event) (one : handed_of x ≡ event ∷ []) where
    abbrev before : List Event
    before = evs (Timed time ∷ more)

    abbrev after : List Event
    after = evs (Timed time ∷ (more ++ x ∷ []))

    pushed : after ≡ before ++ event ∷ []
    pushed = rw (← one) (evs_push time more x)

    at_push : at after ≡ at before ++ (if is_sent_last purpose call after then place (length after - 1) ∷ [] else [])
    at_push =
        let more = sends_push (rules_for call) before event a (omega arith) in
        grind (arith, pushed, map-append, length_push, append-nil)

    unended : is_sent_last purpose call after ≡ true → end_in purpose call after ≡ None
    unended = grind (arith, pushed, sent_unended (rules_for call) before event a (omega arith), length_push)

    data_unsent : (from : Station) (octets : List ℕ) → event ≡ Data from octets
        → is_sent_last purpose call after ≡ false
    data_unsent =
        grind (arith, pushed, quiet_unsent (rules_for call) after a (length before), slice_get-last, length_push)

  module _ (time : ℕ) where
    abbrev first : List Event
    first = evs (Timed time ∷ [])

    due_none : (k : ℕ) → due (rules_for call) first 1 (suc k) ≡ None
    due_none zero = refl
    due_none (suc k) = grind (arith, due_none k)

    sent_once : (k : ℕ) → sends_within (rules_for call) first a k ≡ 1 ∷ []
    sent_once zero = refl
    sent_once (suc k) = grind (arith, due_none, sent_once k)

  -- The request is due from the first time on.
  abbrev owed : List Entry → List (ℕ × Station × List ℕ)
  owed [] = []
  owed (x ∷ xs) = at (evs (x ∷ xs))

  grows : (xs : List Entry) (x : Entry) → Follows (move purpose call) [] xs
      → next_move (move purpose call) xs ≡ Asks (question_of x)
      → owed (xs ++ x ∷ []) ≡ owed xs ++ sending told (move purpose call) owed (xs ++ x ∷ [])
      (move purpose call (xs ++ x ∷ []) (Some x))
  grows [] (Timed time) follows asks = grind (arith, sent_once, due_none)
  grows (Timed time ∷ more) (Timed now) follows asks =
      let x = Timed now in
      grind (arith, at_push time more x (Tick now) refl, unended time more x (Tick now) refl, cases_Bool)
  grows (Timed time ∷ more) (Waited wait (Arrived from octets)) follows asks =
      let x = Waited wait (Arrived from octets) in
      let event = Data from octets in
      grind (arith, at_push time more x event refl, data_unsent time more x event refl from octets refl, append-nil)
  grows (Timed time ∷ more) x follows asks = grind (arith, evs_push time more x, append-nil)
  grows _ _ follows asks = cc

  dues : SendsDues told (move purpose call) owed
  dues = grind (arith, grows, fails, cases_Bool)

  call_sent : {gained : List Entry} {result : Comes} → PlaysAll (move purpose call) gained result
      → AllSent (sends_of_call purpose call gained) (sent_at purpose call gained) result
  call_sent {gained = []} plays = let no = plays.over in cc
  call_sent {gained = x ∷ xs} plays = all_sent told (move purpose call) owed dues plays

  module _ {Origin W : Type 0} (contents : W → Option (List ℕ)) (before after : Checked W)
      (seen left : Account Origin) where
    pub told_sent : (result : Result Exit ToolFault) (gained : List Entry)
        → Tells purpose call contents before after seen left result → left.history ≡ seen.history ++ gained
        → AllSent (sends_of_call purpose call gained) (sent_at purpose call gained) result
    told_sent (Ok exit) gained tells gains = call_sent (plays_all tells.plays gains)
    told_sent (Err WriteFailed) gained tells gains = call_sent (plays_all tells.plays gains)
    told_sent (Err fault) gained tells gains = call_sent (plays_all tells.plays gains)
