-- Parts of a run, one after another.
use Rattle.std.proofs.Common.{[], ap, append-nil, append_assoc, arith, Bool, Err, false, flat_map, length, List, nat_lt}
use Rattle.std.proofs.Common.{Ok, Option, refl, Result, Some, sym, true, ℕ, ◌++◌, ◌<◌, ◌^◌, ◌∙◌, ◌∷◌, ◌≡◌, ◌≤◌}
use Rattle.{bac_pdu.specs.{longest_body, Station}, bac_tsm.specs.{Ask, due_notes, Event}}
use Rattle.bac_tsm.specs.{keeping, Note, Outcome, Refused, rules_of, Client.Client}
use Rattle.bac_tsm.specs.{declared.{client.SubmitFault.TheVariants.TooLong, due.DueEntry.DueEntry}, Machine.datagram}
use Rattle.{bac_tsm.specs.Machine.{datagram_notes, tick}, bac_print.proofs.Printed.{printed_as, prints_nothing, ◌⨾◌}}
use Rattle.{bac_print.specs.{has_failed, held, Prints, writer_of}, bac_links.specs.{Account, Arrived, GainsAll, Heard}}
use Rattle.bac_links.specs.{most_turns, Offered, Timed, Waited, declared.datagram.Datagram.Datagram, History.Gains}
use Rattle.bac_run.proofs.Acts.{all_both, calls-append, client_after-append, failed, feeds-append, journal-append}
use Rattle.bac_run.proofs.Acts.{refused_long, within_append}
use Rattle.bac_run.proofs.Out.{out_more, out_none, out_one, passed_here, printed_on}
use Rattle.bac_run.specs.{Act, acts_of_line, Aim, aims_for, aims_of, arrival_line, Asked, asked_by, at_event, Came}
use Rattle.bac_run.specs.{Does, Ends, feed_in, FewOpen, FitsLine, Goes, Handed, handing, HasRoom, heard_at, IsDue}
use Rattle.bac_run.specs.{IsPassed, line_of, moved, NoLine, open_in, Page, Passed, Read, Reading, remark, remarks}
use Rattle.bac_run.specs.{room_for, RunFault, Script, sends_in, settled, Setup, since_asked, Stage, stage_after}
use Rattle.bac_run.specs.{StopsAt, taking, time_line, Told, Took, TraceFault, Turn, turn_at, Turns, wait_at, WantsOut}
use Rattle.bac_run.specs.{whole_line}
use Rattle.bac_run.specs.declared.turns.Runner.{Runner}
use Rattle.bac_run.specs.Inner.{begins_turn, ComesTo, done, HasPassed, looking, outside, started, telling_in, to_hand}
use Rattle.bac_run.specs.Inner.Went.{Went}
use Rattle.std.proofs.lemmas.Bool.Decides.{nat_tests}

-- ---- the course of a run

after-append : (timeout : ℕ) (stage : Stage) (xs ys : List Act)
    → stage_after timeout stage (xs ++ ys) ≡ stage_after timeout (stage_after timeout stage xs) ys
after-append timeout stage [] ys = refl
after-append timeout stage (x ∷ xs) ys = after-append timeout (moved timeout stage x) xs ys

goes-append : (timeout : ℕ) (stage : Stage) (xs ys : List Act) → Goes timeout stage xs
    → Goes timeout (stage_after timeout stage xs) ys → Goes timeout stage (xs ++ ys)
goes-append timeout stage [] ys here later = later
goes-append timeout stage (x ∷ xs) ys (due, here) later =
    (due, goes-append timeout (moved timeout stage x) xs ys here later)

-- An act is due at each of these stages; and it leads to these.
abbrev Due : {I : Type 0} → Runner → (I → Stage) → Act → Type 0
Due {I} c from act = (i : I) → IsDue c.setup.config.timeout (from i) act

abbrev Leads : {I : Type 0} → Runner → (from to : I → Stage) → Act → Type 0
Leads {I} c from to act = (i : I) → moved c.setup.config.timeout (from i) act ≡ to i

-- A run whose next aim is to end with a fault stops with it.
pub stops_so : (run : Runner) (fault : TraceFault) (later : List Aim)
    → StopsAt (Script fault) (started run (Ends (Err fault) ∷ later))
stops_so = grind (arith, append_assoc, append-nil)

-- ---- the parts

-- The stage after an act of the client, whose datagrams must be offered.
after_act : {since_told waits : ℕ} (later : List Aim) {client after : Client} {sends others : List (Station × List ℕ)}
    → since_told ≡ waits → client ≡ after → sends ≡ others
    → settled (record { client = client; since_told = since_told; phase = handing sends; aims = later })
    ≡ settled (record { client = after; since_told = waits; phase = handing others; aims = later })
after_act later counted same sent = rw (counted, same, sent) refl

-- No answer is expected while there is room.
roomy : (most since_told : ℕ) (client : Client) → open_in client ≤ most
    → since_told ≡ since_asked most client since_told
roomy most since_told client few = grind (arith, nat_tests, few)

module _ {Origin W : Type 0} {contents : W → Option (List ℕ)} where
  -- Two parts of a run, one after the other.
  module _ {A B I : Type 0} {x : A} {result : Result B RunFault} {c d e : Runner} {p q r : Page W}
      {s t u : Account Origin} {from mid to : I → Stage} {xs ys : List Act}
      (first : Went contents c d p q s t from mid (Ok x) xs) (second : Went contents d e q r t u mid to result ys) where
    pub went_more : Went contents c e p r s u from to result (xs ++ ys)
    went_more =
        let timeout = c.setup.config.timeout in
        let after = client_after-append c.client first.acts second.acts in
        let printed = journal-append c.client first.acts second.acts in
        record {
          acts = first.acts ++ second.acts;
          takes = grind (arith, feeds-append, first.takes, second.takes);
          same = second.same ∙ first.same;
          goes = λ i. goes-append timeout (from i) first.acts second.acts (first.goes i)
              (rw (first.comes i, sym first.same) (second.goes i));
          comes = λ i. rw (after-append timeout (from i) first.acts second.acts, first.comes i, sym first.same)
              (second.comes i);
          client_is = grind (arith, after, first.client_is, second.client_is);
          prints = printed_as (first.prints ⨾ second.prints) (grind (arith, printed, first.client_is));
          out = out_more first.client_is first.out first.prints second.out second.prints;
          asks = grind (arith, append_assoc, calls-append, first.asks, second.asks);
          fit = all_both FitsLine first.acts second.acts first.fit second.fit;
          within = within_append c.setup.window c.client first.acts second.acts first.within
              (rw (sym first.client_is, sym first.same) second.within);
        }

    pub more_acts : (went_more).acts ≡ first.acts ++ second.acts
    unfolding went_more
    more_acts = refl

  -- An empty part: nothing was done; perhaps the held text of the page was written.
  went_empty : {A I : Type 0} {result : Result A RunFault} {c d : Runner} {p q : Page W} {s : Account Origin}
      {from to : I → Stage} → Prints contents p q [] → d.setup ≡ c.setup → d.client ≡ c.client
      → ((i : I) → ComesTo result (to i) (from i)) → Went contents c d p q s s from to result []
  went_empty {c} {p = p} {q = q} printed same client comes = record {
    acts = [];
    takes = refl;
    same = same;
    goes = λ i. tt;
    comes = comes;
    client_is = client;
    prints = printed;
    out = out_none c.client p q;
    asks = grind (arith, append-nil);
    fit = tt;
    within = tt;
  }

  pub went_still : {I : Type 0} (c d : Runner) (p : Page W) (s : Account Origin) {from to : I → Stage}
      → d.setup ≡ c.setup → d.client ≡ c.client → ((i : I) → from i ≡ to i)
      → Went contents c d p p s s from to done []
  went_still c d p s same client stages = went_empty (prints_nothing p) same client stages

  pub went_nothing : {I : Type 0} (c : Runner) (p : Page W) (s : Account Origin) (from : I → Stage)
      → Went contents c c p p s s from from done []
  went_nothing c p s from = went_still c c p s refl refl (λ i. refl)

  -- The run stops at this stage.
  pub went_stopped : {I : Type 0} (A : Type 0) (c : Runner) (p : Page W) (s : Account Origin) (from to : I → Stage)
      (fault : TraceFault) → ((i : I) → StopsAt (Script fault) (from i))
      → Went contents c c p p s s from to (failed A (Script fault)) []
  went_stopped A c p s from to fault stops = went_empty (prints_nothing p) refl refl stops

  -- A part in which the held text of the page was written first.
  module _ {A I : Type 0} {result : Result A RunFault} {c d : Runner} {p q r : Page W} {s t : Account Origin}
      {from to : I → Stage} {xs : List Act} (first : Prints contents p q [])
      (then : Went contents c d q r s t from to result xs) where
    pub went_turned : Went contents c d p r s t from to result xs
    went_turned = went_more (went_empty {result = done} {from = from} {to = from} first refl refl (λ i. refl)) then

    pub turned_acts : (went_turned).acts ≡ then.acts
    unfolding went_turned went_more went_empty
    turned_acts = refl

  module _ {A I : Type 0} {c d : Runner} {p q : Page W} {s t : Account Origin} {from to : I → Stage} {xs : List Act}
    where
      -- A part with the same acts has other stages and another result.
      went_as : {B J : Type 0} {result : Result A RunFault} {other : Result B RunFault} {from' to' : J → Stage}
          (f : J → I) → ((j : J) → from' j ≡ from (f j))
          → ((j : J) (left : Stage) → ComesTo result (to (f j)) left → ComesTo other (to' j) left)
          → Went contents c d p q s t from to result xs → Went contents c d p q s t from' to' other xs
      went_as = grind (arith, append_assoc, append-nil)

      pub went_at : {J : Type 0} {result : Result A RunFault} (f : J → I)
          → Went contents c d p q s t from to result xs
          → Went contents c d p q s t (λ j. from (f j)) (λ j. to (f j)) result xs
      went_at f went = went_as f (λ j. refl) (λ j left is. is) went

      pub went_from : {result : Result A RunFault} {other : I → Stage} → ((i : I) → other i ≡ from i)
          → Went contents c d p q s t from to result xs → Went contents c d p q s t other to result xs
      went_from is went = went_as (λ i. i) is (λ i left comes. comes) went

      pub went_to : {x : A} {other : I → Stage} → ((i : I) → to i ≡ other i)
          → Went contents c d p q s t from to (Ok x) xs → Went contents c d p q s t from other (Ok x) xs
      went_to is went = went_as (λ i. i) (λ i. refl) (λ i left comes. comes ∙ is i) went

      -- The fault of one part is the fault of the whole, whatever comes later.
      pub went_failed : (B : Type 0) {other : I → Stage} (fault : RunFault)
          → Went contents c d p q s t from to (failed A fault) xs
          → Went contents c d p q s t from other (failed B fault) xs
      went_failed B fault went = went_as (λ i. i) (λ i. refl) (λ i left comes. comes) went

      -- A part that ended well, with any result.
      pub went_ok : {B : Type 0} {x : A} (y : B) → Went contents c d p q s t from to (Ok x) xs
          → Went contents c d p q s t from to (Ok y) xs
      went_ok y went = went_as (λ i. i) (λ i. refl) (λ i left comes. comes) went

  -- A part of one act.
  went_one : {A I : Type 0} {result : Result A RunFault} {c d : Runner} {p q : Page W} {s t : Account Origin}
      {from to : I → Stage} (act : Act) → FitsLine act → d.setup ≡ c.setup → d.client ≡ (turn_at c.client act).after
      → Due c from act → ((i : I) → ComesTo result (to i) (moved c.setup.config.timeout (from i) act))
      → Prints contents p q (line_of act ++ remarks (turn_at c.client act).notes)
      → (WantsOut act → HasPassed p (writer_of q) []) → GainsAll (asked_by act) s t
      → HasRoom c.setup.window c.client act → Went contents c d p q s t from to result (feed_in act)
  went_one {c} {p = p} {q = q} act fits same moved' due comes printed out asked room = record {
    acts = act ∷ [];
    takes = append-nil _;
    same = same;
    goes = λ i. (due i, tt);
    comes = comes;
    client_is = moved';
    prints = printed_as printed (sym (append-nil _));
    out = out_one c.client p q act out;
    asks = grind (arith, append-nil, asked);
    fit = (fits, tt);
    within = (room, tt);
  }

  -- A part of one act that only changes the stage, and perhaps prints its line.
  pub went_silent : {I : Type 0} {c : Runner} {p q : Page W} (s : Account Origin) {from to : I → Stage} (act : Act)
      → FitsLine act → turn_at c.client act ≡ record { notes = []; after = c.client } → asked_by act ≡ []
      → Due c from act → Leads c from to act → Prints contents p q (line_of act) → (WantsOut act → ⊥)
      → HasRoom c.setup.window c.client act → Went contents c c p q s s from to done (feed_in act)
  went_silent s act fits still none due comes printed stays room =
      went_one act fits refl (grind (arith, still)) due comes (printed_as printed (grind (arith, append-nil, still)))
      (λ waits. absurd (stays waits)) (grind (arith, append-nil, none)) room

  -- A part in which the time was read.
  pub went_read : {I : Type 0} {c d : Runner} {p : Page W} {s t : Account Origin} {from to : I → Stage} (time : ℕ)
      → d.setup ≡ c.setup → d.client ≡ c.client → Due c from (Read time) → Leads c from to (Read time)
      → Gains (Timed time) s t → Went contents c d p p s t from to done []
  went_read {p = p} time same client due comes gains =
      went_one (Read time) tt same client due comes (prints_nothing p) (λ waits. absurd waits) gains tt

  -- A turn, after its output was written and its time was read.
  pub went_turn : {A : Type 0} {result : Result A RunFault} {c d : Runner} {p q r : Page W} {s t u : Account Origin}
      {to : List Aim → Stage} (time : ℕ) → Prints contents p q [] → Gains (Timed time) s t
      → Went contents c d q r t u (λ aims. looking c (time, aims)) to result []
      → Went contents c d p r s u (begins_turn c) (λ (until, left, later). to (Turns until left ∷ later)) result []
  went_turn time printed gains went =
      went_turned printed
      (went_more (went_read time refl refl (λ (until, left, later). tt) (λ (until, left, later). refl) gains)
      (went_at (λ (until, left, later). Turns until left ∷ later) went))

  -- A part of one wait that brought nothing for the client, or failed.
  pub went_passed : {A : Type 0} {result : Result A RunFault} {c d : Runner} {p : Page W} {s t : Account Origin}
      {to : List Aim → Stage} {time wait : ℕ} {seen : Datagram} (heard : Heard) → IsPassed heard
      → d ≡ record c { datagram = seen; since_told = d.since_told }
      → wait ≡ wait_at c.setup.config.timeout c.client c.since_told time
      → ((aims : List Aim)
      → ComesTo result (to aims) (moved c.setup.config.timeout (looking c (time, aims)) (Passed wait heard)))
      → has_failed (writer_of p) ≡ false → (c.since_told ≡ 0 → held p ≡ []) → Gains (Waited wait heard) s t
      → Went contents c d p p s t (λ aims. looking c (time, aims)) to result []
  went_passed {p = p} {wait = wait} heard passed same is comes sound out gains =
      went_one (Passed wait heard) tt (cc) (cc) (λ aims. (is, passed)) comes (prints_nothing p)
      (λ waits. passed_here sound (out (grind (arith, nat_tests, is, waits)))
      ([], sym (append-nil _))) gains tt

  -- A part of one wait, in which a datagram was passed to the client.
  pub went_came : {c d : Runner} {p q r : Page W} {s t : Account Origin} {to : List Aim → Stage} {time wait : ℕ}
      {client : Client} {seen : Datagram} {answer : Option (ℕ × Outcome)} (peer : Station) (octets : List ℕ)
      → FitsLine (Came wait peer octets) → d ≡ record c { client = client; datagram = seen; since_told = d.since_told }
      → answer ≡ (datagram (rules_of c.client) c.client.state peer octets).answer
      → client ≡ keeping c.client (datagram (rules_of c.client) c.client.state peer octets).after
      → wait ≡ wait_at c.setup.config.timeout c.client c.since_told time
      → ((aims : List Aim) → settled (heard_at (record (outside c aims) { client = client }) time) ≡ to aims)
      → Prints contents p q (arrival_line peer octets) → Prints contents q r (remarks (datagram_notes answer))
      → has_failed (writer_of p) ≡ false → (c.since_told ≡ 0 → held p ≡ [])
      → Gains (Waited wait (Arrived peer octets)) s t
      → Went contents c d p r s t (λ aims. looking c (time, aims)) to done []
  went_came {c} {time = time} {wait = wait} peer octets fits same said left is comes line notes sound out gains =
      went_one (Came wait peer octets) fits (cc) (cc) (λ aims. (is, fits.4))
      (λ aims. ap (λ (k : Client). settled (heard_at (record (outside c aims) { client = k }) time)) (sym left)
      ∙ comes aims)
      (printed_as (line ⨾ notes) (ap (λ (a : Option (ℕ × Outcome)). arrival_line peer octets ++ remarks
      (datagram_notes a)) said))
      (λ waits. passed_here sound (out (grind (arith, nat_tests, is, waits)))
      (printed_on (line ⨾ notes))) gains tt

  -- A part in which the client got the time, which was later than its last one.
  pub went_told : {c : Runner} {p q r : Page W} (s : Account Origin) {client : Client} {due sent : List DueEntry}
      (time : ℕ) → time < 2 ^ 64 → nat_lt c.client.state.clock time ≡ true
      → due ≡ (tick (rules_of c.client) c.client.state time).answer → sent ≡ due
      → client ≡ keeping c.client (tick (rules_of c.client) c.client.state time).after
      → Prints contents p q (time_line time) → Prints contents q r (remarks (flat_map (due_notes client.state) due))
      → Went contents c (record c { client = client; since_told = 0 }) p r s s (telling_in c time)
      (λ (until, left, later). to_hand (record c { client = client; since_told = 0 })
      (sends_in (flat_map (due_notes client.state) sent), Turns until most_turns ∷ later)) done []
  went_told {c} s {client} {due} {sent} time fits more is same left line notes =
      let alike : flat_map (due_notes client.state) due ≡ (turn_at c.client (Told time)).notes = grind
      (arith, is, left) in
      went_one (Told time) fits refl left (λ (until, n, later). rw more refl)
      (λ (until, n, later). rw more
      (after_act (Turns until most_turns ∷ later) refl (sym left) (ap sends_in (sym alike)
      ∙ ap (λ (es : List DueEntry). sends_in (flat_map (due_notes client.state) es)) (sym same))))
      (printed_as (line ⨾ notes) (ap (λ (ns : List Note). time_line time ++ remarks ns) alike))
      (λ waits. absurd waits) (grind (arith, append-nil)) tt

  -- A part in which a request was made, while there was room.
  pub went_asked : {c : Runner} {p q r : Page W} (s : Account Origin) {client : Client} {waits : ℕ}
      {sends : List (Station × List ℕ)} (most : ℕ) (line : List ℕ) (event : Event)
      → client ≡ (at_event c.client event).after → waits ≡ since_asked most client c.since_told
      → sends_in (at_event c.client event).notes ≡ sends → Prints contents p q (whole_line line)
      → Prints contents q r (remarks (at_event c.client event).notes)
      → (WantsOut (Asked line event) → (has_failed (writer_of p) ≡ false) × (held p ≡ []))
      → open_in c.client < c.setup.window
      → Went contents c (record c { client = client; since_told = waits }) p r s s
      (λ later. started c (Does (Asked line event) ∷ Turns (FewOpen most) most_turns ∷ later))
      (λ later. to_hand (record c { client = client; since_told = waits })
      (sends, Turns (FewOpen most) most_turns ∷ later)) done []
  went_asked {c} s most line event left counted sent printed noted out few =
      went_one (Asked line event) tt refl left (λ (later : List Aim). (refl, refl, refl))
      (λ (later : List Aim). after_act (Turns (FewOpen most) most_turns ∷ later)
      (ap (λ (k : Client). since_asked most k c.since_told) (sym left) ∙ sym counted) (sym left) sent)
      (printed ⨾ noted)
      (λ wants. let (sound, none) = out wants in passed_here sound none (printed_on (printed ⨾ noted)))
      (grind (arith, append-nil)) few

  -- The room that a part leaves for one more request is that of equal settings.
  pub went_set : {c d : Runner} {p q : Page W} {s t : Account Origin} {x y : Setup} (due : Aim) → x ≡ y
      → Went contents c d p q s t (λ later. started c (due ∷ room_for x.window ∷ later))
      (λ later. started d (room_for x.window ∷ later)) done []
      → Went contents c d p q s t (λ later. started c (due ∷ room_for y.window ∷ later))
      (λ later. started d (room_for y.window ∷ later)) done []
  went_set due same went = rw same at went

  -- A part in which a datagram was offered to the link.
  pub went_handed : {c : Runner} {p q : Page W} {s t : Account Origin} (to : Station) (octets : List ℕ) (taken : Bool)
      → Prints contents p q (line_of (Handed to octets taken)) → Gains (Offered to octets taken) s t
      → Went contents c c p q s t (λ (later, aims). to_hand c ((to, octets) ∷ later, aims)) (to_hand c) done []
  went_handed to octets taken printed gains =
      went_one (Handed to octets taken) tt refl refl (λ (later, aims). (refl, refl)) (λ (later, aims). refl)
      (printed_as printed (sym (append-nil _))) (λ waits. absurd waits) gains tt

  -- A part in which a line was taken, or none was left, while there was room.
  pub went_took : {I : Type 0} (c : Runner) (p : Page W) (s : Account Origin) {from to : I → Stage} (line : List ℕ)
      → Due c from (Took line) → Leads c from to (Took line) → open_in c.client < c.setup.window
      → Went contents c c p p s s from to done (Took line ∷ [])
  went_took c p s line due comes few =
      went_silent s (Took line) tt refl refl due comes (prints_nothing p) (λ waits. waits) few

  pub went_none : {I : Type 0} (c : Runner) (p : Page W) (s : Account Origin) {from to : I → Stage} (reading : Reading)
      → Due c from (NoLine reading) → Leads c from to (NoLine reading)
      → Went contents c c p p s s from to done (NoLine reading ∷ [])
  went_none c p s reading due comes =
      went_silent s (NoLine reading) tt refl refl due comes (prints_nothing p) (λ waits. waits) tt

  -- A part in which a request was refused as too long, while there was room.
  pub went_refused : {c d : Runner} {p q r m : Page W} {s t : Account Origin} {from : List Aim → Stage} (most : ℕ)
      (line : List ℕ) (peer : Station) (body : List ℕ) → longest_body < length body
      → Went contents c d p m s t from
      (λ later. started d (Does (Asked line (Ask peer 15 body)) ∷ Turns (FewOpen most) most_turns ∷ later)) done []
      → Prints contents m q (whole_line line) → Prints contents q r (remark (Refused TooLong))
      → open_in d.client < c.setup.window → open_in d.client ≤ most
      → Went contents c d p r s t from (λ later. started d (Turns (FewOpen most) most_turns ∷ later)) done []
  went_refused {d = d} {t = t} most line peer body long fresh printed noted few fewer =
      let is = refused_long d.client peer body long in
      went_more fresh
      (went_asked t most line (Ask peer 15 body) (cc) (roomy most d.since_told d.client fewer)
      (ap (λ (x : Turn). sends_in x.notes) is) printed
      (printed_as noted (sym (ap (λ (x : Turn). remarks x.notes) is ∙ append-nil _)))
      (λ (is, short). absurd (omega (arith, long, short))) (rw fresh.same few))

  -- The aims of a line follow from its meaning.
  pub line_said : {A : Type 0} {result : Result A RunFault} {c d : Runner} {p q : Page W} {s t : Account Origin}
      {to : List Aim → Stage} {acts : List Act} (line : List ℕ) (number : ℕ) → acts_of_line line ≡ Some acts
      → Went contents c d p q s t
      (λ later. started c (flat_map aims_of acts ++ taking c.setup.window number later)) to result []
      → Went contents c d p q s t
      (λ later. started c (aims_for (acts_of_line line) c.setup.window number line later)) to result []
  line_said = grind (arith, append_assoc, append-nil)
