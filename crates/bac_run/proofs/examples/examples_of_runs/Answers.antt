-- Runs are computed. A run with other calls, or another end, is compared with them.
use Rattle.std.proofs.Common.{[], ap, append-nil, append_assoc, arith, Bool, Err, false, get_or, inl, inr, List, nat_lt}
use Rattle.std.proofs.Common.{refl, Result, rules, subst, sym, take, take_all, true, ℕ, ◌++◌, ◌<◌, ◌^◌, ◌∙◌, ◌∷◌, ◌≡◌}
use Rattle.std.{proofs.{Common.{◌≢◌, ◌≤◌}, lemmas.Bool.Decides.nat_tests}, specs.List.{AllByRecursion, concat}}
use Rattle.{std.specs.{List.list_all, Prelude.{codes, length, Ok}}, bac_print.specs.{ends_of, fresh, octets_of}}
use Rattle.bac_print.specs.{Checked.OnlyWrites, declared.checked.Checked.Checked, StreamCall.WriteCall}
use Rattle.bac_script.{proofs.Computed.computed, specs.{IsFrontOf, declared.tracing.TraceEnd.TraceEnd}}
use Rattle.bac_script.specs.{declared.tracing.TraceFault.TheVariants.WriteFailed, Limits.line_room}
use Rattle.{bac_links.specs.{Entry, Offered, Silence, Timed, Waited}, bac_run.proofs.Alike.{AskBoth, both_go, Less}}
use Rattle.bac_run.proofs.{Alike.{More, Next, Same}, Cut.{AreFedAlike, fed_alike, has_feed}, GoOn.{cut_at, gained_so}}
use Rattle.bac_run.{proofs.{GoOn.stops_by, Out.journal_front, ReadBack.settings_read_back}, specs.{Act, Aim, AllDone}}
use Rattle.bac_run.specs.{AtEnd, calls_of, Came, client_after, Closed, EndsAt, Feeds, feeds_in, first_stage, FitsLine}
use Rattle.bac_run.specs.{Goes, Handed, HasNoFeed, IsDue, IsOver, IsWithin, journal_of, LastIsDue, lines_in, moved}
use Rattle.bac_run.specs.{NextLine, NoLine, Passed, Read, Reading, RunFault, Runs, Script, Setup, Stage, stage_after}
use Rattle.bac_run.specs.{stage_by, Told, Took, WantsLine, WantsOut, Inner.{about, answer, asked, desk, drained, ended}}
use Rattle.bac_run.specs.Inner.{filled, handed, idle, IsRunOf, link_with, octets, one_by_one, read_line, unknown}
use Rattle.bac_run.proofs.examples.examples_of_runs.Goals as goal

feedless : (xs : List ℕ) → list_all (nat_lt 10) xs ≡ true → HasNoFeed xs
feedless [] is = tt
feedless (x ∷ xs) is = (grind (arith, nat_tests, is), feedless xs (grind (arith, nat_tests, is)))

-- One line is taken, and then these acts take the rest.
one_line : (reading : Reading) (text : List ℕ) (later : List Act) → list_all (nat_lt 10) text ≡ true
    → length (text ++ 10 ∷ []) ≤ line_room → Feeds reading [] [] later
    → Feeds reading (text ++ 10 ∷ []) [] (Took (text ++ 10 ∷ []) ∷ later)
one_line reading text later free short rest =
    ([], sym (append-nil _), inl (inl ((text, feedless text free, refl), short)), rest)

request_feeds : (reading : Reading) (later : List Act) → Feeds reading [] [] later
    → Feeds reading read_line [] (Took read_line ∷ later)
request_feeds reading later = one_line reading (codes "read 127.0.0.1 0 5 85") later refl (omega arith)

remark_feeds : Feeds AtEnd (codes "# x\n") [] (Took (codes "# x\n") ∷ NoLine AtEnd ∷ [])
remark_feeds = one_line AtEnd (codes "# x") (NoLine AtEnd ∷ []) refl (omega arith) (refl, refl, refl)

-- ---- two runs that end well

abbrev ending_acts : List Act
ending_acts = NoLine AtEnd ∷ Closed ∷ []

-- A run over one line: these acts and those of the end, of which the journal is this text.
module _ (timed : 0 < 3000) (some : 0 < 1) (line text : List ℕ) (acts : List Act) (entries : List Entry)
    (tells : journal_of (one_by_one timed some) (acts ++ ending_acts) ≡ text) where
  abbrev setup : Setup
  setup = one_by_one timed some

  abbrev all : List Act
  all = acts ++ ending_acts

  filled_is : octets_of (filled text) ≡ text
  filled_is = append-nil (take (length text) text) ∙ take_all (length text) text (omega arith)

  told : (earlier later : List Act) → all ≡ earlier ++ later
      → IsFrontOf (journal_of setup earlier) (octets_of (filled text))
  told earlier later is =
      subst (λ (octets : List ℕ). IsFrontOf (journal_of setup earlier) octets)
      (ap (λ (xs : List Act). journal_of setup xs) (sym is) ∙ tells ∙ sym filled_is)
      (journal_front setup earlier later)

  whole_run : Feeds AtEnd line [] (feeds_in all) → AllDone (ended 1) (lines_in all) [] all
      → Goes 3000 (first_stage setup) all → EndsAt (ended 1) (stage_by setup all)
      → line ≡ concat (lines_in acts) ++ [] → ends_of (drained line) ≡ 1 → WantsLine setup (stage_by setup acts)
      → OnlyWrites false (WriteCall text (Ok (length text)) ∷ []) false → calls_of all ≡ entries
      → IsOver (ended 1) (client_after idle all) → IsWithin 1 idle all → AllByRecursion FitsLine all
      → IsRunOf line text entries
  whole_run feeds done goes ends took once wanted written asks over within fit = (
    timed,
    some,
    record {
      acts = all;
      takes = record {
        given = line;
        kept = [];
        reading = AtEnd;
        gave = record { passed = append-nil line; known = grind arith };
        stands = record { empty = refl; sound = refl; ended = refl; once = once; left = grind arith };
        feeds = feeds;
        all_done = done;
      };
      goes = goes;
      ends = ends;
      read = inr (record {
        before = line;
        held = [];
        earlier = acts;
        later = ending_acts;
        order = sym (append-nil line);
        did = refl;
        took = took;
        no_line = (tt, omega arith);
        wanted = wanted;
        told = told acts ending_acts refl;
      });
      printed = record {
        taken = text;
        rest = [];
        took = record {
          passed = filled_is;
          known = grind arith;
          made = WriteCall text (Ok (length text)) ∷ [];
          calls = refl;
          asked = written;
        };
        whole = tells ∙ sym (append-nil text);
        sound = λ sound. (refl, refl);
        stopped = λ stopped. grind arith;
      };
      out = λ earlier later wait waits is. told earlier (wait ∷ later) is;
      asks = ap (λ (calls : List Entry). link_with calls) (sym asks);
      over = over;
      within = within;
      fit = fit;
      settings = settings_read_back 3000 3 (omega arith) (omega arith) (omega arith);
    },
  )

abbrev request_acts : List Act
request_acts = Took read_line ∷ Read 0 ∷ asked ∷ handed ∷ Read 5 ∷ Came 50 desk answer ∷ []

pub returns-clause-answered : goal.returns-clause-answered
unfolding computed
returns-clause-answered c =
    whole_run (omega arith) (omega arith) read_line
    (codes "client 3000 3 0\nread 127.0.0.1 0 5 85\n# send 0 127.0.0.1:47808 810a001101040005010c0c000000051955\n"
    ++ codes "data 127.0.0.1:47808 810a0017010030010c0c0000000519553e444290999a3f\n# done 0 value 4290999a\n"
    ++ codes "# end of the run\n") request_acts _ refl (request_feeds AtEnd (NoLine AtEnd ∷ []) (refl, refl, refl))
    (refl, ((λ bad. grind arith), tt), refl, refl)
    (tt, (tt, ((refl, refl, refl), ((refl, refl), (tt, ((refl, refl), (tt, ((refl, refl, refl), tt))))))))
    refl refl refl (1, refl, refl, omega arith) (refl, (λ none. grind arith), refl) refl refl
    (omega arith, (tt, (omega arith, (tt, (tt, (tt, (tt, (tt, tt))))))))
    (tt, (tt, (tt, (tt, (tt, ((omega arith, omega arith, refl, search rules, refl), (tt, (tt, tt))))))))

-- All acts of a run over a remark, and its text.
abbrev remark_acts : List Act
remark_acts = Took (codes "# x\n") ∷ ending_acts

abbrev remark_text : List ℕ
remark_text = codes "client 3000 3 0\n# end of the run\n"

pub returns-clause-over_a_remark : goal.returns-clause-over_a_remark
unfolding computed
returns-clause-over_a_remark c =
    whole_run (omega arith) (omega arith) (codes "# x\n") remark_text (Took (codes "# x\n") ∷ []) [] refl
    remark_feeds (refl, ((λ bad. grind arith), tt), refl, refl) (tt, (tt, ((refl, refl, refl), tt))) refl refl refl
    (1, refl, refl, omega arith) (refl, (λ none. grind arith), refl) refl refl (omega arith, (tt, (tt, tt)))
    (tt, (tt, (tt, tt)))

-- ---- runs that are compared with acts

abbrev start : Stage
start = about idle 0 (NextLine 1 0 ∷ [])

module _ {timed : 0 < 3000} {some : 0 < 1} {reader after : Checked ℕ} {entries : List Entry}
    {result : Result TraceEnd RunFault} (runs : Runs unknown unknown (one_by_one timed some) (fresh 0) reader (fresh 0)
    after (link_with []) (link_with entries) result) where
  calls_are : calls_of runs.acts ≡ entries
  calls_are = gained_so (link_with []) (link_with entries) _ entries runs.asks refl

  at_end : ends_of reader ≡ 1 → runs.takes.reading ≡ AtEnd
  at_end = grind (arith, append_assoc, append-nil)

  -- The run took lines of this input, as these acts do.
  fed : (input : List ℕ) (reading : Reading) (feeds : List Act) → octets_of reader ≡ input
      → runs.takes.reading ≡ reading → Feeds reading input [] feeds → AreFedAlike (feeds_in runs.acts) feeds
  fed input reading feeds is over others =
      fed_alike reading (feeds_in runs.acts) feeds input runs.takes.kept []
      (rw (sym over, sym is, runs.takes.gave.passed) runs.takes.feeds) others

  module _ (model : List Act) (goes : Goes 3000 start model) (alike : AreFedAlike (feeds_in runs.acts) (feeds_in model))
    where
      next : (xs : List Entry) → entries ≡ calls_of model ++ xs → Next 3000 start runs.acts model xs []
      next xs is =
          (both_go 3000 start runs.acts model alike (calls_of model) xs (calls_of model) [] runs.goes goes
          (calls_are ∙ is) (sym (append-nil _)) refl).1

      -- A run that made more calls than these acts did them, and one more, which was due.
      beyond : (x : Entry) (xs : List Entry) → entries ≡ calls_of model ++ x ∷ xs
          → (act : Act) × (more : List Act) × (runs.acts ≡ model ++ act ∷ more)
          × IsDue 3000 (stage_after 3000 start model) act
      beyond x xs is = elim (next (x ∷ xs) is) [
        | AskBoth p q ps qs is is' asks ↦ absurd (cc)
        | Same same is is' ↦ absurd (cc)
        | Less is act more longer due ↦ absurd (cc)
        | More is act more longer due ↦ (act, more, longer, due)
      ]

      -- A run with the calls of these acts, after which none is due, did these acts, unless its writer failed.
      exactly : entries ≡ calls_of model → ((act : Act) → IsDue 3000 (stage_after 3000 start model) act → ⊥)
          → result ≢ Err (Script WriteFailed) → runs.acts ≡ model
      exactly is over wrote = elim (next [] (is ∙ sym (append-nil _))) [
        | AskBoth p q ps qs is is' asks ↦ absurd (cc)
        | Same same is is' ↦ same
        | Less is act more longer due ↦
            absurd (wrote (cut_at (one_by_one timed some) runs.acts result act
            (stops_by (one_by_one timed some) runs.acts result runs.ends) due))
        | More is act more longer due ↦ absurd (over act due)
      ]

abbrev to_ask : (time : ℕ) → List Act
to_ask time = Took read_line ∷ Read time ∷ []

-- For a remark no act is due that calls the link.
remark_asks : {text : List ℕ} (x : Entry) (xs : List Entry) → IsRunOf (codes "# x\n") text (x ∷ xs) → ⊥
unfolding computed
remark_asks x xs (timed, some, runs) =
    let (act, more, is, due) = beyond runs remark_acts (tt, (tt, ((refl, refl, refl), tt)))
    (fed runs (codes "# x\n") AtEnd _ refl (at_end runs refl) remark_feeds) x xs refl in due

pub returns-clause-unasked : goal.returns-clause-unasked
returns-clause-unasked c = λ text run. remark_asks _ _ run

pub returns-clause-looked : goal.returns-clause-looked
returns-clause-looked c = λ text run. remark_asks _ _ run

-- Once the request is made, its datagram is offered.
offered_next : (act : Act) (more : List Act) (later : List Entry)
    → IsDue 3000 (stage_after 3000 start (to_ask 0 ++ asked ∷ [])) act
    → calls_of ((to_ask 0 ++ asked ∷ []) ++ act ∷ more) ≡ Timed 0 ∷ Timed 5 ∷ later → ⊥
unfolding computed
offered_next (Handed to os taken) more later due is = absurd (cc)
offered_next _ more later due is = due

pub returns-clause-unsent : goal.returns-clause-unsent
unfolding computed
returns-clause-unsent c = λ text (timed, some, runs).
    let (act, more, is, due) = beyond runs (to_ask 0 ++ asked ∷ []) (tt, (tt, ((refl, refl, refl), tt)))
    (fed runs read_line _ _ refl refl (request_feeds runs.takes.reading [] refl)) (Timed 5) _ refl in
    offered_next act more _ due (ap calls_of (sym is) ∙ calls_are runs)

-- ---- reads that are not due

takes_next : List Aim → Bool
takes_next (NextLine window taken ∷ later) = true
takes_next aims = false

-- After none of these acts is a line to be taken.
Quiet : Stage → List Act → Type 0
Quiet stage [] = Unit {0}
Quiet stage (act ∷ later) = (takes_next (moved 3000 stage act).aims ≡ false) × Quiet (moved 3000 stage act) later

-- So a line can be taken only before these acts.
before_all : (stage : Stage) (acts earlier later : List Act) → acts ≡ earlier ++ later → Quiet stage acts
    → takes_next (stage_after 3000 stage earlier).aims ≡ true → earlier ≡ []
unfolding takes_next Quiet
before_all stage acts [] later is quiet next = refl
before_all stage [] (b ∷ earlier) later is quiet next = absurd (cc)
before_all stage (a ∷ acts) (b ∷ earlier) later is (none, quiet) next =
    let same : b ≡ a = cc in
    let rest : acts ≡ earlier ++ later = cc in
    let then = rw same at next in
    let over = rw (before_all (moved 3000 stage a) acts earlier later rest quiet then) at then in absurd (cc)

-- No read was due: before these acts a whole line was held, and after them no line is to be taken.
undue : {timed : 0 < 3000} {some : 0 < 1} {given : List ℕ} {acts : List Act} {IsPast : List Act → Type 0}
    (text : List ℕ) (model : List Act) → acts ≡ model → given ≡ text ++ 10 ∷ [] → Quiet start model
    → LastIsDue (one_by_one timed some) (drained (text ++ 10 ∷ [])) given acts IsPast → ⊥
unfolding computed takes_next
undue text model did is quiet due =
    let (taken, _, aims, _) = due.wanted in
    let none = before_all start model due.earlier due.later (sym did ∙ due.did) quiet (ap takes_next aims) in
    has_feed text []
    (subst HasNoFeed (ap (λ (acts : List Act). concat (lines_in acts) ++ due.held) (sym none) ∙ sym due.took
    ∙ sym (append-nil due.before) ∙ sym due.order ∙ is ∙ sym (append-nil _)) due.no_line.0)

pub returns-clause-early : goal.returns-clause-early
unfolding computed takes_next Quiet
returns-clause-early c = λ timed some due.
    undue (codes "read 127.0.0.1 0 5 85") _ refl refl (refl, (refl, (refl, tt))) due

pub returns-clause-held : goal.returns-clause-held
unfolding Quiet
returns-clause-held c = λ timed some due. undue (codes "read 127.0.0.1 0 5 85") _ refl refl tt due

-- A run that stops at a bad line took it, and did nothing more. So after it no read was due.
pub returns-clause-read_on : goal.returns-clause-read_on
unfolding computed takes_next Quiet
returns-clause-read_on c = λ timed some runs.
    let acts = Took (codes "tick 1\n") ∷ [] in
    let same : runs.acts ≡ Took (codes "tick 1\n") ∷ [] = exactly runs (Took (codes "tick 1\n") ∷ []) (tt, tt)
    (fed runs (codes "tick 1\n") _ (Took (codes "tick 1\n") ∷ []) refl refl
    (one_line runs.takes.reading (codes "tick 1") [] refl (omega arith) refl)) refl (λ act due. due) (λ wrote. cc) in
    elim (runs.read) as (λ _. ⊥) [
      | inl (unread, _) ↦ let reads = ap (λ (reader : Checked ℕ). reader.reads) unread in absurd (cc)
      | inr due ↦ undue (codes "tick 1") _ same (sym runs.takes.gave.passed) (refl, tt) due
    ]

-- ---- what is written

-- In a list of one act, this act is the first.
first_alone : (act : Act) (earlier later : List Act) (wait : Act) → act ∷ [] ≡ earlier ++ wait ∷ later → earlier ≡ []
first_alone act [] later wait is = refl
first_alone act (x ∷ []) later wait is = absurd (cc)
first_alone act (x ∷ y ∷ earlier) later wait is = absurd (cc)

pub returns-clause-out : goal.returns-clause-out
unfolding computed
returns-clause-out c = λ timed some earlier later wait waits is.
    subst (λ (acts : List Act). IsFrontOf (journal_of (one_by_one timed some) acts) (codes "client 3000 3 0\n"))
    (sym (first_alone (Passed 50 Silence) earlier later wait is)) ([], refl)

pub returns-clause-kept_back : goal.returns-clause-kept_back
unfolding computed
returns-clause-kept_back c = λ timed some out.
    let (rest, is) = out [] [] (Passed 50 Silence) (omega arith) refl in absurd (cc)

-- A run over a remark that did not stop for its writer did these acts.
remark_only : {timed : 0 < 3000} {some : 0 < 1} {after : Checked ℕ} {result : Result TraceEnd RunFault}
    (runs : Runs unknown unknown (one_by_one timed some) (fresh 0) (drained (codes "# x\n")) (fresh 0) after
    (link_with []) (link_with []) result) → result ≢ Err (Script WriteFailed)
    → runs.acts ≡ remark_acts
unfolding computed
remark_only runs wrote =
    exactly runs remark_acts (tt, (tt, ((refl, refl, refl), tt)))
    (fed runs (codes "# x\n") AtEnd _ refl (at_end runs refl) remark_feeds) refl (λ act due. due) wrote

remark_told : (timed : 0 < 3000) (some : 0 < 1)
    → journal_of (one_by_one timed some) remark_acts ≡ remark_text
unfolding computed
remark_told timed some = refl

-- The text of such a run.
remark_printed : {printed : List ℕ} → IsRunOf (codes "# x\n") printed []
    → (rest : List ℕ) × (rest ≡ []) × (remark_text ≡ octets_of (filled printed) ++ rest)
remark_printed (timed, some, runs) =
    let prints = runs.printed in
    let acts = remark_only runs (λ is. cc) in (
      prints.rest,
      (prints.sound refl).1,
      sym (remark_told timed some) ∙ ap (λ (xs : List Act). journal_of (one_by_one timed some) xs) (sym acts)
          ∙ prints.whole ∙ ap (λ (taken : List ℕ). taken ++ prints.rest) (sym prints.took.passed),
    )

pub returns-clause-printed_otherwise : goal.returns-clause-printed_otherwise
returns-clause-printed_otherwise c = λ run.
    let (rest, none, is) = remark_printed run in
    let retries : 48 ≡ 49 = ap (λ (text : List ℕ). get_or text 14 0) is in omega (arith, retries)

pub returns-clause-unclosed : goal.returns-clause-unclosed
unfolding computed
returns-clause-unclosed c = λ run. let (rest, none, is) = remark_printed run in absurd (cc)

pub returns-clause-ended_otherwise : goal.returns-clause-ended_otherwise
unfolding computed
returns-clause-ended_otherwise c = λ timed some runs.
    let ends = rw (remark_only runs (λ is. cc)) at runs.ends in absurd (cc)

-- ---- times and settings that are too long

pub returns-clause-past_the_clock : goal.returns-clause-past_the_clock
unfolding computed
returns-clause-past_the_clock c = λ text (timed, some, runs).
    let (act, more, is, due) = beyond runs (to_ask (2 ^ 64) ++ Told (2 ^ 64) ∷ []) (tt, (tt, (refl, tt)))
    (fed runs read_line _ _ refl refl (request_feeds runs.takes.reading [] refl)) (Offered desk octets true) _ refl in
    let fits = rw is at runs.fit in omega (arith, fits.1.1.0)

pub returns-clause-too_slow : goal.returns-clause-too_slow
unfolding computed
returns-clause-too_slow c = λ timed some text runs. let is = runs.settings.says in absurd (cc)

-- ---- a wait before the request is written

-- The acts before the wait, and their journal.
abbrev waiting_acts : List Act
waiting_acts = to_ask 0 ++ asked ∷ handed ∷ Read 5 ∷ []

abbrev journal_so_far : List ℕ
journal_so_far =
    codes "client 3000 3 0\nread 127.0.0.1 0 5 85\n# send 0 127.0.0.1:47808 810a001101040005010c0c000000051955\n"

told_so_far : (timed : 0 < 3000) (some : 0 < 1) → journal_of (one_by_one timed some) waiting_acts ≡ journal_so_far
unfolding computed
told_so_far timed some = refl

-- The next act is a wait of 50 milliseconds, before which all output must be written.
wants_out : (act : Act) (more : List Act) → IsDue 3000 (stage_after 3000 start waiting_acts) act
    → calls_of (waiting_acts ++ act ∷ more) ≡ calls_of waiting_acts ++ Waited 50 Silence ∷ [] → WantsOut act
unfolding computed
wants_out = grind (arith, append_assoc, append-nil)

pub returns-clause-waited_unprinted : goal.returns-clause-waited_unprinted
unfolding computed
returns-clause-waited_unprinted c = λ timed some runs.
    let (act, more, is, due) = beyond runs waiting_acts (tt, (tt, ((refl, refl, refl), ((refl, refl), (tt, tt)))))
    (fed runs read_line _ _ refl refl (request_feeds runs.takes.reading [] refl)) (Waited 50 Silence) [] refl in
    let (rest, whole) = runs.out waiting_acts more act (wants_out act more due (ap calls_of (sym is) ∙ calls_are runs))
    is in
    let more : 0 ≡ 114 = ap (λ (text : List ℕ). get_or text 16 0)
    (whole ∙ ap (λ (text : List ℕ). text ++ rest) (told_so_far timed some)) in
    omega (arith, more)
