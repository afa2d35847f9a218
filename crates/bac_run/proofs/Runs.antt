-- The first part of a run, and where the run stops.
use Rattle.std.proofs.Common.{[], ap, append-nil, append_assoc, arith, drop, Err, false, IfOk, inl, inr, length}
use Rattle.std.proofs.Common.{length-append, List, Ok, Option, refl, Result, Some, subst, suc, sym, take}
use Rattle.std.proofs.Common.{take-append-drop, ℕ, ◌++◌, ◌+◌, ◌<◌, ◌∙◌, ◌∷◌, ◌≡◌, ◌≢◌, ◌⊎◌}
use Rattle.std.proofs.lemmas.{Bool.Decides.nat_tests, List.{append_cancel_left, Concat.flat_map-append}}
use Rattle.{std.specs.List.{AllByRecursion, concat}, bac_tsm.specs.Client.Client, bac_print.proofs.Printed.folded_out}
use Rattle.bac_print.{proofs.Printed.{Gave-none, ◌⨾◌}, specs.{folded_line, Gave, has_failed, held, last_of, Prints}}
use Rattle.{bac_print.specs.{room_of, writer_of, Writes, Page.Wrote}, bac_script.specs.ReaderStands}
use Rattle.bac_script.specs.{declared.tracing.TraceFault.TheVariants.WriteFailed, NextLine.{IsNext, ReadForLine}}
use Rattle.{bac_script.specs.NextLine.TakesAndKeeps, bac_links.specs.{Account, declared.datagram.Datagram.Datagram}}
use Rattle.bac_run.proofs.{Acts.failed, Cut.{cut_next, Cuts, feeds_open, feeds_then, feeds_whole, lines_fed}}
use Rattle.bac_run.proofs.{Cut.{none_whole, stands_on}, Out.{out_behind, out_whole, passed_before, passed_on}}
use Rattle.bac_run.proofs.{Out.passed_turned, Parts.{more_acts, went_at, went_failed, went_from, went_more, went_none}}
use Rattle.bac_run.proofs.Parts.{went_nothing, went_still, went_stopped, went_to, went_took, went_turned}
use Rattle.bac_run.{proofs.Todo.done_so, specs.{Act, acts_of_line, Aim, aims_for, AllDone, AreSettings, AtEnd, Checked}}
use Rattle.bac_run.specs.{ending, Ends, EndsAt, Failed, fault_of_line, Feeds, feeds_in, first_stage, Goes, IsGood}
use Rattle.bac_run.specs.{IsOver, IsOverAt, IsReadWhenDue, journal_lines, lines_in, new_client, NextLine, Open, open_in}
use Rattle.bac_run.specs.{Page, ReadFailed, Reading, room_for, RunFault, Runs, settings_line, Setup, Stage, stage_by}
use Rattle.bac_run.specs.{taking, Took, TraceEnd, WantsLine, write_failed, declared.turns.Runner.Runner, Inner.ComesTo}
use Rattle.bac_run.specs.Inner.{done, HasPassed, IsOfWait, RunsOn, started, stopped, Went.Went}

-- A run at its beginning.
abbrev start : Setup → Client
start setup = new_client setup.config.timeout setup.config.retries 0

abbrev pub begins : Setup → Datagram → Runner
begins setup datagram = record { setup = setup; client = start setup; datagram = datagram; since_told = 0 }

-- The writer took the settings and the journal of these acts.
abbrev pub HasTold : {W : Type 0} → Setup → Page W → Checked W → List Act → Type 0
HasTold setup page after acts = HasPassed page after (journal_lines setup acts)

-- The settings were printed, lines were taken, and their acts were done; a line is taken next. Reading has this state,
-- and some octets of the reader are held. The input was read only when that was due.
pub record SoFar {Origin R W : Type 0} (remaining : R → Option (List ℕ)) (contents : W → Option (List ℕ))
    (setup : Setup) (run : Runner) (reader reader' : Checked R) (held : List ℕ) (page page' : Page W)
    (seen left : Account Origin) (count : ℕ) (reading : Reading) : Type 0 where
  pub datagram : Datagram
  pub first : Page W
  pub settings : Prints contents page first (settings_line setup.config.timeout setup.config.retries)
  pub feeds : List Act
  pub went : Went contents (begins setup datagram) run first page' seen left (λ (u : Unit {0}). first_stage setup)
      (λ (u : Unit {0}). started run (NextLine setup.window count ∷ [])) done feeds
  pub few : open_in run.client < run.setup.window
  pub given : List ℕ
  pub gave : Gave remaining reader reader' given
  pub fed : Feeds reading given held feeds
  pub read : IsReadWhenDue setup reader reader' given went.acts (HasTold setup page (writer_of page'))
  pub good : AllByRecursion IsGood (lines_in feeds)
  pub counts : count ≡ length (lines_in feeds)
  pub stands : ReaderStands remaining reading reader reader' []

-- ---- reads

-- The last read was due, also with more acts and a later writer.
due_on : {R : Type 0} {setup : Setup} {reader reader' after : Checked R} {given octets : List ℕ}
    {acts all : List Act} {IsPast IsPast' : List Act → Type 0} (more : List Act) → all ≡ acts ++ more
    → after ≡ reader' → octets ≡ given → ((earlier : List Act) → IsPast earlier → IsPast' earlier)
    → IsReadWhenDue setup reader reader' given acts IsPast → IsReadWhenDue setup reader after octets all IsPast'
due_on = grind (arith, append_assoc, append-nil)

gave_more : {R : Type 0} {remaining : R → Option (List ℕ)} {a b c : Checked R} {xs ys : List ℕ}
    → Gave remaining a b xs → Gave remaining b c ys → Gave remaining a c (xs ++ ys)
gave_more = grind (arith, append_assoc)

passed_later : {W : Type 0} {contents : W → Option (List ℕ)} {page p q : Page W} {text more : List ℕ}
    → Prints contents p q text → HasPassed page (writer_of p) more → HasPassed page (writer_of q) more
unfolding Wrote
passed_later {page} {p} {q} printed passed = passed_on page p (writer_of q) passed printed.wrote.writes

-- ---- lines

lines_of : (acts feeds : List Act) → feeds_in acts ≡ feeds → lines_in acts ≡ lines_in feeds
lines_of acts feeds is = sym (lines_fed acts) ∙ ap lines_in is

lines_push : (xs ys : List Act) → lines_in (xs ++ ys) ≡ lines_in xs ++ lines_in ys
lines_push = grind (arith, flat_map-append)

all_append : (xs ys : List (List ℕ)) → AllByRecursion IsGood xs → AllByRecursion IsGood ys
    → AllByRecursion IsGood (xs ++ ys)
all_append [] ys all more = more
all_append (x ∷ xs) ys (here, all) more = (here, all_append xs ys all more)

same_aims : (o o' : Option (List Act)) (window window' n : ℕ) (line other : List ℕ) → o ≡ o' → window ≡ window'
    → ((k : ℕ) → fault_of_line k line ≡ fault_of_line k other)
    → aims_for o window (suc n) line [] ≡ aims_for o' window' (n + 1) other []
same_aims = grind (arith, append_assoc, append-nil)

-- A fault that may come while requests are open does not depend on them.
pub over_wait : (fault : RunFault) (client : Client) → IsOfWait fault → IsOverAt fault client
over_wait = grind (arith, append_assoc, append-nil)

-- ---- the end of a run

ends_so : (run : Runner) (count : ℕ) (result : Result TraceEnd RunFault) (stage : Stage)
    → ComesTo result (started run (Ends (Ok (record { lines = count })) ∷ [])) stage
    → IfOk result (λ end. end.lines ≡ count) → EndsAt result stage
ends_so = grind (arith, append_assoc, append-nil)

whole_so : (count : ℕ) (result : Result TraceEnd RunFault) (all ls more : List (List ℕ)) (left : List ℕ)
    → all ≡ ls ++ more → AllByRecursion IsGood ls → count ≡ length ls → IfOk result (λ end. end.lines ≡ count)
    → IfOk result (λ end. (more ≡ []) × (left ≡ []))
    → IfOk result (λ end. AllByRecursion IsGood all × (left ≡ []) × (end.lines ≡ length all))
whole_so = grind (arith, append_assoc, append-nil)

-- A run that is over may also have the result that the writer failed.
stays : (setup : Setup) (acts : List Act) (kept : List ℕ) (client : Client) (result end : Result TraceEnd RunFault)
    → (end ≡ result) ⊎ (end ≡ Err write_failed) → Goes setup.config.timeout (first_stage setup) acts
    → AllDone result (lines_in acts) kept acts → EndsAt result (stage_by setup acts) → IsOver result client
    → AllDone end (lines_in acts) kept acts × EndsAt end (stage_by setup acts) × IsOver end client
stays setup acts kept client result end (inl same) goes all ends over = rw same (all, ends, over)
stays setup acts kept client result end (inr cut) goes all ends over =
    rw cut (done_so setup acts (Err write_failed) kept goes tt tt, tt, tt)

module _ {Origin R W : Type 0} {remaining : R → Option (List ℕ)} {contents : W → Option (List ℕ)} {setup : Setup}
  where
    -- At the beginning no line was taken.
    pub so_far_none : {page first : Page W} (run : Runner) (reader : Checked R) (seen : Account Origin) {held : List ℕ}
        → Prints contents page first (settings_line setup.config.timeout setup.config.retries)
        → run.setup ≡ setup → run.client ≡ start setup → run.since_told ≡ 0 → has_failed reader ≡ false → held ≡ []
        → SoFar remaining contents setup run reader reader held page first seen seen 0 Open
    so_far_none {first} run reader seen printed same is none sound empty = record {
      datagram = run.datagram;
      first = first;
      settings = printed;
      feeds = [];
      went = went_still (begins setup run.datagram) run first seen same is
          (λ u. rw (is, none) (grind (arith, nat_tests)));
      few = rw (same, is) setup.some;
      given = [];
      gave = Gave-none _;
      fed = sym empty;
      read = inl (refl, refl);
      good = tt;
      counts = refl;
      stands = record { sound = sound; unended = refl };
    }

    -- The run stops after the first part, and one more.
    module _ {reader reader' : Checked R} {now : List ℕ} {page q : Page W} {s u : Account Origin} {d : Runner}
        {e : Runner} {r : Page W} {v : Account Origin} {count : ℕ} {reading : Reading}
        (f : SoFar remaining contents setup d reader reader' now page q s u count reading) where
      stops : {ys : List Act} (left : List ℕ) (result : Result TraceEnd RunFault) (last : Went contents d e q r u v
          (λ (u : Unit {0}). started d (NextLine setup.window count ∷ []))
          (λ (u : Unit {0}). started e (Ends (Ok (record { lines = count })) ∷ [])) result ys)
          → Feeds reading now left ys → IsOver result e.client → IfOk result (λ end. end.lines ≡ count)
          → IfOk result (λ end. (lines_in ys ≡ []) × (left ≡ []))
          → RunsOn remaining contents setup reader reader' page r s v result
      stops {ys} left result last more over counted none =
          let all = went_more f.went last in
          let ends = ends_so e count result _ (all.comes tt) counted in
          record {
            acts = all.acts;
            takes = record {
              given = f.given;
              kept = left;
              reading = reading;
              gave = f.gave;
              stands = f.stands;
              feeds = subst (λ (xs : List Act). Feeds reading f.given left xs) (sym all.takes)
                  (feeds_then reading f.feeds ys f.given now left f.fed more);
              all_done = done_so setup all.acts result left (all.goes tt) ends
                  (whole_so count result (lines_in all.acts) (lines_in f.feeds) (lines_in ys) left
                  (lines_of all.acts (f.feeds ++ ys) all.takes ∙ lines_push f.feeds ys) f.good f.counts counted none);
            };
            goes = all.goes tt;
            ends = ends;
            read = due_on _ (more_acts f.went last) refl refl (λ earlier passed. passed_later last.prints passed)
                f.read;
            prints = f.settings ⨾ all.prints;
            out = out_behind (start setup) page f.first r f.settings all.out;
            asks = all.asks;
            over = subst (λ (client : Client). IsOver result client) all.client_is over;
            within = all.within;
            fit = all.fit;
          }

    -- The run ends because no line is left.
    pub ends_well : {reader reader' : Checked R} {now : List ℕ} {page q r : Page W} {s u v : Account Origin}
        {d e : Runner} {count : ℕ} → SoFar remaining contents setup d reader reader' now page q s u count AtEnd
        → (result : Result TraceEnd RunFault) → now ≡ []
        → Went contents d e q r u v (λ later. started d (ending (Ok (record { lines = count })) later))
        (λ later. started e (Ends (Ok (record { lines = count })) ∷ later)) result []
        → IfOk result (λ end. end.lines ≡ count) → IsOver result e.client
        → RunsOn remaining contents setup reader reader' page r s v result
    ends_well {q} {u} {d} f result none last counted over =
        stops f [] result
        (went_more (went_none d q u AtEnd (λ u. tt) (λ u. refl)) (went_at (λ (u : Unit {0}). []) last))
        (refl, none, none) over counted (grind (arith, counted))

    -- ---- the next line

    module _ {reader middle reader' : Checked R} {held now : List ℕ} {page p q : Page W} {s u : Account Origin}
        {d : Runner} {count : ℕ} (f : SoFar remaining contents setup d reader middle held page p s u count Open)
        (given : TakesAndKeeps remaining middle reader' held now []) (turned : Prints contents p q [])
        (needed : ReadForLine middle reader' p q held now) where
      -- The reader was read on, if that was due.
      pub reads_on : (reading : Reading) (kept : List ℕ) → ReaderStands remaining reading middle reader' kept
          → SoFar remaining contents setup d reader reader' now page q s u count reading
      reads_on reading kept stands = record {
        datagram = f.datagram;
        first = f.first;
        settings = f.settings;
        feeds = f.feeds ++ [];
        went = went_more f.went here;
        few = f.few;
        given = f.given ++ given.given;
        gave = gave_more f.gave given.gave;
        fed = feeds_then reading f.feeds [] _ _ now (feeds_open reading f.feeds f.given held given.given f.fed)
            given.order;
        read = go needed;
        good = rw append-nil f.good;
        counts = rw append-nil f.counts;
        stands = stands_on remaining reader middle reader' reading kept f.stands stands;
      }
        where
          here : Went contents d d p q u u (λ (u : Unit {0}). started d (NextLine setup.window count ∷ []))
              (λ (u : Unit {0}). started d (NextLine setup.window count ∷ [])) done []
          here = went_turned turned (went_nothing d q u _)

          go : ReadForLine middle reader' p q held now → IsReadWhenDue setup reader reader' (f.given ++ given.given)
              (went_more f.went here).acts (HasTold setup page (writer_of q))
          go (inl unread) =
              due_on _ (more_acts f.went here) unread.same
              (ap (λ (os : List ℕ). f.given ++ os) (append_cancel_left held given.given []
              (given.order ∙ unread.kept ∙ sym (append-nil held))) ∙ append-nil f.given)
              (λ earlier passed. passed_later turned passed) f.read
          go (inr on) = inr (record {
            before = f.given ++ on.last.before;
            held = held ++ on.last.before;
            earlier = f.went.acts;
            later = here.acts;
            order = ap (λ (os : List ℕ). f.given ++ os)
                (append_cancel_left held given.given (on.last.before ++ last_of reader')
                (given.order ∙ on.last.order ∙ append_assoc held on.last.before (last_of reader')))
                ∙ sym (append_assoc f.given on.last.before (last_of reader'));
            did = more_acts f.went here;
            took = ap (λ (os : List ℕ). os ++ on.last.before) (feeds_whole Open f.feeds f.given held f.fed)
                ∙ append_assoc (concat (lines_in f.feeds)) held on.last.before
                ∙ ap (λ (ls : List (List ℕ)). concat ls ++ (held ++ on.last.before))
                (sym (lines_of f.went.acts f.feeds f.went.takes));
            no_line = (on.last.no_feed, on.last.short);
            wanted = subst (λ (stage : Stage). WantsLine setup stage) (sym (f.went.comes tt))
                (count, refl, refl, rw f.went.same at f.few);
            told = rw append-nil at (passed_before (f.settings ⨾ f.went.prints) (passed_turned on.turned_in));
          })

      -- The writer fails before more is read.
      pub stops_unread : ReaderStands remaining Open middle reader' now
          → RunsOn remaining contents setup reader reader' page q s u (Err write_failed)
      stops_unread stands =
          stops (reads_on Open now stands) now (Err write_failed)
          (went_stopped TraceEnd d q u _ (λ (u : Unit {0}). started d (Ends (Ok (record { lines = count })) ∷ []))
          WriteFailed (λ u. tt)) refl tt tt tt

      -- The run stops because the reader failed.
      pub stops_reading : {n : ℕ} {e : Runner} {r : Page W} {v : Account Origin} (fault : RunFault)
          → IsNext remaining middle reader' now Failed n
          → Went contents d e q r u v (λ later. started d (ending (Err ReadFailed) later))
          (λ later. started e later) (stopped fault) [] → IsOver (failed TraceEnd fault) e.client
          → RunsOn remaining contents setup reader reader' page r s v (failed TraceEnd fault)
      stops_reading {n} fault next last over =
          stops (reads_on Failed (drop n now) next.stands) now (failed TraceEnd fault)
          (went_more (went_none d q u Failed (λ u. tt) (λ u. refl))
          (went_failed TraceEnd fault (went_at (λ (u : Unit {0}). []) last))) (refl, none_whole next, refl) over tt tt

      module _ {reading : Reading} {n : ℕ} {line : List ℕ} (next : IsNext remaining middle reader' now reading n)
          (sure : reading ≢ Failed) (some : n ≡ 0 → ⊥) (is : line ≡ take n now) where
        abbrev cut : Cuts reading (take n now) (drop n now)
        cut = cut_next reading next sure some

        abbrev f' : SoFar remaining contents setup d reader reader' now page q s u count reading
        f' = reads_on reading (drop n now) next.stands

        front_is : acts_of_line cut.front ≡ acts_of_line line
        front_is = cut.same ∙ ap acts_of_line (sym is)

        split : now ≡ cut.front ++ (cut.rest ++ drop n now)
        split = sym (take-append-drop n now) ∙ ap (λ (os : List ℕ). os ++ drop n now) cut.split
            ∙ append_assoc cut.front cut.rest (drop n now)

        -- What the line asks for was done, as far as this result says.
        abbrev Did : {A : Type 0} → Runner → Page W → Account Origin → Result A RunFault → Type 0
        Did e r v result =
            Went contents d e q r u v
            (λ later. started d (aims_for (acts_of_line line) d.setup.window (count + 1) line later))
            (λ later. started e (taking d.setup.window (count + 1) later)) result []

        -- Then the run waited for room.
        abbrev Waited : {A : Type 0} → (e g : Runner) (r m : Page W) (v w : Account Origin) → Result A RunFault → Type 0
        Waited e g r m v w result =
            Went contents e g r m v w (λ later. started e (room_for e.setup.window ∷ later))
            (λ later. started g later) result []

        -- The line was taken before.
        abbrev Has : {A : Type 0} → Runner → Page W → Account Origin → List Aim → Result A RunFault → Type 0
        Has e r v later result =
            Went contents d e q r u v (λ (u : Unit {0}). started d (NextLine setup.window count ∷ []))
            (λ (u : Unit {0}). started e later) result (Took cut.front ∷ [])

        took : {A : Type 0} {e : Runner} {r : Page W} {v : Account Origin} {result : Result A RunFault}
            → Did e r v result → Has e r v (taking d.setup.window (count + 1) []) result
        took did =
            went_more (went_took d q u cut.front (λ u. tt)
            (λ u. ap (λ (aims : List Aim). started d aims) (same_aims (acts_of_line cut.front) (acts_of_line line)
            setup.window d.setup.window count cut.front line front_is
            (ap (λ (x : Setup). x.window) (sym f.went.same))
            (λ k. cut.alike k ∙ ap (λ (os : List ℕ). fault_of_line k os) (sym is)))) f.few)
            (went_at (λ (u : Unit {0}). []) did)

        roomy : {A : Type 0} {e g : Runner} {r m : Page W} {v w : Account Origin} {result : Result A RunFault}
            → Did e r v done → Waited e g r m v w result → Has g m w (NextLine d.setup.window (count + 1) ∷ []) result
        roomy {e} did waited =
            went_more (took did) (went_at (λ (u : Unit {0}). NextLine d.setup.window (count + 1) ∷ [])
            (went_from (λ later. ap (λ (x : Setup). started e (room_for x.window ∷ later)) (sym did.same)) waited))

        -- The run stops at a line.
        pub stops_line : {e : Runner} {r : Page W} {v : Account Origin} (fault : RunFault)
            → Did e r v (failed (Unit {0}) fault) → IsOver (failed TraceEnd fault) e.client
            → RunsOn remaining contents setup reader reader' page r s v (failed TraceEnd fault)
        stops_line fault did over =
            stops f' (cut.rest ++ drop n now) (failed TraceEnd fault) (went_failed TraceEnd fault (took did))
            (cut.rest ++ drop n now, split, cut.whole, refl) over tt tt

        -- The run stops after a line, in a wait.
        pub stops_behind : {e g : Runner} {r m : Page W} {v w : Account Origin} (fault : RunFault) → Did e r v done
            → Waited e g r m v w (failed (Unit {0}) fault) → IsOver (failed TraceEnd fault) g.client
            → RunsOn remaining contents setup reader reader' page m s w (failed TraceEnd fault)
        stops_behind fault did waited over =
            stops f' (cut.rest ++ drop n now) (failed TraceEnd fault) (went_failed TraceEnd fault (roomy did waited))
            (cut.rest ++ drop n now, split, cut.whole, refl) over tt tt

        -- One more line was run.
        pub so_far_more : {e g : Runner} {r m : Page W} {v w : Account Origin} → IsGood line → Did e r v done
            → Waited e g r m v w done → open_in g.client < g.setup.window
            → SoFar remaining contents setup g reader reader' (drop n now) page m s w (count + 1) reading
        so_far_more {g} good did waited few =
            let last = went_to (λ (u : Unit {0}). ap (λ (x : Setup). started g (NextLine x.window (count + 1) ∷ []))
            f.went.same) (roomy did waited) in
            let all : IsGood cut.front = λ none. good (sym front_is ∙ none) in
            let rest = cut.all (λ none. good (ap acts_of_line is ∙ none)) in
            let lines = lines_push f'.feeds (Took cut.front ∷ []) in
            record {
              datagram = f'.datagram;
              first = f'.first;
              settings = f'.settings;
              feeds = f'.feeds ++ Took cut.front ∷ [];
              went = went_more f'.went last;
              few = few;
              given = f'.given;
              gave = f'.gave;
              fed = feeds_then reading f'.feeds (Took cut.front ∷ []) f'.given now (drop n now) f'.fed
                  (cut.rest ++ drop n now, split, cut.whole, ap (λ (os : List ℕ). os ++ drop n now) rest);
              read = due_on _ (more_acts f'.went last) refl refl (λ earlier passed. passed_later last.prints passed)
                  f'.read;
              good = subst (λ (ls : List (List ℕ)). AllByRecursion IsGood ls) (sym lines)
                  (all_append (lines_in f'.feeds) (cut.front ∷ []) f'.good (all, tt));
              counts = omega (
                arith,
                f'.counts,
                ap (λ (ls : List (List ℕ)). length ls) lines,
                length-append (lines_in f'.feeds) (cut.front ∷ []),
              );
              stands = f'.stands;
            }

    -- At the end the rest of the page is written, or the writer fails, and the result is that it failed.
    pub goes_out : {reader reader' : Checked R} {first last : Page W} {writer after back : Checked W}
        {s t : Account Origin} {result end : Result TraceEnd RunFault} → (end ≡ result) ⊎ (end ≡ Err write_failed)
        → after ≡ back → RunsOn remaining contents setup reader reader' first last s t result → AreSettings setup
        → writer_of first ≡ writer → held first ≡ [] → room_of first ≡ Some folded_line
        → Writes contents (writer_of last) after (held last) [] []
        → Runs remaining contents setup reader reader' writer back s t end
    goes_out {first} {last} {writer} {after} {back} {result} {end} which is runs settings same empty folds gone =
        let (all_done, ends, over) = stays setup runs.acts runs.takes.kept _ result end which runs.goes
        runs.takes.all_done runs.ends runs.over in
        let told = λ (earlier : List Act) (passed : HasTold setup first (writer_of last) earlier).
        out_whole {text = journal_lines setup earlier} same empty folds (passed_on first last after passed gone) in
        record {
          acts = runs.acts;
          takes = record {
            given = runs.takes.given;
            kept = runs.takes.kept;
            reading = runs.takes.reading;
            gave = runs.takes.gave;
            stands = runs.takes.stands;
            feeds = runs.takes.feeds;
            all_done = all_done;
          };
          goes = runs.goes;
          ends = ends;
          read = due_on [] (sym (append-nil runs.acts)) refl refl (λ earlier passed. rw is at (told earlier passed))
              runs.read;
          printed = rw is at (folded_out same empty folds runs.prints gone);
          out = λ earlier later wait waits split. rw is at (told earlier (runs.out earlier later wait waits split));
          asks = runs.asks;
          over = over;
          within = runs.within;
          fit = runs.fit;
          settings = settings;
        }
