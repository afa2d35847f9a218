-- The course of a script, line after line: its text is that of the look-ahead and a function of its octets; the state
-- between two lines, and where it stops.
pub mod Chunks
use Rattle.std.proofs.Common.{[], ap, append-nil, append_assoc, arith, Bool, drop, eqb-true, Err, false, IfOk, IfSome}
use Rattle.std.proofs.Common.{if◌then◌else◌, inl, inr, length, length-append, List, MatchOption, None, Ok, ok_or}
use Rattle.std.proofs.Common.{Option, option_map, refl, Result, slice_get, Some, subst, suc, sym, take}
use Rattle.std.proofs.Common.{take-append-drop, true, zero, ℕ, ◌&&◌, ◌++◌, ◌+◌, ◌<◌, ◌==◌, ◌∙◌, ◌∷◌, ◌≡◌, ◌≢◌, ◌≤◌, ◌⊎◌}
use Rattle.std.proofs.lemmas.{Bool.{cases_Bool, eqb-false}, List.append_cancel_right}
use Rattle.std.specs.{Option.option_map_or, Prelude.⊤, Result.result_ok}
use Rattle.{bac_pdu.specs.Station, bac_tsm.proofs.Laws.{back_late, begins, by_invoke_id, few_open, one_step}}
use Rattle.bac_tsm.specs.{client_rules, Event, new_client, Note, state_at, Client.Client}
use Rattle.bac_tsm.specs.{Laws.InvokeIdsComeBackLate, Limits.table_size, Lookahead.output}
use Rattle.bac_device.specs.{demo_points, DeviceState, replies_to, Write}
use Rattle.bac_print.proofs.Printed.{finished, Gave-none, prints_nothing, ◌⨾◌}
use Rattle.bac_print.specs.{ends_of, fresh, has_failed, held as on_page, last_of, octets_of, Prints, reads_of, room_of}
use Rattle.bac_print.specs.{writer_of, Writes, Page.{laid_out, Wrote}}
use Rattle.bac_script.specs.{all_said, AreAlike, arrivals_in, Asks, AtEnd, BadLine, Blank, Checked, empty_reads, EndsAs}
use Rattle.bac_script.specs.{events_in, Failed, fault_at, fault_from, fault_or, first_fault, GaveFront, GaveSame}
use Rattle.bac_script.specs.{Happens, HasNoFeed, is_nothing, IsFrontOf, IsLineCut, IsToldFirst, IsWrittenOf}
use Rattle.bac_script.specs.{LastIsNeeded, line_room, LineFault, lines, LineTooLong, most_reads, notes_text}
use Rattle.bac_script.specs.{Open, Page, printed, ReaderStands, ReadFailed, ReadForLine, Reading, ReadsNoMore, Remark}
use Rattle.bac_script.specs.{requests_in, ScriptRuns, Said, said, said_by, said_from, said_in, Settings, small_device}
use Rattle.bac_script.specs.{TakesAndKeeps, text, text_of, text_of_line, TraceEnd, TraceFault, Traces, WriteFailed}
use Rattle.bac_script.specs.Inner.{device_with, HasNotEnded, ran, RunsOn, ScriptStage, Stands, writes_with}
use Chunks.*

-- The state of a script before its first line.
abbrev pub first_stage : ScriptStage
first_stage = record { client = new_client 3000 3 0; writes = [] }

-- The text of all lines from a state on.
abbrev pub text_from : ScriptStage → List Said → List ℕ
text_from stage [] = []
text_from stage (one ∷ later) = (ran stage one).text ++ text_from (ran stage one).after later

-- The line does not have settings.
abbrev IsOther : Said → Type 0
IsOther (Settings timeout retries first_ticket) = ⊥
IsOther _ = Unit {0}

-- Only the first line that is not blank or a remark has settings, if the flag says that such a line is to come.
abbrev pub SettingsFirst : List Said → Bool → Type 0
SettingsFirst [] _ = Unit {0}
SettingsFirst (one ∷ later) true = SettingsFirst later (is_nothing one)
SettingsFirst (one ∷ later) false = IsOther one × SettingsFirst later false

drop_next : (events : List Event) (n : ℕ) (event : Event) (later : List Event) → drop n events ≡ event ∷ later →
    (slice_get events n ≡ Some event) × (drop (suc n) events ≡ later)
drop_next [] zero event later e = absurd (cc)
drop_next [] (suc n) event later e = absurd (cc)
drop_next (x ∷ events) zero event later e = grind arith
drop_next (x ∷ events) (suc n) event later e = drop_next events n event later e

-- The replies of a script's device after these writes.
abbrev replies_after : List Write → List Said → List (Option (Station × List ℕ))
replies_after writes all = replies_to small_device demo_points writes (arrivals_in all)

module _ (timeout retries first_ticket : ℕ) (events : List Event) where
  -- The state at a position of the events, after these writes.
  abbrev stage_at : ℕ → List Write → ScriptStage
  stage_at n writes = record {
    client = record {
      timeout = timeout;
      retries = retries;
      state = state_at (client_rules timeout retries) first_ticket events n;
    };
    writes = writes;
  }

  -- The notes at a position.
  abbrev notes : ℕ → List Note
  notes = output (client_rules timeout retries) first_ticket events

  pub prints_output : (n : ℕ) (writes : List Write) (all : List Said) → SettingsFirst all false
      → drop n events ≡ events_in all →
      text_from (stage_at n writes) all ≡ printed notes n all (replies_after writes all)
  prints_output n _ [] h e = refl
  prints_output n writes (Blank ∷ later) (_, none) e = prints_output n writes later none e
  prints_output n writes (Remark ∷ later) (_, none) e = prints_output n writes later none e
  prints_output n _ (Settings t r f ∷ _) (other, _) e = absurd other
  prints_output n writes (Happens event ∷ later) (_, none) e =
      let (here, behind) = drop_next _ n _ _ e in
      let now = one_step (client_rules timeout retries) first_ticket events (by_invoke_id timeout retries) few_open n
      event here in
      rw now (ap (λ (xs : List ℕ). notes_text (notes n) ++ xs) (prints_output (suc n) writes later none behind))
  prints_output n writes (Asks arrival ∷ later) (_, none) e =
      grind (arith, prints_output n (writes_with writes arrival) later none e)

  pub prints_all : (all : List Said) → SettingsFirst all false → events ≡ events_in all →
      text_from (record { client = new_client timeout retries first_ticket; writes = [] }) all
      ≡ printed notes 0 all (replies_after [] all)
  prints_all all h e =
      rw (begins (client_rules timeout retries) first_ticket events (by_invoke_id timeout retries) few_open)
      (prints_output 0 [] all h e)

-- The text of a script is what the machine prints.
pub text_is : (all : List Said) → SettingsFirst all true → text_of all ≡ text_from first_stage all
text_is [] h = refl
text_is (Blank ∷ later) h = text_is later h
text_is (Remark ∷ later) h = text_is later h
text_is (Settings t r f ∷ later) h = sym (prints_all t r f _ _ h refl)
text_is (one ∷ later) h = sym (prints_all 3000 3 0 _ (one ∷ later) (tt, h) refl)

-- Two requests of a script with the same invoke id have many others between them.
pub requests_late : (all : List Said) → InvokeIdsComeBackLate table_size (requests_in all)
requests_late all = grind (arith, back_late, few_open)

-- ---- only the first line that is not blank or a remark has settings

-- If an option is mapped to lines without settings, its line has no settings.
mapped_other : {A : Type 0} (say : A → Said) (found : Option A) → ((a : A) → IsOther (say a))
    → IfSome (option_map say found) IsOther
mapped_other = grind arith

either : (b : Bool) (x y : Option Said) → IfSome x IsOther → IfSome y IsOther → IfSome (if b then x else y) IsOther
either = grind arith

words_other : (words : List (List ℕ)) → IfSome (said_by false words) IsOther
words_other [] = tt
words_other (name ∷ others) = grind (arith, either, mapped_other)

found_other : (o : Option Said) (fault : LineFault) → IfSome o IsOther → IfOk (ok_or o fault) IsOther
found_other = grind arith

text_other : (r : Result (List ℕ) LineFault) → IfOk (said_in false r) IsOther
text_other (Err _) = tt
text_other (Ok text) = grind (arith, found_other, words_other)

settled_then : (s : Result Said LineFault) (is_first : Bool) (lines : List (List ℕ))
    → (is_first ≡ false → IfOk s IsOther) → ((first : Bool) → SettingsFirst (said_from first lines) first) →
    SettingsFirst (option_map_or (λ one. one ∷ said_from (is_first && is_nothing one) lines) (result_ok s) []) is_first
settled_then = grind arith

pub settled : (lines : List (List ℕ)) (is_first : Bool) → SettingsFirst (said_from is_first lines) is_first
settled [] _ = tt
settled (line ∷ lines) is_first =
    settled_then (said is_first line) is_first lines (λ no. rw no (text_other (text_of_line line))) (settled lines)

-- ---- the course of a script, line after line

-- The text, the fault of the first line that is bad or too long, and, if there is none, the number of all lines.
pub record Course : Type 0 where
  pub text : List ℕ
  pub fault : Option TraceFault
  pub count : ℕ

-- A text, and then the course of the later lines.
abbrev pub behind : List ℕ → Course → Course
behind front later = record { text = front ++ later.text; fault = later.fault; count = later.count }

pub behind_both : (xs ys : List ℕ) (later : Course) → behind xs (behind ys later) ≡ behind (xs ++ ys) later
behind_both = grind (arith, append_assoc)

-- The text of these lines from a state on.
abbrev text_on : ScriptStage → Bool → List (List ℕ) → List ℕ
text_on stage is_first all = text_from stage (said_from is_first all)

-- The course of these lines from a state on, if this number of lines came before them.
abbrev pub course : ScriptStage → Bool → ℕ → List (List ℕ) → Course
course stage is_first count all = record {
  text = text_on stage is_first all;
  fault = fault_from is_first (count + 1) all;
  count = count + length all;
}

-- The course of a script.
abbrev pub whole : List (List ℕ) → Course
whole all = course first_stage true 0 all

-- The course of a line with this meaning, and of the lines after it.
one_then : (stage : ScriptStage) (is_first : Bool) (count : ℕ) (line : List ℕ) (all : List (List ℕ)) (one : Said)
    → said is_first line ≡ Ok one → course stage is_first count (line ∷ all)
    ≡ behind (ran stage one).text (course (ran stage one).after (is_first && is_nothing one) (count + 1) all)
one_then stage is_first count line all one ok = grind (arith, ok)

pub runs_text : (all : List (List ℕ)) → (whole all).text ≡ text_of (all_said all)
runs_text all = sym (text_is (all_said all) (settled all true))

-- ---- the text of the first octets of a script is the beginning of its text

-- From each state on, the text of the first lines is the beginning of the text of the others.
abbrev FrontFrom : List (List ℕ) → List (List ℕ) → Type 0
FrontFrom some all = (stage : ScriptStage) (is_first : Bool)
    → IsFrontOf (text_on stage is_first some) (text_on stage is_first all)

one_line : (line : List ℕ) (some all : List (List ℕ)) → FrontFrom some all → FrontFrom (line ∷ some) (line ∷ all)
one_line line some all fronts stage is_first = go (said is_first line)
  where
    go : (s : Result Said LineFault) → IsFrontOf
        (text_from stage (option_map_or (λ one. one ∷ said_from (is_first && is_nothing one) some) (result_ok s) []))
        (text_from stage (option_map_or (λ one. one ∷ said_from (is_first && is_nothing one) all) (result_ok s) []))
    go (Ok one) =
        let front = fronts (ran stage one).after (is_first && is_nothing one) in grind (arith, front, append_assoc)
    go (Err _) = ([], refl)

-- Octets without a line feed have no text: they are not a line yet, or one that is too long.
no_line : (octets : List ℕ) (all : List (List ℕ)) → HasNoFeed octets → FrontFrom (lines octets Open) all
no_line octets all none stage is_first = rw (said-open is_first octets none) (text_on stage is_first all, refl)

-- The first of these octets have no line feed.
lines_front : (done octets more : List ℕ) (reading : Reading) → HasNoFeed done
    → FrontFrom (lines (done ++ octets) Open) (lines (done ++ (octets ++ more)) reading)
lines_front done [] more reading none = rw (append-nil done) (no_line done (lines (done ++ more) reading) none)
lines_front done (x ∷ xs) more reading none =
    elim (cases_Bool (x == 10)) [
      | inl feed ↦
          rw (
            eqb-true x 10 feed,
            ← append_assoc done (10 ∷ []) xs,
            ← append_assoc done (10 ∷ []) (xs ++ more),
            lines-ended done xs Open none,
            lines-ended done (xs ++ more) reading none,
          ) (one_line (done ++ 10 ∷ []) (lines xs Open) (lines (xs ++ more) reading)
          (lines_front [] xs more reading tt))
      | inr other ↦
          rw (← append_assoc done (x ∷ []) xs, ← append_assoc done (x ∷ []) (xs ++ more))
          (lines_front (done ++ x ∷ []) xs more reading (no_feed_on done (x ∷ []) none (eqb-false x 10 other, tt)))
    ]

pub text_front : (octets more : List ℕ) (reading : Reading)
    → IsFrontOf (text octets Open) (text (octets ++ more) reading)
text_front octets more reading =
    let (rest, whole) = lines_front [] octets more reading tt first_stage true in
    (rest, grind (arith, runs_text))

-- ---- a script is a function of its octets and of whether they ended

-- The number of times that reading met the end.
abbrev ends : Reading → ℕ
ends AtEnd = 1
ends Open = 0
ends Failed = 0

ends_are : {R : Type 0} (remaining : R → Option (List ℕ)) (reading : Reading) (reader : R) (reader' : Checked R)
    → ReaderStands remaining reading (fresh reader) reader' [] → ends_of reader' ≡ ends reading
ends_are = grind arith

same_lines : (octets : List ℕ) (reading other : Reading) → ends reading ≡ ends other
    → lines octets reading ≡ lines octets other
same_lines = grind arith

-- ---- one run

front_of : (octets : List ℕ) (reading : Reading) (written : List ℕ) (answer : Result TraceEnd TraceFault)
    → ScriptRuns octets reading written answer → IsFrontOf written (text octets reading)
front_of = grind (arith, append-nil)

-- ---- a run that could not read on

-- The fault is that of a line.
abbrev IsOfLine : TraceFault → Type 0
IsOfLine (BadLine n) = ⊤
IsOfLine (LineTooLong n) = ⊤
IsOfLine _ = ⊥

fault_of_line : (s : Result Said LineFault) (n : ℕ) (later : Said → Option TraceFault)
    → ((one : Said) → IfSome (later one) IsOfLine) → IfSome (fault_or n s later) IsOfLine
fault_of_line = grind arith

faults_of_lines : (is_first : Bool) (n : ℕ) (all : List (List ℕ)) → IfSome (fault_from is_first n all) IsOfLine
faults_of_lines is_first n [] = tt
faults_of_lines is_first n (line ∷ later) =
    fault_of_line (said is_first line) n _ (λ one. faults_of_lines _ (n + 1) later)

-- A run ends with `ReadFailed` only if its reader failed or its reads are spent.
pub read_fails : {R W : Type 0} {remaining : R → Option (List ℕ)} {contents : W → Option (List ℕ)}
    (reader reader' : Checked R) (writer writer' : Checked W)
    → Traces remaining contents reader reader' writer writer' (Err ReadFailed) →
    (has_failed reader' ≡ true) ⊎ (most_reads ≤ reads_of reader')
read_fails reader reader' writer writer' run =
    grind (arith, faults_of_lines true 1 (lines run.given run.reading))

-- ---- two runs

module _ (octets : List ℕ) (reading other : Reading) (alike : ends reading ≡ ends other) (written written' : List ℕ)
    (answer answer' : Result TraceEnd TraceFault)
    (runs : ScriptRuns octets reading written answer) (runs' : ScriptRuns octets other written' answer') where
  pub runs_alike : AreAlike written answer written' answer'
  runs_alike = record {
    text = text octets other;
    wrote = grind arith;
    other_wrote = grind arith;
    same = λ all all'. let same = same_lines octets reading other alike in grind (arith, same);
  }

module _ {R S V W : Type 0} {remaining : R → Option (List ℕ)} {remaining' : S → Option (List ℕ)}
    {contents : V → Option (List ℕ)} {contents' : W → Option (List ℕ)}
    (reader : R) (other_reader : S) (reader' : Checked R) (other_reader' : Checked S) (writer : V) (other_writer : W)
    (writer' : Checked V) (other_writer' : Checked W) (answer other_answer : Result TraceEnd TraceFault)
    (run : Traces remaining contents (fresh reader) reader' (fresh writer) writer' answer)
    (other : Traces remaining' contents' (fresh other_reader) other_reader' (fresh other_writer) other_writer'
    other_answer) where
  pub traces_alike : GaveSame reader' other_reader'
      → AreAlike (octets_of writer') answer (octets_of other_writer') other_answer
  traces_alike = grind (arith, ends_are, runs_alike)

  -- A run whose reader gave less, and did not end, wrote the beginning of the other's text.
  pub traces_front : GaveFront reader' other_reader' → (text : List ℕ) × IsFrontOf (octets_of writer') text
      × IsWrittenOf (octets_of other_writer') text other_answer
  traces_front less =
      let (unwritten, written) = front_of run.given run.reading run.written answer run.runs in
      let (ungiven, gave) = less.front in
      let (more, whole) = text_front run.given ungiven other.reading in
      let lines_are = same_lines run.given run.reading Open (grind arith) in
      let open_text : text run.given Open ≡ run.written ++ unwritten = grind arith in
      let given : other.given ≡ run.given ++ ungiven = grind arith in
      (text other.given other.reading, (unwritten ++ more, grind (arith, append_assoc)), grind arith)

-- ---- the state between two lines of a script, and where it stops

-- Text that was printed on an empty page was written, or is still held.
out_so_far : {W : Type 0} {contents : W → Option (List ℕ)} {page between : Page W} {printed : List ℕ}
    → Prints contents page between printed → on_page page ≡ [] → room_of page ≡ None
    → has_failed (writer_of between) ≡ false →
    octets_of (writer_of between) ++ on_page between ≡ octets_of (writer_of page) ++ printed
unfolding Wrote laid_out
out_so_far = grind (arith, append_assoc)

-- The course of each script that begins with these octets: this text, and then the course from this state on.
abbrev GoesOn : List ℕ → List ℕ → ScriptStage → Bool → ℕ → Type 0
GoesOn octets text stage is_first count =
    (more : List ℕ) (reading : Reading)
    → whole (lines (octets ++ more) reading) ≡ behind text (course stage is_first count (lines more reading))

-- Nothing was read, or the last read was needed.
abbrev IsNeeded : {R : Type 0} → Checked R → Checked R → List ℕ → Type 0
IsNeeded reader reader' given = ((reader' ≡ reader) × (given ≡ [])) ⊎ LastIsNeeded reader reader' given

-- The lines up to now were taken and run.
pub record SoFar {R W : Type 0} (remaining : R → Option (List ℕ)) (contents : W → Option (List ℕ))
    (reader reader' : Checked R) (held : List ℕ)
    (page page' : Page W) (count : ℕ) (is_first : Bool) (client : Client) (device : DeviceState) : Type 0 where
  pub octets : List ℕ
  pub text : List ℕ
  pub stage : ScriptStage
  pub taken : TakesAndKeeps remaining reader reader' [] held octets
  pub asked : reads_of reader' ≤ reads_of reader + length taken.given
  pub needed : IsNeeded reader reader' taken.given
  pub empty : on_page page ≡ []
  pub unfolded : room_of page ≡ None
  pub told : IsToldFirst reader' (writer_of page) (writer_of page') taken.given
  pub sound : has_failed reader' ≡ false
  pub unended : HasNotEnded reader reader'
  pub spared : ReadsNoMore reader reader'
  pub goes_on : GoesOn octets text stage is_first count
  pub kept : Stands stage client device
  pub printed : Prints contents page page' text

-- The course of the whole script, from the course of its lines so far.
goes_to : (octets line held text : List ℕ) (stage : ScriptStage) (is_first : Bool) (count : ℕ) (reading : Reading)
    (all : List (List ℕ)) → GoesOn octets text stage is_first count → lines (line ++ held) reading ≡ all
    → whole (lines ((octets ++ line) ++ held) reading) ≡ behind text (course stage is_first count all)
goes_to = grind (arith, append_assoc)

-- One more line is run.
goes_further : (octets line text : List ℕ) (stage : ScriptStage) (is_first is_first' : Bool) (count : ℕ) (one : Said)
    → GoesOn octets text stage is_first count → IsLineCut Open line →
    said is_first line ≡ Ok one → is_first' ≡ (is_first && is_nothing one)
    → GoesOn (octets ++ line) (text ++ (ran stage one).text) (ran stage one).after is_first' (count + 1)
goes_further _ line text _ is_first _ _ _ goes_on (inr c) ok still =
    grind (arith, said-whole_long)
goes_further octets line text stage is_first _ count one goes_on (inl c) ok still = λ more reading.
    let here = goes_to octets line more text stage is_first count reading (line ∷ lines more reading) goes_on
    (rw c.ended (lines-ended c.text more reading c.no_feed)) in
    let on = one_then stage is_first count line (lines more reading) one ok in
    rw still (here ∙ ap (behind text) on ∙ behind_both text (ran stage one).text _)

-- The line that was taken is the next line of the script.
pub NextLine-from : {R : Type 0} (remaining : R → Option (List ℕ)) (reading : Reading) (before reader : Checked R)
    (line held : List ℕ) → IsLineCut reading line →
    ReaderStands remaining reading before reader held → reading ≢ Failed → 0 < length line → NextLine line held reading
NextLine-from = grind (arith, next_ended, next_long, next_last)

-- The state of reading since the first line, from two parts.
stands_more : {R : Type 0} (remaining : R → Option (List ℕ)) (reading : Reading) (first second third : Checked R)
    (held : List ℕ) → HasNotEnded first second →
    ReaderStands remaining reading second third held → ReaderStands remaining reading first third []
stands_more = grind arith

-- A script with this course runs with its text and result.
runs_so : (octets : List ℕ) (reading : Reading) (one : Course) (answer : Result TraceEnd TraceFault)
    → whole (lines octets reading) ≡ one → answer ≢ Err WriteFailed →
    MatchOption one.fault (EndsAs reading one.count answer) (λ fault. answer ≡ Err fault)
    → ScriptRuns octets reading one.text answer
runs_so octets reading one answer is sound ends =
    let said = runs_text (lines octets reading) in grind (arith, said)

-- An empty line is cut only at the end.
at_end : (reading : Reading) (line : List ℕ) → IsLineCut reading line → reading ≢ Failed → length line ≡ 0
    → reading ≡ AtEnd
at_end = grind (arith, length-append)

open_from : (reading : Reading) → reading ≢ Failed → reading ≢ AtEnd → reading ≡ Open
open_from = grind arith

module _ {R W : Type 0} {remaining : R → Option (List ℕ)} {contents : W → Option (List ℕ)}
    {reader middle reader' : Checked R} {held now : List ℕ}
    {page between kept : Page W} {count : ℕ} {is_first : Bool} {client : Client} {device : DeviceState}
    (reading : Reading) (n : ℕ)
    (s : SoFar remaining contents reader middle held page between count is_first client device)
    (q : TakesAndKeeps remaining middle reader' held now [])
    (stands : ReaderStands remaining reading middle reader' (drop n now))
    (asked : reads_of reader' + length held ≤ reads_of middle + length now + empty_reads reading)
    (need : ReadForLine middle reader' between kept held now) (spared : ReadsNoMore middle reader')
    (handed : Prints contents between kept []) where
  abbrev line : List ℕ
  line = take n now

  abbrev rest : List ℕ
  rest = drop n now

  -- The octets of the lines so far, and those held now.
  abbrev octets_now : List ℕ
  octets_now = (s.octets ++ line) ++ rest

  taken : TakesAndKeeps remaining reader reader' [] rest (s.octets ++ line)
  taken = Takes-more s.taken (Takes-front n q)

  -- The reader gave the lines so far and the octets held now.
  given_is : taken.given ≡ s.octets ++ now
  given_is = grind (arith, taken, append_assoc, take-append-drop)

  reads : reads_of reader' ≤ reads_of reader + length taken.given + empty_reads reading
  reads = grind (arith, given_is, length-append)

  -- If no line is held, the lines so far are all, and none has a fault.
  no_fault : (more : List ℕ) → HasNoFeed more → length more < line_room
      → first_fault (lines (s.octets ++ more) Open) ≡ None
  no_fault = grind (arith, behind, course, lines-rest)

  -- The last read was needed.
  needed : IsNeeded reader reader' taken.given
  needed = elim need [
    | inl same ↦ grind (arith, given_is, same)
    | inr both ↦ let r = both.last in inr (record {
      before = s.octets ++ (held ++ r.before);
      order = grind (arith, given_is, append_assoc);
      asked = grind (arith, s.taken.order, s.asked, r.asked, length-append);
      going = no_fault (held ++ r.before) r.no_feed r.short;
    })
  ]

  -- If no line is held, the text of the lines so far is the whole text.
  text_so_far : (more : List ℕ) → HasNoFeed more → length more < line_room → text (s.octets ++ more) Open ≡ s.text
  text_so_far = grind (arith, runs_text, behind, course, lines-rest, append-nil)

  -- The text was written before the last read.
  told : IsToldFirst reader' (writer_of page) (writer_of kept) taken.given
  told = elim need [
    | inl same ↦ λ before split. further _ handed (s.told before (grind (arith, same, given_is)))
    | inr both ↦ λ before split.
        let here : before ≡ s.octets ++ (held ++ both.last.before) =
        grind (arith, append_cancel_right, given_is, append_assoc) in
        (both.turned_in.later, grind (arith, out_so_far, text_so_far, here))
  ]

  -- The course of the lines that are left.
  left : (all : List (List ℕ)) → lines (line ++ rest) reading ≡ all
      → whole (lines ((s.octets ++ line) ++ rest) reading) ≡ behind s.text (course s.stage is_first count all)
  left = grind (arith, goes_to)

  -- The run stops here.
  stops : {last : Page W} {printed more : List ℕ} (answer : Result TraceEnd TraceFault) → Prints contents kept last more
      → Prints contents page last printed → ScriptRuns ((s.octets ++ line) ++ rest) reading printed answer
      → RunsOn remaining contents reader reader' page last answer
  stops {printed = printed} answer so prints runs = record {
    given = taken.given;
    reading = reading;
    printed = printed;
    read = grind (arith, stands_more, needed);
    told = λ before split. further _ so (told before split);
    prints = prints;
    runs = grind arith;
  }

  -- The writer has failed.
  pub unwritten : (answer : Result TraceEnd TraceFault) → answer ≡ Err WriteFailed
      → RunsOn remaining contents reader reader' page kept answer
  unwritten answer is =
      let later = (course s.stage is_first count (lines (line ++ rest) reading)).text in
      let is_left = left (lines (line ++ rest) reading) refl in
      let said = runs_text (lines octets_now reading) in
      stops answer (prints_nothing kept) (s.printed ⨾ handed) (rw is (later, grind (arith, is_left, said, append-nil)))

  -- The run stops here if this is the course of the lines that are left.
  settles : {last : Page W} (all : List (List ℕ)) (answer : Result TraceEnd TraceFault)
      → lines (line ++ rest) reading ≡ all → Prints contents kept last (course s.stage is_first count all).text
      → answer ≢ Err WriteFailed → MatchOption (course s.stage is_first count all).fault
      (EndsAs reading (course s.stage is_first count all).count answer) (λ fault. answer ≡ Err fault) →
      RunsOn remaining contents reader reader' page last answer
  settles all answer are printed sound ends =
      stops answer printed (s.printed ⨾ handed ⨾ printed)
      (runs_so octets_now reading (behind s.text (course s.stage is_first count all)) answer (left all are) sound ends)

  -- The run stops because the reader fails, or its reads are spent.
  pub unread : reading ≡ Failed → IsLineCut reading line
      → RunsOn remaining contents reader reader' page kept (Err ReadFailed)
  unread is cut =
      let c = rw is at cut in let h = rw is at stands in
      grind (arith, settles {last = kept} [], prints_nothing, lines-rest, append-nil)

  -- The run stops because the input ends after a line feed.
  pub to_end : reading ≢ Failed → IsLineCut reading line → n ≡ 0
      → RunsOn remaining contents reader reader' page kept (Ok (record { lines = count }))
  to_end = grind (arith, at_end, settles, prints_nothing)

  -- The run stops at a line with a fault.
  pub faulty : (fault : LineFault) → reading ≢ Failed → IsLineCut reading line → 0 < length line
      → said is_first line ≡ Err fault →
      RunsOn remaining contents reader reader' page kept (Err (fault_at (count + 1) fault))
  faulty fault going cut some bad =
      let next = NextLine-from remaining reading middle reader' line rest cut stands going some in
      let is = next.same is_first ∙ bad in
      settles (next.whole ∷ next.others) (Err (fault_at (count + 1) fault)) next.split (rw is (prints_nothing kept))
      (grind arith) (rw is refl)

  -- The run stops because the input ends in a line without its line feed.
  pub to_last : {last : Page W} (one : Said) → reading ≡ AtEnd → IsLineCut reading line → 0 < length line
      → said is_first line ≡ Ok one → Prints contents kept last (ran s.stage one).text
      → RunsOn remaining contents reader reader' page last (Ok (record { lines = count + 1 }))
  to_last {last} one is cut some ok printed =
      let c = rw is at cut in let h = rw is at stands in
      grind (arith, settles {last = last} (line ∷ []), lines-last, append-nil)

  -- One more line was run.
  pub goes_on : {page' : Page W} {is_first' : Bool} {client' : Client} {device' : DeviceState} (one : Said)
      → reading ≢ Failed → reading ≢ AtEnd → IsLineCut reading line →
      said is_first line ≡ Ok one → is_first' ≡ (is_first && is_nothing one)
      → Stands (ran s.stage one).after client' device' → Prints contents kept page' (ran s.stage one).text →
      SoFar remaining contents reader reader' rest page page' (count + 1) is_first' client' device'
  goes_on one going more cut ok still stage printed =
      let is = open_from reading going more in
      let h = rw is at stands in
      record {
        octets = s.octets ++ line;
        text = s.text ++ (ran s.stage one).text;
        stage = (ran s.stage one).after;
        taken = taken;
        asked = let none = ap empty_reads is in omega (arith, none, reads);
        needed = needed;
        empty = s.empty;
        unfolded = s.unfolded;
        told = λ before split. further _ printed (told before split);
        sound = h.sound;
        unended = h.unended ∙ s.unended;
        spared = omega (arith, s.spared, spared);
        goes_on = goes_further s.octets line s.text s.stage is_first _ count one s.goes_on (rw is at cut) ok still;
        kept = stage;
        printed = s.printed ⨾ handed ⨾ printed;
      }

-- If no octets were given, there was no text to print.
-- If no octets were given, there was no text to print.
untold : {out : List ℕ} (before last : List ℕ) → [] ≡ before ++ last
    → (later : List ℕ) × (out ≡ (out ++ text before Open) ++ later)
untold [] _ _ = ([], grind (arith, append-nil))
untold (octet ∷ before) _ split = absurd (cc)

pub SoFar-none : {R W : Type 0} (remaining : R → Option (List ℕ)) (contents : W → Option (List ℕ)) (reader : Checked R)
    (held : List ℕ) (page : Page W)
    (client : Client) (device : DeviceState) → on_page page ≡ [] → room_of page ≡ None → has_failed reader ≡ false
    → held ≡ [] → client ≡ new_client 3000 3 0 → device ≡ device_with [] →
    SoFar remaining contents reader reader held page page 0 true client device
SoFar-none _ _ reader held page _ _ empty whole sound none fresh unwritten = record {
  octets = [];
  text = [];
  stage = first_stage;
  taken = record { given = []; gave = Gave-none reader; order = sym none };
  asked = grind arith;
  needed = grind arith;
  empty = empty;
  unfolded = whole;
  told = λ before split. untold before (last_of reader) split;
  sound = sound;
  unended = refl;
  spared = omega arith;
  goes_on = λ more reading. refl;
  kept = record { as_client = fresh; as_device = unwritten };
  printed = prints_nothing page;
}

-- Text that was printed before the last read is written once the page is finished.
told_still : {R W : Type 0} {contents : W → Option (List ℕ)} (reader' : Checked R) (first last : Page W)
    {writer after : Checked W} {given : List ℕ} → writer_of first ≡ writer
    → IsToldFirst reader' (writer_of first) (writer_of last) given →
    Writes contents (writer_of last) after (on_page last) [] [] → IsToldFirst reader' writer after given
told_still = grind (arith, append_assoc)

-- The page of a run was finished, and all was written, or the writer has failed.
pub traced : {R W : Type 0} {remaining : R → Option (List ℕ)} {contents : W → Option (List ℕ)}
    {reader reader' : Checked R} {writer after back : Checked W} {first last : Page W}
    {answer : Result TraceEnd TraceFault} (told : Result TraceEnd TraceFault)
    → ((has_failed after ≡ false) × (told ≡ answer)) ⊎ (told ≡ Err WriteFailed)
    → after ≡ back → RunsOn remaining contents reader reader' first last answer → writer_of first ≡ writer
    → on_page first ≡ [] → room_of first ≡ None → Writes contents (writer_of last) after (on_page last) [] []
    → Traces remaining contents reader reader' writer back told
traced {W = W} {remaining} {contents} {reader} {reader'} {writer} {first = first} {last} told how is s same empty
    unfolded gone =
    let w = finished same empty unfolded s.prints gone in
    subst (λ (end : Checked W). Traces remaining contents reader reader' writer end told) is
    (record {
      given = s.given;
      reading = s.reading;
      written = w.taken;
      read = s.read;
      told = told_still reader' first last same s.told gone;
      took = w.took;
      runs = grind (arith, append_assoc, append-nil);
    })
