-- Two runs of the program with the same words, and their journals, are alike.
use Rattle.std.proofs.Common.{[], arith, Err, inl, inr, is_some, IsErrAnd, IsTrue, List, None, Ok, Option}
use Rattle.std.proofs.Common.{option_and_then, refl, Result, Some, subst, sym, ℕ, ◌++◌, ◌<◌, ◌∙◌, ◌∷◌, ◌≡◌, ◌≢◌, ◌⊎◌}
use Rattle.std.specs.Result.{result_ok}
use Rattle.clap.specs.Words.{fault_of, Text}
use Rattle.bac_text.specs.declared.jobs.Call.{Call}
use Rattle.bac_print.specs.{fresh, octets_of}
use Rattle.bac_tools.specs.{AreAlike, AreGivenAlike, asked_by, Batch, Checked, Device, EndAlike, Exit, Gained, Help}
use Rattle.bac_tools.specs.{is_socket, IsCutOff, IsCutShort, IsGiven, IsPrinted, IsSetupOf, Job, Memory, PrintAlike}
use Rattle.bac_tools.specs.{ProgramRun, Read, Reading, report_of, Run, run_report, RunFault, RunsAsRead, RunsBatch}
use Rattle.bac_tools.specs.{RunsOpened, RunsOver, RunsScript, Script, Setup, Tool, tool_report, ToolFault, ToolRuns}
use Rattle.bac_tools.specs.{Trace, TraceEnd, UsageFault, Use, WhoIs, Write, WriteFailed, Writing, Outside.Outside}
use Rattle.bac_tools.specs.{Runs.JobRuns, declared.{program.Binding.Binding, report.Report.Report}}
use Rattle.bac_script.{proofs.Courses.{traces_alike, traces_front}}
use Rattle.bac_links.proofs.{CallLaws.calls_so_far, Listening.{searches_so_far, servings_so_far}}
use Rattle.bac_links.specs.{answers_of, Entry, Tells, Answered.{GoOnAlike, OneText, Printed}}
use Rattle.bac_links.specs.declared.call.Purpose.{Purpose}
use Rattle.bac_words.{proofs.Tools.one_answer, specs.{Answers, IsRefusal, Command.bactool}}
use Rattle.bac_words.specs.{Marks.marked_words, declared.faults.UsageFault.TheVariants.Words}
use Rattle.bac_run.proofs.GoOn.{IsCutShort as IsBatchCut, IsTaken, Meets, one_text as one_journal, runs_on, taken}
use Rattle.bac_run.specs.{Fault.write_failed, Run.Runs as Requested}
use denote.Struct.Props.{props}
use mathlib.Core.HLevel.{is_prop→PathP}
use Rattle.bac_script.specs.declared.tracing.TraceFault.TheVariants as stops
use Rattle.bac_tools.specs.declared.report.Fault.TheVariants as faults

-- ---- two setups of one batch are equal

one_setup : (batch : Batch) (setup other : Setup) → IsSetupOf batch setup → IsSetupOf batch other → setup ≡ other
one_setup batch setup other one two =
    let timeout : setup.config.timeout ≡ other.config.timeout = one.timeout ∙ sym two.timeout in
    let retries : setup.config.retries ≡ other.config.retries = one.retries ∙ sym two.retries in
    let window : setup.window ≡ other.window = one.window ∙ sym two.window in
    λ i. record {
      config = record {
        timeout = timeout i;
        retries = retries i;
        positive = is_prop→PathP (λ j. 0 < timeout j) (λ j. hlevel props) setup.config.positive other.config.positive i;
      };
      window = window i;
      some = is_prop→PathP (λ j. 0 < window j) (λ j. hlevel props) setup.some other.some i;
    }

-- ---- how a run is cut off

-- The report with this fault says that the writer of many requests failed.
cut_write : (answer : Result TraceEnd RunFault) → IsCutOff (run_report answer) → answer ≡ Err write_failed
cut_write (Err (Script stops.WriteFailed)) cut = refl
cut_write _ cut = absurd cut

batch_cut : {R S : Type 0} (batch : Batch) (answer : Result TraceEnd RunFault) (report : Report)
    (asked : Result Job UsageFault) (reader : Checked R) (other : Checked S) → asked ≡ Ok (Run batch)
    → report ≡ run_report answer → IsCutShort report asked reader other → IsBatchCut answer reader other
batch_cut batch answer report asked reader other asks reported short =
    let (sound, few) = short.reads (rw asks tt) in
    record { cut = cut_write answer (subst IsCutOff reported short.cut); gave = short.gave; sound = sound; few = few }

is_printed : {X : Type 0} (shown : X → Option (List ℕ)) (writer : X) (wrote : Checked X) (text : List ℕ)
    (answer : Result Exit ToolFault) → Printed shown (fresh writer) wrote text answer
    → IsPrinted (octets_of wrote) text (tool_report answer)
is_printed shown writer wrote text (Err WriteFailed) (taken, rest, e, took) = grind arith
is_printed shown writer wrote text _ took = inl took.passed

batch_printed : (written text : List ℕ) (answer : Result TraceEnd RunFault) (report : Report)
    → report ≡ run_report answer → IsTaken written text answer → IsPrinted written text report
batch_printed = grind arith

-- ---- one run

-- Words that `clap` accepts are refused only if memory ran out.
not_refused : (words : List Text) (fault : UsageFault) → IsRefusal words fault
    → fault_of bactool (marked_words words) ≡ [] → fault ≡ Memory
not_refused _ Memory _ _ = refl
not_refused _ (Help e) (_, among) taken = absurd (rw taken at among)
not_refused _ (Words e) (_, among) taken = absurd (rw taken at among)
not_refused _ _ refusal _ = absurd refusal

none_both : (xs ys : List Entry) → xs ++ ys ≡ [] → (xs ≡ []) × (ys ≡ [])
none_both [] ys e = (refl, e)
none_both (x ∷ xs) ys e = cc

none_answered : (xs : List Entry) → answers_of xs ≡ [] → xs ≡ []
none_answered [] e = refl
none_answered (x ∷ xs) e = cc

module _ {N Origin L F R W : Type 0} {gives : N → Binding → Result L F → Type 0} {out : Outside Origin L R W}
    {words : List Text} (run : ProgramRun gives out words) where
  abbrev Mine : Job → Option (Result L F) → Option (Result L F) → Type 0
  Mine = JobRuns out (fresh run.reader) run.reader' (fresh run.writer) run.writer' run.ran.report

  abbrev MyTool : Tool → L → L → Type 0
  MyTool = RunsOver out (fresh run.reader) run.reader' (fresh run.writer) run.writer' run.ran.report

  abbrev MyBatch : Batch → L → L → Type 0
  MyBatch = RunsBatch out (fresh run.reader) run.reader' (fresh run.writer) run.writer' run.ran.report

  abbrev MyOpened : (L → L → Type 0) → Option (Result L F) → Option (Result L F) → Type 0
  MyOpened = RunsOpened out (fresh run.reader) run.reader' (fresh run.writer) run.writer' run.ran.report

  abbrev MyScript : Type 0
  MyScript = RunsScript out (fresh run.reader) run.reader' (fresh run.writer) run.writer' run.ran.report

  abbrev MyEnd : Result Job UsageFault → Option (Result L F) → Type 0
  MyEnd r o = RunsAsRead gives out run.network (fresh run.reader) run.reader' (fresh run.writer) run.writer' run.ran r o

  -- The entries of the run lead from one state of its link to another.
  abbrev MyGains : L → L → Type 0
  MyGains link left = (out.seen left).history ≡ (out.seen link).history ++ run.gained

  unprinted : run.writer' ≡ fresh run.writer → octets_of run.writer' ≡ []
  unprinted e = cc

  ungained : (o : Option (Result L F)) → IsGiven gives out run.network None o
      → Gained out.seen o run.ran.socket run.gained → run.gained ≡ []
  ungained None given gains = gains
  ungained (Some socket) given gains = cc

  reported : (fault : UsageFault) → MyEnd (Err fault) None → run.ran.report ≡ report_of (faults.Usage fault)
  reported fault r = cc

  lacks : (fault : UsageFault) → fault ≡ Memory → MyEnd (Err fault) None → IsCutOff run.ran.report
  lacks fault is r = grind arith

-- ---- two runs

module _ {N Origin L F R W M Other K G S V : Type 0} {gives : N → Binding → Result L F → Type 0}
    {out : Outside Origin L R W} {gives' : M → Binding → Result K G → Type 0} {out' : Outside Other K S V}
    {words : List Text}
    (one : ProgramRun gives out words) (other : ProgramRun gives' out' words) (first rest first' rest' : List Entry)
    (h : AreGivenAlike one other first rest first' rest') where
  abbrev Ended : Type 0
  Ended = EndAlike one other one.ran.report other.ran.report

  abbrev PrintedAlike : Type 0
  PrintedAlike = PrintAlike one other one.ran.report other.ran.report

  abbrev GoesOn : List Entry → List Entry → Type 0
  GoesOn = GoOnAlike IsCutOff (EndAlike one other) (PrintAlike one other) one.ran.report other.ran.report

  abbrev Alike : Type 0
  Alike = (first ≡ first') × GoesOn rest rest'

  -- The two runs go on as their jobs do.
  going : {A : Type 0} (IsCut : A → Type 0) (EndSame PrintSame : A → A → Type 0) (r s : A)
      → (first ≡ first') × GoOnAlike IsCut EndSame PrintSame r s rest rest'
      → (IsCut r → IsCutOff one.ran.report) → (IsCut s → IsCutOff other.ran.report) → (EndSame r s → Ended)
      → (PrintSame r s → PrintedAlike) → Alike
  going IsCut EndSame PrintSame r s (asked, on) cut cut' ends prints = (asked, go rest rest' on)
    where
      go : (xs ys : List Entry) → GoOnAlike IsCut EndSame PrintSame r s xs ys → GoesOn xs ys
      go [] [] (end, print) = (ends end, prints print)
      go (x ∷ xs) (y ∷ ys) asks = asks
      go [] (y ∷ ys) (here, print) = (cut here, prints print)
      go (x ∷ xs) [] (here, print) = (cut' here, prints print)

  -- Neither run made a call.
  none_asked : one.gained ≡ [] → other.gained ≡ [] → Ended → PrintedAlike → Alike
  none_asked e f ends prints = grind (arith, none_both)

  -- One run was cut off before it made a call or printed anything.
  cut_goes : (xs ys : List Entry) → ((xs ≡ []) × IsCutOff one.ran.report) ⊎ ((ys ≡ []) × IsCutOff other.ran.report)
      → PrintedAlike → GoesOn xs ys
  cut_goes = grind arith

  cut_here : one.gained ≡ [] → IsCutOff one.ran.report → octets_of one.writer' ≡ [] → Alike
  cut_here e cut unprinted =
      let (none, none_later) = none_both first rest (sym h.gained ∙ e) in (
        grind (arith, none_answered),
        cut_goes rest rest' (inl (none_later, cut))
            (octets_of other.writer', inr (cut, (octets_of other.writer', rw unprinted refl)), inl refl),
      )

  cut_there : other.gained ≡ [] → IsCutOff other.ran.report → octets_of other.writer' ≡ [] → Alike
  cut_there e cut unprinted =
      let (none, none_later) = none_both first' rest' (sym h.other_gained ∙ e) in (
        grind (arith, none_answered),
        cut_goes rest rest' (inr (none_later, cut))
            (octets_of one.writer', inl refl, inr (cut, (octets_of one.writer', rw unprinted refl))),
      )

  -- ---- a job over its link

  abbrev PrintSame : Result Exit ToolFault → Result Exit ToolFault → Type 0
  PrintSame = OneText out.contents (fresh one.writer) one.writer' out'.contents (fresh other.writer) other.writer'

  module _ (link left : L) (link' left' : K) (gains : MyGains one link left) (gains' : MyGains other link' left') where
    module _ (answer answer' : Result Exit ToolFault) (is : one.ran.report ≡ tool_report answer)
        (is' : other.ran.report ≡ tool_report answer') where
      prints : PrintSame answer answer' → PrintedAlike
      prints (text, printed, printed') = grind (arith, is_printed)

      calls : (purpose : Purpose) (call : Call)
          → Tells purpose call out.contents (fresh one.writer) one.writer' (out.seen link) (out.seen left) answer
          → Tells purpose call out'.contents (fresh other.writer) other.writer' (out'.seen link') (out'.seen left')
          answer' → Alike
      calls purpose call a b =
          going (λ r. ⊥) (λ r s. r ≢ Err WriteFailed → s ≢ Err WriteFailed → r ≡ s) PrintSame answer answer'
          (calls_so_far purpose call out.contents out'.contents _ _ _ _ _ _ _ _ _ _ _ _ _ _ a b (cc) (cc) h.answers)
          (λ none. absurd none) (λ none. absurd none) (grind arith) prints

      tools : (tool : Tool)
          → ToolRuns out.contents (fresh one.writer) one.writer' (out.seen link) (out.seen left) answer tool
          → ToolRuns out'.contents (fresh other.writer) other.writer' (out'.seen link') (out'.seen left') answer' tool
          → Alike
      tools (Read call) a b = calls Reading call a b
      tools (Write call) a b = calls Writing call a b
      tools (WhoIs search) a b =
          going (λ r. r ≡ Err WriteFailed) ◌≡◌ PrintSame answer answer'
          (searches_so_far out.contents out'.contents search _ _ _ _ _ _ _ _ _ _ _ _ _ _ a b (cc) (cc) h.answers)
          (grind arith) (grind arith) (grind arith) prints
      tools (Device serve) (a, unprinted) (b, unprinted') =
          going (λ r. ⊥) (λ r s. (r ≡ s) × (a.device ≡ b.device)) (λ r s. Unit {0}) a.served b.served
          (servings_so_far serve.count _ a.device b.device _ _ _ _ _ _ _ _ _ _ a.serves b.serves (cc) (cc) h.answers)
          (λ none. absurd none) (λ none. absurd none)
          (λ alike uncut uncut'. let same = alike.0 in grind (arith, a.answered, b.answered)) (λ _. grind arith)

    over : (tool : Tool) → MyTool one tool link left → MyTool other tool link' left' → Alike
    over tool r s = tools r.answer s.answer r.reported s.reported tool r.runs s.runs

    batch_over : (batch : Batch) → one.program.answer ≡ Ok (Run batch) → other.program.answer ≡ Ok (Run batch)
        → MyBatch one batch link left → MyBatch other batch link' left' → Alike
    batch_over batch asks asks' r s =
        going (λ r. r ≡ Err write_failed) (λ r s. r ≢ Err write_failed → s ≢ Err write_failed → r ≡ s)
        (λ r s. Meets r₁.acts runs'.acts r s) r.answer s.answer
        (runs_on _ _ _ _ _ _ _ _ _ _ _ _ _ _ _ _ _ _ _ r₁ runs'
        (grind (arith, batch_cut, h.read, asks, asks', r.reported, s.reported)) (cc) (cc) h.answers)
        (grind (arith, r.reported)) (grind (arith, s.reported)) (grind (arith, r.reported, s.reported)) prints
      where
        setup : Setup
        setup = r.runs.setup

        r₁ : Requested out.remaining out.contents setup (fresh one.reader) one.reader' (fresh one.writer) one.writer'
            (out.seen link) (out.seen left) r.answer
        r₁ = r.runs.requested

        runs' : Requested out'.remaining out'.contents setup (fresh other.reader) other.reader' (fresh other.writer)
            other.writer' (out'.seen link') (out'.seen left') s.answer
        runs' =
            subst (λ (x : Setup). Requested out'.remaining out'.contents x (fresh other.reader) other.reader'
            (fresh other.writer) other.writer' (out'.seen link') (out'.seen left') s.answer)
            (one_setup batch s.runs.setup r.runs.setup s.runs.of_batch r.runs.of_batch) s.runs.requested

        prints : Meets r₁.acts runs'.acts r.answer s.answer → PrintedAlike
        prints meet =
            let (text, took, took') = one_journal setup _ _ _ _ _ _ meet
            (taken out.contents _ _ _ _ r₁.printed r.write_fault)
            (taken out'.contents _ _ _ _ runs'.printed s.write_fault) in
            (text, batch_printed _ _ _ _ r.reported took, batch_printed _ _ _ _ s.reported took')

  abbrev Refused : Type 0
  Refused = IsErrAnd one.program.answer (IsRefusal words) × IsErrAnd other.program.answer (IsRefusal words)

  abbrev BothHad : Option (Result L F) → Option (Result K G) → Type 0
  BothHad o o' = IsTrue (is_some o) → IsTrue (is_some o') → is_socket o ≡ is_socket o'

  -- Two jobs over the sockets that were opened for them.
  opened : (runs : L → L → Type 0) (runs' : K → K → Type 0)
      → ((l m : L) (k n : K) → MyGains one l m → MyGains other k n → runs l m → runs' k n → Alike)
      → (o p : Option (Result L F)) (o' p' : Option (Result K G)) → MyOpened one runs o p → MyOpened other runs' o' p'
      → Gained out.seen o p one.gained → Gained out'.seen o' p' other.gained → BothHad o o' → Alike
  opened _ _ alike (Some (Err f)) p (Some (Err g)) p' r s gains gains' e = grind (arith, none_asked, unprinted)
  opened _ _ alike (Some (Ok l)) (Some (Ok m)) (Some (Ok k)) (Some (Ok n)) r s gains gains' e =
      alike l m k n gains gains' r s
  opened _ _ _ (Some (Err f)) p (Some (Ok k)) p' r s gains gains' e = let both = e refl refl in cc
  opened _ _ _ (Some (Ok l)) p (Some (Err g)) p' r s gains gains' e = let both = e refl refl in cc
  opened _ _ _ _ _ _ _ r s gains gains' e = grind arith

  -- ---- a script

  scripts : MyScript one → MyScript other → Ended × PrintedAlike
  scripts r s = elim h.read [
    | inl same ↦ let both = traces_alike _ _ _ _ _ _ _ _ _ _ r.script s.script same in (grind arith, grind arith)
    | inr less ↦ elim less [
      | inl ours ↦
          let cut = ours.cut in
          let front = traces_front _ _ _ _ _ _ _ _ _ _ r.script s.script ours.gave in
          (λ whole _. absurd (whole cut), grind arith)
      | inr theirs ↦
          let cut = theirs.cut in
          let front = traces_front _ _ _ _ _ _ _ _ _ _ s.script r.script theirs.gave in
          (λ _ whole. absurd (whole cut), grind arith)
    ]
  ]

  -- ---- the whole

  jobs : (job : Job) → one.program.answer ≡ Ok job → other.program.answer ≡ Ok job
      → (o p : Option (Result L F)) (o' p' : Option (Result K G))
      → IsGiven gives out one.network (asked_by job) o → IsGiven gives' out' other.network (asked_by job) o' →
      Mine one job o p → Mine other job o' p' → Gained out.seen o p one.gained → Gained out'.seen o' p' other.gained
      → BothHad o o' → Alike
  jobs Trace asks asks' None p None p' given given' (r, _) (s, _) gains gains' e =
      let (ends, prints) = scripts r s in none_asked gains gains' ends prints
  jobs Trace asks asks' o p o' p' given given' r s gains gains' e = cc
  jobs (Run batch) asks asks' o p o' p' _ _ r s gains gains' e =
      opened (MyBatch one batch) (MyBatch other batch)
      (λ l m k n gains gains'. batch_over l m k n gains gains' batch asks asks') o p o' p' r s gains gains' e
  jobs (Use tool) asks asks' o p o' p' _ _ r s gains gains' e =
      opened (MyTool one tool) (MyTool other tool) (λ l m k n gains gains'. over l m k n gains gains' tool) o p o' p' r
      s gains gains' e

  abbrev Given : Result Job UsageFault → Type 0
  Given r = IsGiven gives out one.network (option_and_then asked_by (result_ok r)) one.program.opened

  abbrev OtherGiven : Result Job UsageFault → Type 0
  OtherGiven s = IsGiven gives' out' other.network (option_and_then asked_by (result_ok s)) other.program.opened

  both_refused : (f g : UsageFault) → MyEnd one (Err f) None → MyEnd other (Err g) None → Given (Err f)
      → OtherGiven (Err g) → (one.ran.report ≡ other.ran.report) ⊎ Refused → Alike
  both_refused f g r s given given' told = grind (arith, none_asked, ungained, unprinted)

  same_answer : (r : Result Job UsageFault) → one.program.answer ≡ r → other.program.answer ≡ r → Given r
      → OtherGiven r → MyEnd one r one.program.opened → MyEnd other r other.program.opened → Alike
  same_answer (Err f) is is' given given' r s = grind (arith, both_refused, reported)
  same_answer (Ok j) is is' given given' r s =
      jobs j is is' one.program.opened one.ran.socket other.program.opened other.ran.socket given given' r s one.gains
      other.gains h.socket

  compared : (r s : Result Job UsageFault) → one.program.answer ≡ r → other.program.answer ≡ s
      → IsErrAnd r (IsRefusal words) ⊎ Answers words r → IsErrAnd s (IsRefusal words) ⊎ Answers words s → Given r
      → OtherGiven s → MyEnd one r one.program.opened → MyEnd other s other.program.opened → Alike
  compared r s is is' (inr answers) (inr answers') given given' ends ends' = grind (arith, same_answer, one_answer)
  compared (Err f) (Err g) is is' (inl refused) (inl refused') given given' r s =
      both_refused f g r s given given' (grind arith)
  compared (Err f) _ is _ (inl refused) (inr answers) given _ r s =
      grind (arith, cut_here, ungained, lacks, not_refused, unprinted)
  compared _ (Err g) is _ (inr answers) (inl refused) _ given' r s =
      grind (arith, cut_there, ungained, lacks, not_refused, unprinted)
  compared (Ok j) _ is _ (inl refused) q _ _ r s = absurd refused
  compared _ (Ok k) is _ p (inl refused) _ _ r s = absurd refused

  pub runs_alike : AreAlike one other first rest first' rest'
  runs_alike =
      let p = one.program in
      let q = other.program in
      let (asked, on) = compared p.answer q.answer refl refl p.answered q.answered p.given q.given p.ends q.ends in
      record { asked = asked; goes_on = on }
