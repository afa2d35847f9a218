-- A run of the program: the status of its report, its calls of the system, and the words that it was called with.
use Rattle.std.proofs.Common.{[], ap, arith, Err, IfNone, inl, inr, IsErrAnd, List, None, Ok, Option, option_and_then}
use Rattle.std.proofs.Common.{refl, Result, Some, subst, ℕ, ◌∙◌, ◌≡◌, ◌⊎◌}
use Rattle.std.specs.{Result.result_ok, declared.io.ErrorKind.ErrorKind}
use Rattle.clap.specs.Words.{Text}
use Rattle.bac_print.specs.{fresh}
use Rattle.bac_tools.specs.{asked_by, AsksAtMostOnce, Checked, Device, Exit, Gained, GiveNoJob, GivesSockets, IsCalled}
use Rattle.bac_tools.specs.{IsGiven, IsRun, IsStatusOf, Job, JobCalled, Memory, on_output, Only, ProgramRun, Ran}
use Rattle.bac_tools.specs.{report_of, Run, RunsAsCalls, RunsAsRead, RunsUnasked, RunsWithout, Tool, ToolFault}
use Rattle.bac_tools.specs.{ToolRuns, Trace, UsageFault, Use, WhoIs, WriteFailed, Outside.Outside, Program.Program}
use Rattle.bac_tools.specs.{Runs.JobRuns}
use Rattle.bac_tools.specs.declared.{program.Binding.Binding, report.Report.Report}
use Rattle.bac_links.specs.{Account, Entry, GainsAll}
use Rattle.bac_links.specs.SystemCall.{SystemCall}
use Rattle.bac_words.specs.{Answers, IsRefusal, words_called}
use Rattle.bac_tools.specs.declared.report.Fault.TheVariants as faults

-- The status of this report belongs to its fault.
abbrev HasStatus : Report → Type 0
HasStatus report = IsStatusOf report.fault report.status

module _ {N Origin L F R W : Type 0} (gives : N → Binding → Result L F → Type 0) (out : Outside Origin L R W)
    (network : N) (reader reader' : Checked R) (writer : Checked W) where
  ended_status : (writer' : Checked W) (ran : Ran N L F) (answer : Result Job UsageFault) (o : Option (Result L F))
      → RunsAsRead gives out network reader reader' writer writer' ran answer o → HasStatus ran.report
  ended_status = grind arith

  pub program_status : {writer' : Checked W} {ran : Ran N L F} {words : List Text}
      → Program gives out network reader reader' writer writer' ran words
      → IsStatusOf ran.report.fault ran.report.status
  program_status p = ended_status _ _ p.answer p.opened p.ends

  called_status : (writer' : Checked W) (ran : Ran N L F) (typed : Result (List Text) ErrorKind)
      → IsCalled gives out network reader reader' writer writer' ran typed → HasStatus ran.report
  called_status = grind (arith, program_status)

  pub run_status : {E : Type 0} {contents : E → Option (List ℕ)} {writer' : Checked W} {errors errors' : Checked E}
      {ran : Ran N L F} {typed : Result (List Text) ErrorKind}
      → IsRun gives out contents network reader reader' writer writer' errors errors' ran typed
      → IsStatusOf ran.report.fault ran.report.status
  run_status {ran} {typed} run =
      let status = called_status run.unhelped (record ran { report = run.report }) typed run.called in
      rw run.reported (grind arith)

-- ---- a job adds entries to the history of its link

tool_gains : {Origin W : Type 0} (contents : W → Option (List ℕ)) (before after : Checked W)
    (seen left : Account Origin) (answer : Result Exit ToolFault) (tool : Tool)
    → ToolRuns contents before after seen left answer tool → (gained : List Entry) × GainsAll gained seen left
tool_gains _ _ _ _ _ (Err WriteFailed) (WhoIs search) s = (_, s.gains)
tool_gains _ _ _ _ _ _ (Device serve) (played, _) = (played.serves.plays.gained, played.serves.plays.gains)
tool_gains _ _ _ _ _ _ _ t = (t.plays.gained, t.plays.gains)

-- Entries were added to the history of the socket of a run.
abbrev pub SocketGained : {Origin L F : Type 0} → (L → Account Origin) → (opened opened' : Option (Result L F))
    → Type 0
SocketGained seen opened opened' = (gained : List Entry) × Gained seen opened opened' gained

module _ {N Origin L F R W : Type 0} (gives : N → Binding → Result L F → Type 0) (out : Outside Origin L R W)
    (network : N) (reader reader' : Checked R) (writer writer' : Checked W) where
  job_gains : (report : Report) (job : Job) (opened opened' : Option (Result L F))
      → IsGiven gives out network (asked_by job) opened
      → JobRuns out reader reader' writer writer' report job opened opened' → SocketGained out.seen opened opened'
  job_gains report Trace (Some (Ok link)) (Some (Ok link')) given _ = absurd (cc)
  job_gains report (Run batch) (Some (Ok link)) (Some (Ok link')) _ over =
      (_, ap (λ account. account.history) over.runs.requested.asks)
  job_gains report (Use tool) (Some (Ok link)) (Some (Ok link')) _ over =
      let (gained, gains) = tool_gains out.contents writer writer' _ _ over.answer tool over.runs in
      (gained, ap (λ account. account.history) gains)
  job_gains _ _ _ _ _ _ = ([], refl)

  program_gains : (ran : Ran N L F) (answer : Result Job UsageFault) (opened : Option (Result L F))
      → IsGiven gives out network (option_and_then asked_by (result_ok answer)) opened
      → RunsAsRead gives out network reader reader' writer writer' ran answer opened
      → SocketGained out.seen opened ran.socket
  program_gains ran (Err fault) opened given ends = rw given ([], refl)
  program_gains ran (Ok job) opened given ends = job_gains ran.report job opened ran.socket given ends

-- ---- the calls of the system of a run over a socket

module _ {N Origin L F R W E : Type 0} {gives : N → Binding → Result L F → Type 0} {out : Outside Origin L R W}
    {error_contents : E → Option (List ℕ)} {network : N} {reader reader' : Checked R} {writer writer' : Checked W}
    {errors errors' : Checked E} {ran : Ran N L F} {typed : Result (List Text) ErrorKind}
    (run : IsRun gives out error_contents network reader reader' writer writer' errors errors' ran typed) where
  -- A run that does not ask for help printed nothing else, and has the report of its words.
  unhelped : on_output run.report.fault ≡ None → (writer' ≡ run.unhelped) × (ran.report ≡ run.report)
  unhelped none = (rw none at run.help, grind (arith, run.reported, none))

module _ {N Origin L F R W E : Type 0} {gives : N → Binding → Result L F → Type 0} {out : Outside Origin L R W}
    {error_contents : E → Option (List ℕ)} {network : N} {reader reader' : Checked R} {writer writer' : Checked W}
    {errors errors' : Checked E} {ran : Ran N L F} {typed : List Text}
    (run : IsRun gives out error_contents network reader reader' writer writer' errors errors' ran (Ok typed)) where
  -- The effect of a job with a socket, or without one.
  abbrev Did : Job → Result L F → Result L F → Type 0
  Did job given left = JobRuns out reader reader' writer run.unhelped run.report job (Some given) (Some left)

  -- This follows from a job with a socket. The network gave the first result, and `left` was left.
  abbrev FromJob : Result L F → Type 0 → Type 0
  FromJob left A = (job : Job) → Answers (words_called typed) (Ok job) → (binding : Binding)
      → asked_by job ≡ Some binding → (given : Result L F) → gives network binding given → Did job given left → A

  module _ {left : Result L F} {A : Type 0} (had : ran.socket ≡ Some left) (from_job : FromJob left A) where
    program_had : (answer : Result Job UsageFault) (opened : Option (Result L F))
        → (IsErrAnd answer (IsRefusal (words_called typed)) ⊎ Answers (words_called typed) answer)
        → IsGiven gives out network (option_and_then asked_by (result_ok answer)) opened
        → RunsAsRead gives out network reader reader' writer run.unhelped (record ran { report = run.report }) answer
        opened → A
    program_had (Ok Trace) _ (inr answered) gave ends = absurd (grind arith)
    program_had (Ok job) (Some given) (inr answered) gave over =
        from_job job answered _ refl given gave
        (subst (JobRuns out reader reader' writer run.unhelped run.report job (Some given)) had over)
    program_had (Ok job) None (inr answered) gave over = absurd gave
    program_had (Ok job) _ (inl refused) gave over = absurd refused
    program_had (Err fault) _ _ _ ends = absurd (grind arith)

    had_job : A
    had_job = elim run.called [
      | inl p ↦ program_had p.answer p.opened p.answered p.given p.ends
      | inr only ↦ absurd (grind arith)
    ]

  -- The results of a job over a link.
  abbrev Came : Job → L → L → Type 0
  Came job link link' = ((out.seen link').made ≡ (out.seen link).made)
      × JobCalled out.remaining out.contents reader reader' writer writer' (out.seen link) (out.seen link') ran.report
      job

  came : (job : Job) (link link' : L) (binding : Binding) → asked_by job ≡ Some binding
      → Did job (Ok link) (Ok link') → Came job link link'
  came (Use tool) link link' binding wanted over =
      let (kept, same) = unhelped run (grind (arith, over.reported)) in
      let (_, gains) = tool_gains out.contents writer run.unhelped _ _ over.answer tool over.runs in (
        ap (λ (account : Account Origin). account.made) gains,
        record {
          answer = over.answer;
          runs = rw kept over.runs;
          unread = over.unread;
          reported = same ∙ over.reported;
        },
      )
  came (Run batch) link link' binding wanted over =
      let (kept, same) = unhelped run (grind (arith, over.reported)) in (
        ap (λ (account : Account Origin). account.made) over.runs.requested.asks,
        record { answer = over.answer; runs = rw kept over.runs; reported = same ∙ over.reported },
      )
  came Trace link link' binding wanted did = cc

  module _ {link' : L} (log : L → List SystemCall) (sockets : GivesSockets gives out.seen log) where
    over_so : FromJob (Ok link') (RunsAsCalls Origin out.remaining out.contents error_contents reader reader' writer
        writer' errors errors' ran.report (words_called typed) (log link'))
    over_so Trace answered binding wanted given gave did = cc
    over_so job answered binding wanted (Ok link) gave did =
        let (bound, none_yet, later) = sockets network binding link gave in
        let (same, called) = came job link link' binding wanted did in
        let begun : out.seen link ≡ record { made = (out.seen link').made; history = [] } =
        grind (arith, none_yet, same) in
        record {
          job = job;
          answered = answered;
          made = (out.seen link').made;
          history = (out.seen link').history;
          runs = rw begun at called;
          told = run.fault;
          binding = binding;
          wanted = wanted;
          address = bound.address;
          at = bound.of_peer;
          asked = rw bound.asked at (later link' same);
        }
    over_so _ answered binding wanted (Err none) gave did = grind arith

    pub run_so : ran.socket ≡ Some (Ok link')
        → RunsAsCalls Origin out.remaining out.contents error_contents reader reader' writer writer' errors errors'
        ran.report (words_called typed) (log link')
    run_so had = had_job had over_so

  module _ {none' : F} (kept : F → N) (log : F → List SystemCall) (asks : AsksAtMostOnce gives kept log) where
    without_so : FromJob (Err none') (RunsWithout error_contents network (kept none') reader reader' writer writer'
        errors errors' ran.report (words_called typed) (log none'))
    without_so Trace answered binding wanted given gave over = cc
    without_so _ answered binding wanted (Err none) gave over =
        let (kept_so, asked) = asks network binding none gave in
        grind (arith, over, answered, wanted, kept_so, asked, run.help, run.reported, run.fault)
    without_so _ answered binding wanted (Ok link) gave over = absurd over

    pub run_without : ran.socket ≡ Some (Err none')
        → RunsWithout error_contents network (kept none') reader reader' writer writer' errors errors' ran.report
        (words_called typed) (log none')
    run_without had = had_job had without_so

module _ {N Origin L F R W E : Type 0} (gives : N → Binding → Result L F → Type 0) (out : Outside Origin L R W)
    (error_contents : E → Option (List ℕ)) (network : N) (reader reader' : Checked R) (writer writer' : Checked W)
    (errors errors' : Checked E) (ran : Ran N L F) where
  -- A run that asks for no socket.
  abbrev Unasked : Result (List Text) ErrorKind → Type 0
  Unasked typed =
      RunsUnasked out.remaining out.contents error_contents network reader reader' writer writer' errors errors' ran
      typed

  abbrev Ends : Result (List Text) ErrorKind → Type 0
  Ends typed = IsRun gives out error_contents network reader reader' writer writer' errors errors' ran typed

  only_so : (typed : Result (List Text) ErrorKind) (run : Ends typed) (reports : Report) → GiveNoJob typed reports
      → Only gives out network reader reader' writer run.unhelped (record ran { report = run.report }) reports
      → Unasked typed
  only_so typed run reports gives (unread, unprinted, ended) =
      let is : run.report ≡ reports = ap (λ (r : Ran N L F). r.report) ended in
      record {
        unasked = ap (λ (r : Ran N L F). r.unasked) ended;
        did = inr (
          reports,
          gives,
          record { unread = unread; helped = simp (← unprinted, ← is) run.help; reported = simp (← is) run.reported },
        );
        told = run.fault;
      }

  program_unasked : {typed : List Text} (run : Ends (Ok typed)) → ran.socket ≡ None
      → (answer : Result Job UsageFault) (opened : Option (Result L F))
      → (IsErrAnd answer (IsRefusal (words_called typed)) ⊎ Answers (words_called typed) answer)
      → IsGiven gives out network (option_and_then asked_by (result_ok answer)) opened
      → RunsAsRead gives out network reader reader' writer run.unhelped (record ran { report = run.report }) answer
      opened → IfNone opened (ran.unasked ≡ Some network) → Unasked (Ok typed)
  program_unasked run none (Ok Trace) None (inr answered) _ (script, _) unasked =
      let (kept, same) = unhelped run (grind (arith, script.reported)) in
      record {
        unasked = unasked;
        did = inl (
          answered,
          record { answer = script.answer; script = rw kept script.script; reported = same ∙ script.reported },
        );
        told = run.fault;
      }
  program_unasked run none (Err fault) _ answered _ only _ = only_so _ run _ (fault, answered, refl) only
  program_unasked run none (Ok job) _ (inl refused) _ _ _ = absurd refused
  program_unasked run none (Ok job) _ _ gave over _ = absurd (grind arith)

  pub run_unasked : (typed : Result (List Text) ErrorKind) → Ends typed → ran.socket ≡ None → Unasked typed
  run_unasked (Ok typed) run none = elim run.called [
    | inl p ↦ program_unasked run none p.answer p.opened p.answered p.given p.ends p.unasked
    | inr only ↦ only_so _ run _ (Memory, inl tt, refl) only
  ]
  run_unasked (Err kind) run none = only_so _ run _ refl run.called

-- ---- a call of the program runs the words of the call

module _ {N Origin L F R W E : Type 0} (gives : N → Binding → Result L F → Type 0) (out : Outside Origin L R W)
    (contents : E → Option (List ℕ)) (network : N) (reader : R) (reader' : Checked R) (writer : W) (writer' : Checked W)
    (errors errors' : Checked E) (ran : Ran N L F) (typed : List Text)
    (run : IsRun gives out contents network (fresh reader) reader' (fresh writer) writer' errors errors' ran (Ok typed))
  where
    -- The result of the words, with their report.
    abbrev there : Ran N L F
    there = record ran { report = run.report }

    abbrev Done : Type 0
    Done = ((words : ProgramRun gives out (words_called typed)) × (words.network ≡ network) × (words.reader ≡ reader)
        × (words.reader' ≡ reader') × (words.writer ≡ writer) × (words.writer' ≡ run.unhelped) × (words.ran ≡ there))
        ⊎ Only gives out network (fresh reader) reader' (fresh writer) run.unhelped there
        (report_of (faults.Usage Memory))

    -- The words that were typed are run, or there is no memory for them.
    pub runs_typed : Done
    runs_typed = elim run.called [
      | inl p ↦
          let (gained, gains) = program_gains gives out network _ _ _ _ there p.answer p.opened p.given p.ends in
          let words : ProgramRun gives out (words_called typed) = record {
            network = network;
            reader = reader;
            reader' = reader';
            writer = writer;
            writer' = run.unhelped;
            ran = there;
            program = p;
            gained = gained;
            gains = gains;
          } in
          inl (words, refl, refl, refl, refl, refl, refl)
      | inr lacks ↦ inr lacks
    ]
