-- From the words to the calls of the system.
use Rattle.std.specs.declared.{io.ErrorKind.ErrorKind, net.socket_addr.SocketAddr.SocketAddr}
use Rattle.std.specs.Prelude.{[], Err, List, Ok, Option, Result, Some, ℕ, ◌∷◌, ◌≡◌, ◌⊎◌}
use Rattle.{clap.specs.Words.Text, bac_pdu.specs.station}
use Rattle.bac_print.specs.{has_failed, declared.checked.Checked.Checked}
use Rattle.bac_script.specs.{declared.tracing.{TraceEnd.TraceEnd, TraceFault.TraceFault}, Tracing.Traces}
use Rattle.bac_links.specs.{Account, Bind, Binds, BindsAtMost, Entry}
use Rattle.bac_links.specs.declared.{exit.Exit.Exit, fault.ToolFault.ToolFault}
use Rattle.bac_links.specs.{Socket.{AreCallsFor, endless, IsAddressOf, Logs}, SystemCall.SystemCall}
use Rattle.bac_run.specs.declared.fault.RunFault.{RunFault}
use Rattle.bac_words.specs.{Answers, IsRefusal, words_called, declared.faults.UsageFault.UsageFault}
use Rattle.bac_words.specs.declared.job.{Batch.Batch, Job.{Job, TheVariants.{Run, Trace, Use}}, Tool.Tool}
use Rattle.bac_tools.specs.{Binding.asked_by, declared.{program.{Binding.Binding, Ran.Ran}, report.Report.Report}}
use Rattle.bac_tools.specs.Report.{report_of, run_report, tool_report, trace_report, unread_report}
use Rattle.bac_tools.specs.{Runs.{BatchRuns, ToolRuns}, Telling.{IsTold, on_error, on_output, once_given}}
use Rattle.bac_tools.specs.declared.report.Fault.TheVariants as faults

-- A network gives sockets. If it gives a link, the system was asked for a socket at the address and for nothing else,
-- and the link is new. For each later state of the link, the calls of the system since then are those for the entries
-- of its history, one after another, and no others. (`∥ ∥₁`: the calls can be divided in this way.)
abbrev pub GivesSockets : {N Origin L F : Type 0} → (N → Binding → Result L F → Type 0) → (L → Account Origin)
    → (L → List SystemCall) → Type 0
GivesSockets {N} {Origin} {L} gives seen log = (network : N) (binding : Binding) (link : L)
    → gives network binding (Ok link) → Binds binding.at (log link) × ((seen link).history ≡ [])
    × ((later : L) → (seen later).made ≡ (seen link).made
    → ∥ Logs (AreCallsFor binding.refused endless 0 (seen later).history) (log link) (log later) ∥₁)

-- A network without a socket to give is kept unchanged. It asks the system for at most one socket, at the address, and
-- for nothing else.
abbrev pub AsksAtMostOnce : {N L F : Type 0} → (N → Binding → Result L F → Type 0) → (kept : F → N)
    → (log : F → List SystemCall) → Type 0
AsksAtMostOnce {N} {F} gives kept log = (network : N) (binding : Binding) (none : F)
    → gives network binding (Err none) → (kept none ≡ network) × BindsAtMost binding.at (log none)

module _ {Origin R W : Type 0} (remaining : R → Option (List ℕ)) (contents : W → Option (List ℕ))
    (reader reader' : Checked R) (writer writer' : Checked W) (seen left : Account Origin) (report : Report) where
  -- A tool ran over a link: its lines were written, the reader was not read, and the report says how the tool ended.
  pub record ToolCalled (tool : Tool) : Type 0 where
    pub answer : Result Exit ToolFault
    pub runs : ToolRuns contents writer writer' seen left answer tool
    pub unread : reader' ≡ reader
    pub reported : report ≡ tool_report answer

  -- Many requests were made over a link, from the reader's lines: their journal was written, and the report says how
  -- they ended.
  pub record BatchCalled (batch : Batch) : Type 0 where
    pub answer : Result TraceEnd RunFault
    pub runs : BatchRuns remaining contents batch reader reader' writer writer' seen left answer
    pub reported : report ≡ run_report answer

  -- A job with a socket was run.
  abbrev pub JobCalled : Job → Type 0
  JobCalled Trace = ⊥
  JobCalled (Run batch) = BatchCalled batch
  JobCalled (Use tool) = ToolCalled tool

-- These words asked for a job with a socket, which ran over a link. Its lines were written, `errors` was given the
-- message of its fault, and the report says how it ended. The calls of the system are: one for a socket, at the address
-- that the job needs; then those for the job's calls of its link, one after another; and no others.
pub record RunsAsCalls (Origin : Type 0) {R W E : Type 0} (remaining : R → Option (List ℕ))
    (contents : W → Option (List ℕ)) (error_contents : E → Option (List ℕ)) (reader reader' : Checked R)
    (writer writer' : Checked W) (errors errors' : Checked E) (report : Report) (words : List Text)
    (log : List SystemCall) : Type 0 where
  pub job : Job
  pub answered : Answers words (Ok job)
  pub made : Origin
  pub history : List Entry
  pub runs : JobCalled remaining contents reader reader' writer writer' (record { made = made; history = [] })
      (record { made = made; history = history }) report job
  pub told : IsTold error_contents errors errors' (on_error report.fault)
  pub binding : Binding
  pub wanted : asked_by job ≡ Some binding
  pub address : SocketAddr
  pub at : IsAddressOf (station binding.at) address
  pub asked : ∥ Logs (AreCallsFor binding.refused endless 0 history) (Bind address ∷ []) log ∥₁

-- These words asked for a job, but no socket was available. Nothing was read or printed, and `errors` was given the
-- message of that fault. The system was asked for at most one socket, at the address that the job needs, and for
-- nothing else: the network was kept, so it gave nobody a socket.
pub record RunsWithout {N R W E : Type 0} (error_contents : E → Option (List ℕ)) (network kept : N)
    (reader reader' : Checked R) (writer writer' : Checked W) (errors errors' : Checked E) (report : Report)
    (words : List Text) (log : List SystemCall) : Type 0 where
  pub job : Job
  pub answered : Answers words (Ok job)
  pub unread : reader' ≡ reader
  pub unprinted : writer' ≡ writer
  pub reported : report ≡ report_of (faults.Link record {})
  pub told : IsTold error_contents errors errors' (on_error report.fault)
  pub binding : Binding
  pub wanted : asked_by job ≡ Some binding
  pub asked : BindsAtMost binding.at log
  pub unused : kept ≡ network

-- The words ask for a script.
abbrev pub AskForScript : Result (List Text) ErrorKind → Type 0
AskForScript (Ok typed) = Answers (words_called typed) (Ok Trace)
AskForScript (Err kind) = ⊥

-- The report of words that give no job: they could not be read; memory ran out; `clap` asks for help or refuses them;
-- or they have a first fault.
abbrev pub GiveNoJob : Result (List Text) ErrorKind → Report → Type 0
GiveNoJob (Ok typed) report =
    (fault : UsageFault) × (IsRefusal (words_called typed) fault ⊎ Answers (words_called typed) (Err fault))
    × (report ≡ report_of (faults.Usage fault))
GiveNoJob (Err kind) report = report ≡ unread_report kind

module _ {R W : Type 0} (remaining : R → Option (List ℕ)) (contents : W → Option (List ℕ)) (reader reader' : Checked R)
    (writer writer' : Checked W) (report : Report) where
  -- A script was run: its text was printed, and the report says how it ended.
  pub record ScriptCalled : Type 0 where
    pub answer : Result TraceEnd TraceFault
    pub script : Traces remaining contents reader reader' writer writer' answer
    pub reported : report ≡ trace_report answer

  -- Nothing was read, and nothing printed except help that was asked for. This is the report, if the help could be
  -- written.
  pub record OnlyReported (reports : Report) : Type 0 where
    pub unread : reader' ≡ reader
    pub helped : IsTold contents writer writer' (on_output reports.fault)
    pub reported : report ≡ once_given reports.fault (has_failed writer') reports

-- These words asked for no socket, and the network is unchanged, so it asked the system for nothing. Either they asked
-- for a script, which was run; or they gave no job, and nothing was done except to report why. `errors` was given the
-- message of the fault.
pub record RunsUnasked {N L F R W E : Type 0} (remaining : R → Option (List ℕ)) (contents : W → Option (List ℕ))
    (error_contents : E → Option (List ℕ)) (network : N) (reader reader' : Checked R) (writer writer' : Checked W)
    (errors errors' : Checked E) (ran : Ran N L F) (typed : Result (List Text) ErrorKind) : Type 0 where
  pub unasked : ran.unasked ≡ Some network
  pub did : (AskForScript typed × ScriptCalled remaining contents reader reader' writer writer' ran.report)
      ⊎ (reports : Report) × GiveNoJob typed reports
      × OnlyReported remaining contents reader reader' writer writer' ran.report reports
  pub told : IsTold error_contents errors errors' (on_error ran.report.fault)
