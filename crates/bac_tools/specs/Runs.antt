-- The text, the sends and the end of a job, and how the program ends: for each job by the definition of its tool.
use Rattle.std.specs.Prelude.{[], Err, List, Ok, Option, Result, Some, true, ℕ, ◌↔◌, ◌≡◌, ◌≢◌}
use Rattle.bac_device.specs.{demo_points, device_after, DeviceState}
use Rattle.bac_print.specs.{has_failed, declared.checked.Checked.Checked}
use Rattle.bac_script.specs.{declared.tracing.{TraceEnd.TraceEnd, TraceFault.TraceFault}, Tracing.Traces}
use Rattle.bac_links.specs.{Account, Tells, declared.call.Purpose.TheVariants.{Reading, Writing}}
use Rattle.bac_links.specs.declared.{exit.Exit.{Exit, TheVariants.Good}, fault.ToolFault.ToolFault}
use Rattle.bac_links.specs.{Fault.{is_link_fault, is_write_fault}, Search.Searched, Serve.Serves}
use Rattle.bac_run.specs.declared.{fault.RunFault.RunFault, setup.Setup.Setup}
use Rattle.bac_run.specs.{Fault.{is_of_link, write_failed}, Run.Runs as Requested}
use Rattle.bac_words.specs.declared.job.{Batch.Batch, Job.{Job, TheVariants.{Run, Trace, Use}}, Serve.Serve}
use Rattle.bac_words.specs.declared.job.Tool.{Tool, TheVariants.{Device, Read, WhoIs, Write}}
use Rattle.bac_tools.specs.{declared.report.Report.Report, Outside.Outside}
use Rattle.bac_tools.specs.Report.{report_of, run_report, tool_report, trace_report}
use Rattle.bac_script.specs.declared.tracing.TraceFault.TheVariants as stops
use Rattle.bac_tools.specs.declared.report.Fault.TheVariants as faults

-- A server that ended with the number of its replies ended well.
abbrev pub exit_after : Result ℕ ToolFault → Result Exit ToolFault
exit_after (Ok replies) = Ok Good
exit_after (Err fault) = Err fault

-- A demonstration device: its replies to the datagrams that come.
pub record DevicePlays {Origin : Type 0} (serve : Serve) (seen left : Account Origin) (answer : Result Exit ToolFault)
    : Type 0 where
  pub device : DeviceState
  pub served : Result ℕ ToolFault
  pub serves : Serves serve.count (device_after serve.info demo_points []) device seen left served
  pub answered : answer ≡ exit_after served

-- ---- the tools over a link: their effect on the writer and the link, and their answer

module _ {Origin W : Type 0} (contents : W → Option (List ℕ)) (writer writer' : Checked W)
    (seen left : Account Origin) (answer : Result Exit ToolFault) where
  -- A request: its events, its sends, its end and the line of its end, by the look-ahead. A search: the devices that it
  -- finds, and their lines. A device: its replies, and no text.
  abbrev pub ToolRuns : Tool → Type 0
  ToolRuns (Read call) = Tells Reading call contents writer writer' seen left answer
  ToolRuns (Write call) = Tells Writing call contents writer writer' seen left answer
  ToolRuns (WhoIs search) = Searched search contents writer writer' seen left answer
  ToolRuns (Device serve) = DevicePlays serve seen left answer × (writer' ≡ writer)

-- ---- many requests over a link

-- A setup has the settings of its batch.
pub record IsSetupOf (batch : Batch) (setup : Setup) : Type 0 where
  pub timeout : setup.config.timeout ≡ batch.timeout
  pub retries : setup.config.retries ≡ batch.retries
  pub window : setup.window ≡ batch.window

-- The requests of the reader's lines were made, and their journal was printed.
pub record BatchRuns {Origin R W : Type 0} (remaining : R → Option (List ℕ)) (contents : W → Option (List ℕ))
    (batch : Batch) (reader reader' : Checked R) (writer writer' : Checked W) (seen left : Account Origin)
    (answer : Result TraceEnd RunFault) : Type 0 where
  pub setup : Setup
  pub of_batch : IsSetupOf batch setup
  pub requested : Requested remaining contents setup reader reader' writer writer' seen left answer

-- ---- the whole

module _ {Origin L R W : Type 0} (out : Outside Origin L R W) (reader reader' : Checked R) (writer writer' : Checked W)
    (report : Report) where
  -- A tool was run over a link, and the report is that of its answer. The link or the writer has failed exactly if the
  -- fault says so.
  pub record RunsOver (tool : Tool) (link link' : L) : Type 0 where
    pub answer : Result Exit ToolFault
    pub runs : ToolRuns out.contents writer writer' (out.seen link) (out.seen link') answer tool
    pub link_fault : out.failed link' ≡ is_link_fault answer
    pub write_fault : has_failed writer' ≡ is_write_fault answer
    pub unread : reader' ≡ reader
    pub reported : report ≡ tool_report answer

  -- Many requests were made over a link, and the report is that of their answer. A failed writer is reported; otherwise
  -- the link has failed exactly if the fault says so.
  pub record RunsBatch (batch : Batch) (link link' : L) : Type 0 where
    pub answer : Result TraceEnd RunFault
    pub runs : BatchRuns out.remaining out.contents batch reader reader' writer writer' (out.seen link) (out.seen link')
        answer
    pub link_fault : answer ≢ Err write_failed → out.failed link' ≡ is_of_link answer
    pub write_fault : (has_failed writer' ≡ true) ↔ (answer ≡ Err write_failed)
    pub reported : report ≡ run_report answer

  -- A script was run: its text was printed, and the report says how it ended.
  pub record RunsScript : Type 0 where
    pub answer : Result TraceEnd TraceFault
    pub script : Traces out.remaining out.contents reader reader' writer writer' answer
    pub write_fault : (has_failed writer' ≡ true) ↔ (answer ≡ Err stops.WriteFailed)
    pub reported : report ≡ trace_report answer

  -- A job was run over the socket, which is handed back. If no socket was available, nothing was read or printed, the
  -- report says so, and the reason is handed back.
  abbrev pub RunsOpened : {F : Type 0} → (L → L → Type 0) → Option (Result L F) → Option (Result L F) → Type 0
  RunsOpened over (Some (Err none)) opened' = (opened' ≡ Some (Err none)) × (reader' ≡ reader) × (writer' ≡ writer)
      × (report ≡ report_of (faults.Link record {}))
  RunsOpened over (Some (Ok link)) (Some (Ok link')) = over link link'
  RunsOpened over opened opened' = ⊥

  -- The effect of a job on the socket that was opened for it, its reader and its writer, and the report.
  abbrev pub JobRuns : {F : Type 0} → Job → Option (Result L F) → Option (Result L F) → Type 0
  JobRuns Trace = λ opened opened'. RunsScript × (opened' ≡ opened)
  JobRuns (Run batch) = RunsOpened (RunsBatch batch)
  JobRuns (Use tool) = RunsOpened (RunsOver tool)
