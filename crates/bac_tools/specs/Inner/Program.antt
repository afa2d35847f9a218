-- A job of the program after its words are read.
use Rattle.std.specs.Prelude.{◌≡◌, IfNone, Option, Result, Some}
use Rattle.bac_print.specs.declared.checked.Checked.{Checked}
use Rattle.bac_words.specs.declared.job.Job.{Job, TheVariants.{Run, Trace, Use}}
use Rattle.bac_tools.specs.{Binding.asked_by, declared.{program.{Binding.Binding, Ran.Ran}, report.Report.Report}}
use Rattle.bac_tools.specs.{Outside.Outside, Program.IsGiven, Runs.{JobRuns, RunsBatch, RunsOver}}

-- A job that needs a socket is run over a link.
abbrev pub RunsLinked : {Origin L R W : Type 0} → Outside Origin L R W → (reader reader' : Checked R)
    → (writer writer' : Checked W) → Report → Job → L → L → Type 0
RunsLinked out reader reader' writer writer' report Trace link link' = ⊥
RunsLinked out reader reader' writer writer' report (Run batch) link link' =
    RunsBatch out reader reader' writer writer' report batch link link'
RunsLinked out reader reader' writer writer' report (Use tool) link link' =
    RunsOver out reader reader' writer writer' report tool link link'

-- A job is run over the socket that it needs. If it needs none, the network is handed back.
pub record RunsJob {N Origin L F R W : Type 0} (gives : N → Binding → Result L F → Type 0) (out : Outside Origin L R W)
    (network : N) (reader reader' : Checked R) (writer writer' : Checked W) (ran : Ran N L F) (job : Job)
    : Type 0 where
  pub opened : Option (Result L F)
  pub given : IsGiven gives out network (asked_by job) opened
  pub ends : JobRuns out reader reader' writer writer' ran.report job opened ran.socket
  pub unasked : IfNone opened (ran.unasked ≡ Some network)
