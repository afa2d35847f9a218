-- From the words to the calls of the socket, the printed text, and the status.
use Rattle.std.specs.declared.{io.{Error.Error, ErrorKind.ErrorKind}, string.String.String, vec.IntoIter.IntoIter}
use Rattle.std.specs.{IoError.error_kind, Prelude.{Err, IfNone, IsErrAnd, IsSomeAnd, List, map, None, Ok, Option}}
use Rattle.std.specs.Prelude.{option_and_then, Result, Some, ℕ, ◌≡◌, ◌⊎◌}
use Rattle.std.specs.{Result.{result_map_both, result_ok}, String.string_bytes, Vec.Iter.into_iter_items}
use Rattle.{clap.specs.Words.Text, bac_print.specs.{has_failed, declared.checked.Checked.Checked}}
use Rattle.bac_words.specs.{Answers, IsRefusal, words_called}
use Rattle.bac_words.specs.declared.{faults.UsageFault.{UsageFault, TheVariants.Memory}, job.Job.Job}
use Rattle.bac_tools.specs.{Binding.asked_by, declared.{program.{Binding.Binding, Ran.Ran}, report.Report.Report}}
use Rattle.bac_tools.specs.{Outside.Outside, Report.{report_of, unread_report}, Runs.JobRuns}
use Rattle.bac_tools.specs.Telling.{IsTold, on_error, on_output, once_given}
use Rattle.bac_tools.specs.declared.report.Fault.TheVariants as faults

-- The words that the system gives, or why it gives none.
abbrev pub texts_of : {Z : Type 0} → Result (IntoIter (String Z) Z) Error → Result (List Text) ErrorKind
texts_of typed = result_map_both (λ words. map string_bytes (into_iter_items words)) error_kind typed

module _ {N Origin L F R W : Type 0} (gives : N → Binding → Result L F → Type 0) (out : Outside Origin L R W) where
  -- The network's result if a socket is asked for; otherwise none.
  abbrev pub IsGiven : N → Option Binding → Option (Result L F) → Type 0
  IsGiven network None opened = opened ≡ None
  IsGiven network (Some binding) opened = IsSomeAnd opened (gives network binding)

  module _ (network : N) (reader reader' : Checked R) (writer writer' : Checked W) (ran : Ran N L F) where
    -- Nothing is read, printed or asked for, and this report is returned.
    abbrev pub Only : Report → Type 0
    Only report = (reader' ≡ reader) × (writer' ≡ writer)
        × (ran ≡ record { report = report; socket = None; unasked = Some network })

    -- A job is run over the socket that it asks for. If the words give no job, the report says why.
    abbrev pub RunsAsRead : Result Job UsageFault → Option (Result L F) → Type 0
    RunsAsRead (Ok job) opened = JobRuns out reader reader' writer writer' ran.report job opened ran.socket
    RunsAsRead (Err fault) opened = Only (report_of (faults.Usage fault))

    -- The words give a job, or a fault: memory ran out, `clap` asks for help or refuses them, or they have a first
    -- fault. The program asks for the socket of the job, and ends as the job or the fault says. If it asks for no
    -- socket, the network is handed back.
    pub record Program (words : List Text) : Type 0 where
      pub answer : Result Job UsageFault
      pub answered : IsErrAnd answer (IsRefusal words) ⊎ Answers words answer
      pub opened : Option (Result L F)
      pub given : IsGiven network (option_and_then asked_by (result_ok answer)) opened
      pub ends : RunsAsRead answer opened
      pub unasked : IfNone opened (ran.unasked ≡ Some network)

    -- The words of the call are run, unless there is no memory for them. If the system gave no words, the report says
    -- why.
    abbrev pub IsCalled : Result (List Text) ErrorKind → Type 0
    IsCalled (Ok typed) = Program (words_called typed) ⊎ Only (report_of (faults.Usage Memory))
    IsCalled (Err kind) = Only (unread_report kind)

  module _ {E : Type 0} (contents : E → Option (List ℕ)) (network : N) (reader reader' : Checked R)
      (writer writer' : Checked W) (errors errors' : Checked E) (ran : Ran N L F) where
    -- The words are run. Then help that was asked for is written to the writer, and the message of any other fault to
    -- `errors`. The report is that of the words, unless the help could not be written.
    pub record IsRun (typed : Result (List Text) ErrorKind) : Type 0 where
      pub unhelped : Checked W
      pub report : Report
      pub called : IsCalled network reader reader' writer unhelped (record ran { report = report }) typed
      pub help : IsTold out.contents unhelped writer' (on_output report.fault)
      pub reported : ran.report ≡ once_given report.fault (has_failed writer') report
      pub fault : IsTold contents errors errors' (on_error ran.report.fault)
