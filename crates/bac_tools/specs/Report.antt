-- The status with which the program ends, and the fault that it reports.
use Rattle.std.specs.Prelude.{◌≡◌, ◌≤◌, ℕ, Option, Some, None, option_map, Result}
use Rattle.std.specs.{Result.result_err, declared.io.ErrorKind.{ErrorKind, TheVariants.OutOfMemory}}
use Rattle.bac_script.specs.declared.tracing.{TraceEnd.TraceEnd, TraceFault.TraceFault}
use Rattle.bac_run.specs.declared.fault.RunFault.{RunFault}
use Rattle.bac_links.specs.declared.{exit.Exit.Exit, fault.ToolFault.ToolFault}
use Rattle.bac_words.specs.declared.faults.UsageFault.TheVariants.{Memory}
use Rattle.bac_tools.specs.Statuses.{fault_status, run_status_of, status_of, trace_status_of}
use Rattle.bac_tools.specs.declared.report.{Fault.Fault, Report.Report}
use Rattle.bac_tools.specs.declared.report.Fault.TheVariants as faults

-- The status is that of the reported fault; without a fault it is 0, or 1 if the tool did not end well.
abbrev pub IsStatusOf : Option Fault → ℕ → Type 0
IsStatusOf None status = status ≤ 1
IsStatusOf (Some fault) status = status ≡ fault_status fault

-- The report of a fault.
abbrev pub report_of : Fault → Report
report_of fault = record { status = fault_status fault; fault = Some fault }

-- The report if the words could not be read: memory ran out, or they are not UTF-8.
abbrev pub unread_report : ErrorKind → Report
unread_report OutOfMemory = report_of (faults.Usage Memory)
unread_report kind = report_of faults.NoText

-- The report after a tool over a link.
abbrev pub tool_report : Result Exit ToolFault → Report
tool_report answer = record { status = status_of answer; fault = option_map faults.Tool (result_err answer) }

-- The report after a script.
abbrev pub trace_report : Result TraceEnd TraceFault → Report
trace_report answer = record { status = trace_status_of answer; fault = option_map faults.Trace (result_err answer) }

-- The report after a run of many requests.
abbrev pub run_report : Result TraceEnd RunFault → Report
run_report answer = record { status = run_status_of answer; fault = option_map faults.Run (result_err answer) }
