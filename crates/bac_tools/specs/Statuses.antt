-- The status of the program: after each end of a job, and after each fault.
use Rattle.std.specs.Prelude.{ℕ, Result, Ok, Err}
use Rattle.bac_links.specs.declared.{exit.Exit.{Exit, TheVariants.{Good, Bad}}, fault.ToolFault.ToolFault}
use Rattle.bac_script.specs.declared.tracing.TraceEnd.{TraceEnd}
use Rattle.bac_script.specs.declared.tracing.TraceFault.{TraceFault, TheVariants.{BadLine, LineTooLong}}
use Rattle.bac_run.specs.declared.fault.RunFault.{RunFault, TheVariants.{Script, Link}}
use Rattle.bac_words.specs.declared.faults.UsageFault.{UsageFault, TheVariants.{Help, Memory}}
use Rattle.bac_tools.specs.declared.report.Fault.{Fault}
use Rattle.bac_tools.specs.declared.report.Fault.TheVariants as faults

-- The status after a tool.
abbrev pub status_of : Result Exit ToolFault → ℕ
status_of (Ok Good) = 0
status_of (Ok Bad) = 1
status_of (Err fault) = 3

-- The status after a script: at its end, after a bad or too long line, and if a reader or a writer failed.
abbrev pub trace_status_of : Result TraceEnd TraceFault → ℕ
trace_status_of (Ok end) = 0
trace_status_of (Err (BadLine n)) = 2
trace_status_of (Err (LineTooLong n)) = 2
trace_status_of _ = 3

-- The status after many requests: as after a script, or if the link failed.
abbrev pub run_status_of : Result TraceEnd RunFault → ℕ
run_status_of (Ok end) = 0
run_status_of (Err (Script fault)) = trace_status_of (Err fault)
run_status_of (Err (Link fault)) = 3

-- The status after words that give no job: help was asked for, memory ran out, or the words are wrong.
abbrev pub usage_status_of : UsageFault → ℕ
usage_status_of (Help e) = 0
usage_status_of Memory = 4
usage_status_of _ = 2

-- The status of each fault: 0 if help was asked for; 2 if words, or a line of a script or of requests, are wrong; 3 if
-- a socket, a reader or a writer failed or the turns were spent; 4 without memory.
abbrev pub fault_status : Fault → ℕ
fault_status faults.NoText = 2
fault_status (faults.Usage fault) = usage_status_of fault
fault_status (faults.Link fault) = 3
fault_status (faults.Tool fault) = status_of (Err fault)
fault_status (faults.Trace fault) = trace_status_of (Err fault)
fault_status (faults.Run fault) = run_status_of (Err fault)
