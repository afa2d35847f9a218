-- Why a run stopped, and the message of the fault.
use Rattle.std.specs.Prelude.{Bool, Err, false, List, Result, ℕ}
use Rattle.bac_script.specs.{declared.tracing.TraceFault.TheVariants.WriteFailed, Tracing.trace_fault_text}
use Rattle.bac_links.specs.Fault.{is_link_fault, tool_fault_text}
use Rattle.bac_run.specs.declared.fault.RunFault.{RunFault, TheVariants.{Link, Script}}

-- The writer failed.
abbrev pub write_failed : RunFault
write_failed = Script WriteFailed

-- The fault is one of the link, which has failed.
abbrev pub is_of_link : {A : Type 0} → Result A RunFault → Bool
is_of_link (Err (Link fault)) = is_link_fault {A = Unit {0}} (Err fault)
is_of_link _ = false

-- The message of the fault.
abbrev pub run_fault_text : RunFault → List ℕ
run_fault_text (Script fault) = trace_fault_text fault
run_fault_text (Link fault) = tool_fault_text fault
