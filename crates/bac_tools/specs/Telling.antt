-- The texts on the standard streams, from the fault of a report.
use Rattle.std.specs.Prelude.{[], Bool, codes, Err, List, None, Option, Some, true, ℕ, ⊤, ◌++◌, ◌≡◌}
use Rattle.{bac_print.specs.{Writes, declared.checked.Checked.Checked}, bac_script.specs.Tracing.trace_fault_text}
use Rattle.bac_links.specs.{declared.fault.ToolFault.TheVariants.WriteFailed, Fault.{link_fault_text, tool_fault_text}}
use Rattle.bac_run.specs.Fault.{run_fault_text}
use Rattle.bac_words.specs.{declared.faults.UsageFault.TheVariants.Help, Fault.usage_told, Telling.{Line, Text, Told}}
use Rattle.bac_tools.specs.{declared.report.{Fault.Fault, Report.Report}, Report.tool_report}
use Rattle.bac_tools.specs.declared.report.Fault.TheVariants as faults

-- The message of a fault.
abbrev pub fault_told : Fault → Told
fault_told faults.NoText = Line (codes "words that are not UTF-8")
fault_told (faults.Usage fault) = usage_told fault
fault_told (faults.Link fault) = Line link_fault_text
fault_told (faults.Tool fault) = Line (tool_fault_text fault)
fault_told (faults.Trace fault) = Line (trace_fault_text fault)
fault_told (faults.Run fault) = Line (run_fault_text fault)

-- Standard output is given help that was asked for, and nothing else.
abbrev pub on_output : Option Fault → Option Told
on_output (Some (faults.Usage (Help message))) = Some (Text message)
on_output _ = None

-- Standard error is given the message of each other fault.
abbrev pub on_error : Option Fault → Option Told
on_error None = None
on_error (Some (faults.Usage (Help message))) = None
on_error (Some fault) = Some (fault_told fault)

-- The report after standard output was given its text. If the output failed and was to have help, the report has that
-- fault.
abbrev pub once_given : Option Fault → (failed : Bool) → Report → Report
once_given (Some (faults.Usage (Help message))) true report = tool_report (Err WriteFailed)
once_given _ _ report = report

-- The octets of a message: the program's name and a line. The octets of a text of `clap` are not specified.
abbrev pub AreOctetsOf : Told → List ℕ → Type 0
AreOctetsOf (Text message) octets = ⊤
AreOctetsOf (Line text) octets = octets ≡ codes "bactool: " ++ (text ++ codes "\n")

-- The writer is given the message, unless it fails. If there is no message, the writer is not used.
abbrev pub IsTold : {W : Type 0} → (W → Option (List ℕ)) → (before after : Checked W) → Option Told → Type 0
IsTold contents before after None = after ≡ before
IsTold contents before after (Some told) = (octets : List ℕ) × AreOctetsOf told octets
    × Writes contents before after [] [] octets
