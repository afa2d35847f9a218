-- The octets that a run read and wrote, and its result.
use Rattle.std.specs.Prelude.{[], codes, decimal, length, List, None, Option, Result, ℕ, ◌++◌, ◌+◌, ◌≡◌, ◌≤◌, ◌⊎◌}
use Rattle.bac_print.specs.{Gave, last_of, octets_of, reads_of, Took, declared.checked.Checked.Checked}
use Rattle.bac_script.specs.declared.input.Reading.{Reading, TheVariants.Open}
use Rattle.bac_script.specs.declared.tracing.{TraceEnd.TraceEnd, TraceFault.TraceFault}
use Rattle.bac_script.specs.declared.tracing.TraceFault.TheVariants.{BadLine, LineTooLong, ReadFailed, WriteFailed}
use Rattle.bac_script.specs.{Input.{ReaderStands, ReadsNoMore}, Script.{first_fault, lines, ScriptRuns, text}}

-- No line with a fault was among the octets before the last read, so that read was needed. There was at most one read
-- for each of those octets, and one more.
pub record LastIsNeeded {R : Type 0} (reader reader' : Checked R) (given : List ℕ) : Type 0 where
  pub before : List ℕ
  pub order : given ≡ before ++ last_of reader'
  pub asked : reads_of reader' ≤ reads_of reader + length before + 1
  pub going : first_fault (lines before Open) ≡ None

-- The reader gave these octets, and reading stopped in this way. Nothing was read, or the last read was needed.
pub record HasRead {R : Type 0} (remaining : R → Option (List ℕ)) (reader reader' : Checked R) (given : List ℕ)
    (reading : Reading) : Type 0 where
  pub gave : Gave remaining reader reader' given
  pub stopped : ReaderStands remaining reading reader reader' []
  pub needed : ((reader' ≡ reader) × (given ≡ [])) ⊎ LastIsNeeded reader reader' given
  pub spared : ReadsNoMore reader reader'

-- However the run ended, the text of the lines that were whole before the last read was written. It was written before
-- that read: a run does not know which read is its last, and later text would be lost if the writer failed.
abbrev pub IsToldFirst : {R W : Type 0} → Checked R → Checked W → Checked W → List ℕ → Type 0
IsToldFirst reader' writer writer' given = (before : List ℕ) → given ≡ before ++ last_of reader' →
    (later : List ℕ) × (octets_of writer' ≡ (octets_of writer ++ text before Open) ++ later)

-- The written text and the result are those of the script whose octets the reader gave, with reading stopped in this
-- way.
pub record Traces {R W : Type 0} (remaining : R → Option (List ℕ)) (contents : W → Option (List ℕ))
    (reader reader' : Checked R) (writer writer' : Checked W) (answer : Result TraceEnd TraceFault) : Type 0 where
  pub given : List ℕ
  pub reading : Reading
  pub written : List ℕ
  pub read : HasRead remaining reader reader' given reading
  pub told : IsToldFirst reader' writer writer' given
  pub took : Took contents writer writer' written
  pub runs : ScriptRuns given reading written answer

-- The message of a fault.
abbrev pub trace_fault_text : TraceFault → List ℕ
trace_fault_text (BadLine n) = codes "line " ++ (decimal n ++ codes ": bad line")
trace_fault_text (LineTooLong n) = codes "line " ++ (decimal n ++ codes ": too long")
trace_fault_text ReadFailed = codes "reading failed"
trace_fault_text WriteFailed = codes "writing failed"
