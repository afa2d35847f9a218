-- A script whose text is still on its way to the writer.
use Rattle.std.specs.Prelude.{List, Option, Result, ℕ}
use Rattle.bac_print.specs.{Prints, writer_of, declared.{checked.Checked.Checked, page.Page.Page}}
use Rattle.bac_script.specs.declared.{input.Reading.Reading, tracing.{TraceEnd.TraceEnd, TraceFault.TraceFault}}
use Rattle.bac_script.specs.{Script.ScriptRuns, Tracing.{HasRead, IsToldFirst}}

-- `Traces`, while some of the text may still be on the page: the printed text is that of the script, or the beginning
-- of it if the writer failed.
pub record RunsOn {R W : Type 0} (remaining : R → Option (List ℕ)) (contents : W → Option (List ℕ))
    (reader reader' : Checked R) (page page' : Page W) (answer : Result TraceEnd TraceFault) : Type 0 where
  pub given : List ℕ
  pub reading : Reading
  pub printed : List ℕ
  pub read : HasRead remaining reader reader' given reading
  pub told : IsToldFirst reader' (writer_of page) (writer_of page') given
  pub prints : Prints contents page page' printed
  pub runs : ScriptRuns given reading printed answer
