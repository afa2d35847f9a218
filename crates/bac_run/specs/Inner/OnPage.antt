-- A run of which some of the journal may still be on the page.
use Rattle.std.specs.{List.AllByRecursion, Prelude.{List, Option, Result, ℕ, ◌++◌, ◌∷◌, ◌≡◌}}
use Rattle.{bac_tsm.specs.new_client, bac_print.specs.{Prints, writer_of, declared.checked.Checked.Checked}}
use Rattle.{bac_print.specs.declared.page.Page.Page, bac_script.specs.declared.tracing.TraceEnd.TraceEnd}
use Rattle.{bac_links.specs.{Account, GainsAll}, bac_run.specs.Course.{EndsAt, Goes}}
use Rattle.bac_run.specs.{declared.{fault.RunFault.RunFault, setup.Setup.Setup}, Effects.{IsOver, IsWithin}}
use Rattle.bac_run.specs.{Inner.Went.HasPassed, Input.TakesLines, Journal.{Act, calls_of, client_after, FitsLine}}
use Rattle.bac_run.specs.Run.{first_stage, IsReadWhenDue, journal_lines, stage_by, WantsOut}

-- A run like that of `Runs`, except that some of the journal may still be on the page.
pub record RunsOn {Origin R W : Type 0} (remaining : R → Option (List ℕ)) (contents : W → Option (List ℕ))
    (setup : Setup) (reader reader' : Checked R) (page page' : Page W)
    (seen left : Account Origin) (result : Result TraceEnd RunFault) : Type 0 where
  pub acts : List Act
  pub takes : TakesLines remaining reader reader' acts result
  pub goes : Goes setup.config.timeout (first_stage setup) acts
  pub ends : EndsAt result (stage_by setup acts)
  pub read : IsReadWhenDue setup reader reader' takes.given acts
      (λ earlier. HasPassed page (writer_of page') (journal_lines setup earlier))
  pub prints : Prints contents page page' (journal_lines setup acts)
  pub out : (earlier later : List Act) (wait : Act) → WantsOut wait → acts ≡ earlier ++ wait ∷ later
      → HasPassed page (writer_of page') (journal_lines setup earlier)
  pub asks : GainsAll (calls_of acts) seen left
  pub over : IsOver result (client_after (new_client setup.config.timeout setup.config.retries 0) acts)
  pub within : IsWithin setup.window (new_client setup.config.timeout setup.config.retries 0) acts
  pub fit : AllByRecursion FitsLine acts
