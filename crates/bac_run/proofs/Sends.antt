-- A run offers the link the datagrams that its remarks name, and no others.
use Rattle.std.proofs.Common.{[], append-nil, append_assoc, arith, Err, flat_map, List, refl, Result, Some, ℕ}
use Rattle.std.proofs.{Common.{◌++◌, ◌∷◌, ◌≡◌}, lemmas.List.Concat.flat_map-append}
use Rattle.{bac_pdu.specs.Station, bac_script.specs.declared.tracing.TraceFault.TheVariants.WriteFailed}
use Rattle.bac_run.{proofs.Todo.{goes_sends, pending}, specs.{Act, Aim, AreOffered, calls_of, EndsAt}}
use Rattle.bac_run.specs.{first_stage, Goes, new_client, offered_in, Phase, refused_in, result_at, result_in, RunFault}
use Rattle.bac_run.specs.{Script, sends_of, Setup, stage_by, TraceEnd, unsent_in}

-- A run that is over has offered all its datagrams.
over_none : (phase : Phase) (aims : List Aim) (result : Result TraceEnd RunFault)
    → result_in phase aims ≡ Some result → pending phase ≡ []
over_none = grind (arith, append_assoc, append-nil)

module _ (setup : Setup) (acts : List Act) (goes : Goes setup.config.timeout (first_stage setup) acts) where
  abbrev due : List (Station × List ℕ)
  due = sends_of (new_client setup.config.timeout setup.config.retries 0) acts

  abbrev offered : List (Station × List ℕ)
  offered = flat_map offered_in (calls_of acts)

  all_or_left : due ≡ offered ++ pending (stage_by setup acts).phase
  all_or_left = goes_sends setup.config.timeout (first_stage setup) acts goes

  all_offered : (result : Result TraceEnd RunFault) → result_at (stage_by setup acts) ≡ Some result → offered ≡ due
  all_offered = grind (arith, append-nil, over_none, all_or_left)

  pub are_offered : (result : Result TraceEnd RunFault) → EndsAt result (stage_by setup acts)
      → AreOffered result due offered
  are_offered (Err (Script WriteFailed)) ends = (pending (stage_by setup acts).phase, all_or_left)
  are_offered result ends = all_offered _ ends

pub refused_by : (acts : List Act) → flat_map refused_in (calls_of acts) ≡ flat_map unsent_in acts
refused_by [] = refl
refused_by (act ∷ acts) = grind (arith, flat_map-append, refused_by acts)
