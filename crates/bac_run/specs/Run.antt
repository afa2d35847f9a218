-- A whole run: its journal, and its calls of the link.
use Rattle.std.specs.List.{AllByRecursion, concat}
use Rattle.std.specs.Prelude.{[], length, List, Option, Result, ℕ, ◌++◌, ◌<◌, ◌∷◌, ◌≡◌, ◌≤◌, ◌⊎◌}
use Rattle.{bac_pdu.specs.longest_body, bac_tsm.specs.{Ask, new_client}}
use Rattle.bac_print.specs.{folded_line, last_of, octets_of, Writes, declared.checked.Checked.Checked, Page.folded}
use Rattle.bac_script.specs.{IsFrontOf, declared.tracing.TraceEnd.TraceEnd}
use Rattle.bac_links.specs.{Account, GainsAll}
use Rattle.bac_run.specs.Course.{EndsAt, Goes, NextLine, open_in, Outside, ready, Stage, stage_after, taking}
use Rattle.bac_run.specs.declared.{fault.RunFault.RunFault, setup.Setup.Setup}
use Rattle.bac_run.specs.Input.{HasNoWhole, lines_in, TakesLines}
use Rattle.bac_run.specs.Journal.{Act, Asked, calls_of, Came, client_after, FitsLine, journal, Passed, settings_line}
use Rattle.bac_run.specs.{Replay.AreSettings, Effects.{IsOver, IsWithin}}

-- The lines of the journal of a run: its settings, and its acts.
abbrev pub journal_lines : Setup → List Act → List ℕ
journal_lines setup acts = settings_line setup.config.timeout setup.config.retries
    ++ journal (new_client setup.config.timeout setup.config.retries 0) acts

-- The journal of a run: these lines, folded.
abbrev pub journal_of : Setup → List Act → List ℕ
journal_of setup acts = folded folded_line (journal_lines setup acts)

-- A writer took the text, or the beginning of it if it has failed.
abbrev pub IsPrinted : {W : Type 0} → (W → Option (List ℕ)) → Checked W → Checked W → List ℕ → Type 0
IsPrinted contents before after text = Writes contents before after [] [] text

-- The stage at which a run with this setup begins.
abbrev pub first_stage : Setup → Stage
first_stage setup = ready (new_client setup.config.timeout setup.config.retries 0) 0 (taking setup.window 0 [])

-- The stage of a run after these acts.
abbrev pub stage_by : Setup → List Act → Stage
stage_by setup = stage_after setup.config.timeout (first_stage setup)

-- The acts before which all output so far must be written: a wait that is not only a look, or a WriteProperty (15) that
-- can be sent.
abbrev pub WantsOut : Act → Type 0
WantsOut (Asked line (Ask peer service body)) = (service ≡ 15) × (length body ≤ longest_body)
WantsOut (Came wait from octets) = 0 < wait
WantsOut (Passed wait heard) = 0 < wait
WantsOut act = ⊥

-- A run takes the next line: no other act is due, and there is room for one more request.
abbrev pub WantsLine : Setup → Stage → Type 0
WantsLine setup stage = (taken : ℕ) × (stage.phase ≡ Outside) × (stage.aims ≡ NextLine setup.window taken ∷ [])
    × (open_in stage.client < setup.window)

-- The last read of the input was due: the run had taken all whole lines given before, and was to take the next one. All
-- output before it was written. A run does not know which read is its last.
pub record LastIsDue {R : Type 0} (setup : Setup) (reader' : Checked R) (given : List ℕ) (acts : List Act)
    (IsPast : List Act → Type 0) : Type 0 where
  pub before : List ℕ
  pub held : List ℕ
  pub earlier : List Act
  pub later : List Act
  pub order : given ≡ before ++ last_of reader'
  pub did : acts ≡ earlier ++ later
  pub took : before ≡ concat (lines_in earlier) ++ held
  pub no_line : HasNoWhole held
  pub wanted : WantsLine setup (stage_by setup earlier)
  pub told : IsPast earlier

-- The input was not read, or the last read was due.
abbrev pub IsReadWhenDue : {R : Type 0} → Setup → (reader reader' : Checked R) → (given : List ℕ) → List Act
    → (List Act → Type 0) → Type 0
IsReadWhenDue setup reader reader' given acts IsPast =
    ((reader' ≡ reader) × (given ≡ [])) ⊎ LastIsDue setup reader' given acts IsPast

-- A writer took the journal of these acts.
abbrev pub IsTold : {W : Type 0} → Setup → Checked W → Checked W → List Act → Type 0
IsTold setup before after acts = IsFrontOf (octets_of before ++ journal_of setup acts) (octets_of after)

-- All output so far was written before each act with `WantsOut`: a writer that failed took at least the journal up to
-- the last of these acts.
abbrev pub IsOut : {W : Type 0} → Setup → Checked W → Checked W → List Act → Type 0
IsOut setup before after acts = (earlier later : List Act) (act : Act) → WantsOut act
    → acts ≡ earlier ++ act ∷ later → IsTold setup before after earlier

-- A run did these acts, each when it was due, and ended as its stage says. The acts took the lines of its reader, and
-- did what these ask for; the input was read only when that was due. Their journal was printed, and the link was called
-- as they say. At each request and each line that was taken, fewer requests than the window were open. At the end no
-- request is open, even after a bad line; but some may be if the link, the turns or the writer failed. The settings can
-- be written in a script, and so can the answers of the link.
pub record Runs {Origin R W : Type 0} (remaining : R → Option (List ℕ)) (contents : W → Option (List ℕ))
    (setup : Setup) (reader reader' : Checked R) (before after : Checked W)
    (seen left : Account Origin) (result : Result TraceEnd RunFault) : Type 0 where
  pub acts : List Act
  pub takes : TakesLines remaining reader reader' acts result
  pub goes : Goes setup.config.timeout (first_stage setup) acts
  pub ends : EndsAt result (stage_by setup acts)
  pub read : IsReadWhenDue setup reader reader' takes.given acts (IsTold setup before after)
  pub printed : IsPrinted contents before after (journal_of setup acts)
  pub out : IsOut setup before after acts
  pub asks : GainsAll (calls_of acts) seen left
  pub over : IsOver result (client_after (new_client setup.config.timeout setup.config.retries 0) acts)
  pub within : IsWithin setup.window (new_client setup.config.timeout setup.config.retries 0) acts
  pub fit : AllByRecursion FitsLine acts
  pub settings : AreSettings setup
