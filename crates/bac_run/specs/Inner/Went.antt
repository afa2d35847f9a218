-- The effect of a part of a run on its client, its page and its link.
use Rattle.std.specs.{List.AllByRecursion, Prelude.{Bool, Err, false, if◌then◌else◌, List, Ok, Option}}
use Rattle.std.specs.Prelude.{Result, suc, true, ℕ, ◌++◌, ◌<◌, ◌^◌, ◌∷◌, ◌≡◌}
use Rattle.{bac_pdu.specs.Station, bac_tsm.specs.{Client.Client}}
use Rattle.bac_print.specs.{has_failed, held, octets_of, Prints, room_of}
use Rattle.bac_print.specs.{writer_of, declared.{checked.Checked.Checked, page.Page.Page}, Page.laid_out}
use Rattle.bac_script.specs.{IsFrontOf, declared.tracing.TraceFault.TheVariants.WriteFailed}
use Rattle.bac_links.specs.{Account, GainsAll, most_turns}
use Rattle.bac_run.specs.Course.{Aim, Goes, handing, Looked, Outside, settled, Stage, stage_after, StopsAt, telling}
use Rattle.bac_run.specs.Course.{Turns}
use Rattle.bac_run.specs.declared.fault.RunFault.{RunFault, TheVariants.{Link, Script}}
use Rattle.bac_run.specs.declared.turns.{Runner.Runner, Until.Until}
use Rattle.bac_run.specs.{Effects.IsWithin, Input.feeds_in, Run.WantsOut}
use Rattle.bac_run.specs.Journal.{Act, calls_of, client_after, FitsLine, journal}

-- The result that all was done; and that the run stopped with this fault.
abbrev pub done : Result (Unit {0}) RunFault
done = Ok tt

abbrev pub stopped : RunFault → Result (Unit {0}) RunFault
stopped fault = Err fault

-- With this result a part of a run leads to this stage; with a fault it stops at the stage that it reached.
abbrev pub ComesTo : {A : Type 0} → Result A RunFault → (stage left : Stage) → Type 0
ComesTo (Ok x) stage left = left ≡ stage
ComesTo (Err fault) stage left = StopsAt fault left

-- The stage of a run outside a turn, with these aims; and the stage without the aims that are reached.
abbrev pub outside : Runner → List Aim → Stage
outside run aims = record { client = run.client; since_told = run.since_told; phase = Outside; aims = aims }

abbrev pub started : Runner → List Aim → Stage
started run aims = settled (outside run aims)

-- The stage in which these datagrams must be offered to the link.
abbrev pub to_hand : Runner → List (Station × List ℕ) × List Aim → Stage
to_hand run (sends, aims) = settled (record (outside run aims) { phase = handing sends })

-- The stages before and after a turn: a wait has one turn less, or all again if the client got a time.
abbrev pub begins_turn : Runner → Until × ℕ × List Aim → Stage
begins_turn run (until, left, later) = outside run (Turns until (suc left) ∷ later)

abbrev pub told_in : Runner → (told : Bool) → Until × ℕ × List Aim → Stage
told_in run told (until, left, later) = started run (Turns until (if told then most_turns else left) ∷ later)

abbrev pub ends_turn : {A : Type 0} → Runner → Result Bool A → Until × ℕ × List Aim → Stage
ends_turn run (Ok told) = told_in run told
ends_turn run (Err fault) = told_in run false

-- The clock of a client moved on if the client got a time, and is unchanged otherwise.
abbrev pub MovesClock : (told : Bool) → (before after : Client) → Type 0
MovesClock true before after = (before.state.clock < after.state.clock) × (after.state.clock < 2 ^ 64)
MovesClock false before after = after.state.clock ≡ before.state.clock

-- The stage after the time of a turn was read.
abbrev pub looking : Runner → ℕ × List Aim → Stage
looking run (time, aims) = record (outside run aims) { phase = Looked time }

-- The stage in which the client must get a time.
abbrev pub to_tell : Runner → ℕ → List Aim → Stage
to_tell run time aims = settled (telling (outside run aims) time)

-- The stage of a wait in which the client must get this time.
abbrev pub telling_in : Runner → ℕ → Until × ℕ × List Aim → Stage
telling_in run time (until, left, later) = to_tell run time (Turns until left ∷ later)

-- The stage after a wait: the client must get the time of the turn, or not yet.
abbrev pub heard_until : Runner → (defers : Bool) → ℕ → List Aim → Stage
heard_until run defers time aims = if defers then started run aims else to_tell run time aims

abbrev pub hearing : {A : Type 0} → Runner → Result Bool A → ℕ × List Aim → Stage
hearing run (Ok defers) (time, aims) = heard_until run defers time aims
hearing run (Err fault) (time, aims) = started run aims

-- The writer took at least this much; it had not failed before.
pub record HasPassed {W : Type 0} (page : Page W) (after : Checked W) (text : List ℕ) : Type 0 where
  pub sound : has_failed (writer_of page) ≡ false
  pub front : IsFrontOf (octets_of (writer_of page) ++ (held page ++ laid_out (room_of page) text)) (octets_of after)

-- Before each wait among these acts all printed text was written.
abbrev pub IsOutAt : {W : Type 0} → Client → (page page' : Page W) → List Act → Type 0
IsOutAt client page page' acts = (earlier later : List Act) (wait : Act) → WantsOut wait
    → acts ≡ earlier ++ wait ∷ later → HasPassed page (writer_of page') (journal client earlier)

-- Some acts were done, each when it was due, from one stage to another, whatever the later aims are; some of them took
-- the input. The client is the one after them, their journal was printed, the link was called as they say, and at each
-- request and each line that was taken, fewer requests than the window were open.
pub record Went {Origin W A I : Type 0} (contents : W → Option (List ℕ)) (run run' : Runner) (page page' : Page W)
    (seen left : Account Origin) (from to : I → Stage) (result : Result A RunFault) (feeds : List Act)
    : Type 0 where
  pub acts : List Act
  pub takes : feeds_in acts ≡ feeds
  pub same : run'.setup ≡ run.setup
  pub goes : (i : I) → Goes run.setup.config.timeout (from i) acts
  pub comes : (i : I) → ComesTo result (to i) (stage_after run.setup.config.timeout (from i) acts)
  pub client_is : run'.client ≡ client_after run.client acts
  pub prints : Prints contents page page' (journal run.client acts)
  pub out : IsOutAt run.client page page' acts
  pub asks : GainsAll (calls_of acts) seen left
  pub fit : AllByRecursion FitsLine acts
  pub within : IsWithin run.setup.window run.client acts

-- The fault may come while requests are open: it is of the link, or of the writer.
abbrev pub IsOfWait : RunFault → Type 0
IsOfWait (Link fault) = Unit {0}
IsOfWait (Script WriteFailed) = Unit {0}
IsOfWait (Script fault) = ⊥
