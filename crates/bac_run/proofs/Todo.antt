-- What a run has still to do: acts of the lines that it took, and datagrams that it must offer to the link.
use Rattle.std.proofs.Common.{[], ap, append-nil, append_assoc, arith, Err, flat_map, IfOk, length, List, Ok, Option}
use Rattle.std.proofs.Common.{refl, Result, Some, suc, sym, unwrap_or, ℕ, ◌++◌, ◌∙◌, ◌∷◌, ◌≡◌}
use Rattle.std.{proofs.lemmas.List.Concat.flat_map-append, specs.{List.AllByRecursion, Prelude.option_map}}
use Rattle.{bac_pdu.specs.Station, bac_tsm.specs.{Ask, Data, rules_of, Tick, Client.Client, Machine.datagram}}
use Rattle.bac_script.specs.{Blank, Happens, Remark, Said, Settings, declared.line.LineFault.TheVariants.{Bad, TooLong}}
use Rattle.{bac_script.specs.Line.Asks, bac_links.specs.Heard, bac_run.{proofs.Acts.sends-answer, specs.{Act, act_of}}}
use Rattle.bac_run.specs.{acted, acts_of_result, acts_or_none, Aim, aims_for, AllDone, asked_by, calls_of, Came}
use Rattle.bac_run.specs.{closing, Does, DueIn, end_by, Ends, EndsAt, first_stage, Fresh, freshened, Goes, Handed}
use Rattle.bac_run.specs.{Handing, handing, heard_at, input_in, inputs_in, IsGood, left_of, line_in, LineFault}
use Rattle.bac_run.specs.{lines_in, Looked, moved, moved_in, new_client, NextLine, NoLine, offered_in, Outside, own_of}
use Rattle.bac_run.specs.{OwnLine, Passed, passed_at, Phase, Read, renewed, Rests, result_in, RunFault, said_of}
use Rattle.bac_run.specs.{sends_at, sends_of, settled_in, Setup, Stage, stage_after, stage_by, taking, Telling, Told}
use Rattle.bac_run.specs.{Took, TraceEnd, TraceFault, turn_at, Turns}

-- The acts of the taken lines that are still to be done, from the aims.
abbrev todo : List Aim → List Act
todo [] = []
todo (Does act ∷ later) = input_in act ++ todo later
todo (NextLine window taken ∷ later) = []
todo (Ends end ∷ later) = []
todo (aim ∷ later) = todo later

-- The datagrams that must still be offered.
abbrev pub pending : Phase → List (Station × List ℕ)
pending (Handing sends) = sends
pending _ = []

pending_handing : (sends : List (Station × List ℕ)) → pending (handing sends) ≡ sends
pending_handing [] = refl
pending_handing (send ∷ later) = refl

-- ---- stages with the same left to do

left_todo : (client : Client) (since_told : ℕ) (aims : List Aim) → todo (left_of client since_told aims) ≡ todo aims
left_todo client since_told [] = refl
left_todo client since_told (aim ∷ later) =
    let rest = left_todo client since_told later in grind (arith, append_assoc, append-nil, rest)

-- A stage has the client of another, no datagram to offer, and the same acts to do.
record IsStill (stage after : Stage) : Type 0 where
  client : after.client ≡ stage.client
  offered : pending after.phase ≡ []
  todo_is : todo after.aims ≡ todo stage.aims

heard_still : (stage : Stage) (time : ℕ) → IsStill stage (heard_at stage time)
heard_still = grind (arith, append_assoc, append-nil)

passed_still : (stage : Stage) (time wait : ℕ) (heard : Heard) → IsStill stage (passed_at stage time wait heard)
passed_still = grind (arith, append_assoc, append-nil)

fresh_still : (timeout : ℕ) (stage : Stage) (time : ℕ) → pending stage.phase ≡ []
    → IsStill stage (freshened timeout stage time)
fresh_still = grind (arith, append_assoc, append-nil)

renewed_todo : (aims : List Aim) → todo aims ≡ todo (renewed aims)
renewed_todo = grind (arith, append_assoc, append-nil)

closing_todo : (end : Result TraceEnd TraceFault) (later : List Aim) → [] ≡ todo (closing end later)
closing_todo (Ok end) later = refl
closing_todo (Err fault) later = refl

own_todo : (own : Option OwnLine) (window number : ℕ) (line : List ℕ) (later : List Aim)
    → todo (aims_for (option_map (λ own. act_of own ∷ []) own) window number line later)
    ≡ unwrap_or (option_map (λ own. act_of own ∷ []) own) []
own_todo = grind (arith, append_assoc, append-nil)

-- Once a line is taken, its acts are to be done.
line_todo : (line : List ℕ) (window number : ℕ) (later : List Aim)
    → todo (aims_for (acts_of_result line (said_of line)) window number line later)
    ≡ acts_or_none line
line_todo line window number later = go (said_of line)
  where
    go : (r : Result Said LineFault)
        → todo (aims_for (acts_of_result line r) window number line later)
        ≡ unwrap_or (acts_of_result line r) []
    go (Err TooLong) = refl
    go (Err Bad) = own_todo (own_of line) window number line later
    go (Ok Blank) = refl
    go (Ok Remark) = refl
    go (Ok (Happens (Ask peer service body))) = refl
    go (Ok (Happens (Data from octets))) = refl
    go (Ok (Happens (Tick time))) = refl
    go (Ok (Settings timeout retries ticket)) = refl
    go (Ok (Asks arrival)) = refl

-- ---- an act that was due

abbrev wanted_by : Act → List Act
wanted_by act = flat_map acts_or_none (line_in act)

-- The acts that are left before an act, with those that it asks for, are its own and those that are left after it.
record Moves (client : Client) (phase : Phase) (aims : List Aim) (act : Act) (after : Stage) : Type 0 where
  client_is : after.client ≡ (turn_at client act).after
  todo_is : todo aims ++ wanted_by act ≡ input_in act ++ todo after.aims
  sends_are : pending phase ++ sends_at client act ≡ flat_map offered_in (asked_by act) ++ pending after.phase

same_todo : (xs ys : List Act) → xs ≡ ys → xs ++ [] ≡ ys
same_todo xs ys is = append-nil xs ∙ is

moves : (timeout : ℕ) (stage : Stage) (phase : Phase) (aims : List Aim) (act : Act) → stage.phase ≡ phase
    → stage.aims ≡ aims → DueIn timeout stage phase aims act
    → Moves stage.client phase aims act (moved_in timeout stage phase aims act)
moves timeout stage Outside (Turns until (suc left) ∷ later) (Read time) was is due =
    record { client_is = refl; todo_is = append-nil (todo later); sends_are = refl }
moves timeout stage Outside (Fresh ∷ later) (Read time) was is due =
    let still = fresh_still timeout (record stage { aims = later }) time (ap pending was) in
    record {
      client_is = still.client;
      todo_is = same_todo _ _ (sym still.todo_is);
      sends_are = sym still.offered;
    }
moves timeout stage Outside (Rests wait ∷ later) (Read time) was is due =
    record { client_is = refl; todo_is = append-nil (todo later); sends_are = sym (ap pending was) }
moves timeout stage Outside (Does due ∷ later) act was is (same, none, quiet) = record {
  client_is = refl;
  todo_is = ap (λ (a : Act). (input_in a ++ todo later) ++ wanted_by act) (sym same)
      ∙ ap (λ (ls : List (List ℕ)). (input_in act ++ todo later) ++ flat_map acts_or_none ls) none ∙ append-nil _;
  sends_are = rw quiet (sym (pending_handing (sends_at stage.client act)));
}
moves timeout stage Outside (NextLine window taken ∷ later) (Took line) was is due = record {
  client_is = refl;
  todo_is = append-nil (acts_or_none line) ∙ sym (line_todo line window (suc taken) later);
  sends_are = sym (ap pending was);
}
moves timeout stage Outside (NextLine window taken ∷ later) (NoLine reading) was is due =
    record { client_is = refl; todo_is = closing_todo (end_by reading taken) later; sends_are = sym (ap pending was) }
moves timeout stage (Looked time) aims (Came wait from octets) was is due =
    let still = heard_still (acted stage (Came wait from octets)) time in
    record {
      client_is = still.client;
      todo_is = same_todo _ _ (ap todo (sym is) ∙ sym still.todo_is);
      sends_are = sends-answer (datagram (rules_of stage.client) stage.client.state from octets).answer
          ∙ sym still.offered;
    }
moves timeout stage (Looked time) aims (Passed wait heard) was is due =
    let still = passed_still stage time wait heard in
    record {
      client_is = still.client;
      todo_is = same_todo _ _ (ap todo (sym is) ∙ sym still.todo_is);
      sends_are = sym still.offered;
    }
moves timeout stage (Telling time) aims act was is due = record {
  client_is = refl;
  todo_is = rw due (same_todo _ _ (renewed_todo aims));
  sends_are = rw due (sym (pending_handing (sends_at stage.client (Told time))));
}
moves timeout stage (Handing ((to, octets) ∷ later)) aims (Handed a os taken) was is (same, all) = record {
  client_is = refl;
  todo_is = same_todo _ _ (ap todo (sym is));
  sends_are = rw (same, all, pending_handing later) (append-nil _);
}
moves timeout stage phase aims act was is due = search

record Settles (stage after : Stage) : Type 0 where
  client_is : after.client ≡ stage.client
  phase_is : after.phase ≡ stage.phase
  todo_is : todo after.aims ≡ todo stage.aims

settles : (stage : Stage) (phase : Phase) → Settles stage (settled_in stage phase)
settles stage Outside =
    record { client_is = refl; phase_is = refl; todo_is = left_todo stage.client stage.since_told stage.aims }
settles stage phase = record { client_is = refl; phase_is = refl; todo_is = refl }

moves_on : (timeout : ℕ) (stage : Stage) (act : Act) → DueIn timeout stage stage.phase stage.aims act
    → Moves stage.client stage.phase stage.aims act (moved timeout stage act)
moves_on timeout stage act due =
    let here = moves timeout stage stage.phase stage.aims act refl refl due in
    let next = moved_in timeout stage stage.phase stage.aims act in
    let there = settles next next.phase in
    record {
      client_is = there.client_is ∙ here.client_is;
      todo_is = here.todo_is ∙ ap (λ (xs : List Act). input_in act ++ xs) (sym there.todo_is);
      sends_are = here.sends_are
          ∙ ap (λ (phase : Phase). flat_map offered_in (asked_by act) ++ pending phase) (sym there.phase_is);
    }

-- ---- all acts of a run

goes_todo : (timeout : ℕ) (stage : Stage) (acts : List Act) → Goes timeout stage acts
    → todo stage.aims ++ flat_map acts_or_none (lines_in acts)
    ≡ inputs_in acts ++ todo (stage_after timeout stage acts).aims
goes_todo timeout stage [] goes = append-nil _
goes_todo timeout stage (act ∷ acts) (due, goes) =
    let here = (moves_on timeout stage act due).todo_is in
    let later = goes_todo timeout (moved timeout stage act) acts goes in
    grind (arith, append_assoc, flat_map-append, here, later)

-- All datagrams that these acts make are offered to the link, or must still be.
pub goes_sends : (timeout : ℕ) (stage : Stage) (acts : List Act) → Goes timeout stage acts
    → pending stage.phase ++ sends_of stage.client acts
    ≡ flat_map offered_in (calls_of acts) ++ pending (stage_after timeout stage acts).phase
goes_sends timeout stage [] goes = append-nil _
goes_sends timeout stage (act ∷ acts) (due, goes) =
    let here = moves_on timeout stage act due in
    let later = goes_sends timeout (moved timeout stage act) acts goes in
    let sends = here.sends_are in
    let client = here.client_is in
    grind (arith, append_assoc, flat_map-append, sends, client, later)

-- If a run ends well, no act is left to be done.
ended_todo : (phase : Phase) (aims : List Aim) (end : TraceEnd) → result_in phase aims ≡ Some (Ok end) → todo aims ≡ []
ended_todo = grind (arith, append_assoc, append-nil)

-- A run at its beginning, with all its aims.
abbrev begun : Setup → Stage
begun setup = record {
  client = new_client setup.config.timeout setup.config.retries 0;
  since_told = 0;
  phase = Outside;
  aims = taking setup.window 0 [];
}

pub done_so : (setup : Setup) (acts : List Act) (result : Result TraceEnd RunFault) (kept : List ℕ)
    → Goes setup.config.timeout (first_stage setup) acts → EndsAt result (stage_by setup acts)
    → IfOk result (λ end. AllByRecursion IsGood (lines_in acts) × (kept ≡ []) × (end.lines ≡ length (lines_in acts)))
    → AllDone result (lines_in acts) kept acts
done_so setup acts result kept goes ends whole = go result ends whole
  where
    wanted : flat_map acts_or_none (lines_in acts) ≡ inputs_in acts ++ todo (stage_by setup acts).aims
    wanted =
        ap (λ (xs : List Act). xs ++ flat_map acts_or_none (lines_in acts))
        (sym (settles (begun setup) Outside).todo_is)
        ∙ goes_todo setup.config.timeout (first_stage setup) acts goes

    go : (result : Result TraceEnd RunFault) → EndsAt result (stage_by setup acts)
        → IfOk result (λ end. AllByRecursion IsGood (lines_in acts) × (kept ≡ [])
        × (end.lines ≡ length (lines_in acts))) → AllDone result (lines_in acts) kept acts
    go (Ok end) ends (good, empty, count) =
        let none = ended_todo (stage_by setup acts).phase (stage_by setup acts).aims end ends in
        (sym (wanted ∙ ap (λ (xs : List Act). inputs_in acts ++ xs) none ∙ append-nil _), good, empty, count)
    go (Err fault) ends whole = (todo (stage_by setup acts).aims, wanted)
