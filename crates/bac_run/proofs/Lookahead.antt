-- The notes of a run are those of the look-ahead.
use Rattle.std.proofs.Common.{[], ap, arith, length, List, map, None, refl, suc, sym, take_all, ℕ, ◌*◌, ◌+◌, ◌∙◌, ◌∷◌}
use Rattle.std.proofs.{Common.{◌≡◌, ◌≤◌}, lemmas.List.map-append}
use Rattle.bac_tsm.{proofs.Laws.{never_due, open_soon}, specs.{Accepted, client_rules, clock, Data, end, Event}}
use Rattle.bac_tsm.specs.{initial, Note, outputs, Rules, rules_of, state_at, Tick, Client.Client}
use Rattle.bac_tsm.specs.{Laws.MachineIsLookahead, Machine.folded}
use Rattle.bac_run.specs.{Act, AreSteady, Asked, at_event, Came, client_after, events_of, new_client, notes_of, Told}

-- Notes without their positions.
abbrev bare : List (ℕ × Note) → List Note
bare = map (λ (i, note). note)

bare-at : (i : ℕ) (notes : List Note) → bare (map (λ (note : Note). (i, note)) notes) ≡ notes
bare-at i [] = refl
bare-at i (note ∷ notes) = ap (λ (ns : List Note). note ∷ ns) (bare-at i notes)

-- ---- the client of a run is the machine

-- The machine gives the notes of the client, and then has its state.
abbrev IsMachine : Client → ℕ → List Act → Type 0
IsMachine client i acts = (bare (folded (rules_of client) client.state i (events_of acts)).notes ≡ notes_of client acts)
    × ((folded (rules_of client) client.state i (events_of acts)).after ≡ (client_after client acts).state)

at_next : (client : Client) (i : ℕ) (event : Event) (later : List Act)
    → IsMachine (at_event client event).after (suc i) later → IsMachine client i (Asked [] event ∷ later)
at_next = grind (arith, map-append, bare-at)

is_machine : (client : Client) (i : ℕ) (acts : List Act) → IsMachine client i acts
is_machine client i [] = (refl, refl)
is_machine client i (Asked line event ∷ later) =
    at_next client i event later (is_machine (at_event client event).after (suc i) later)
is_machine client i (Came wait from octets ∷ later) =
    at_next client i (Data from octets) later (is_machine (at_event client (Data from octets)).after (suc i) later)
is_machine client i (Told time ∷ later) =
    at_next client i (Tick time) later (is_machine (at_event client (Tick time)).after (suc i) later)
is_machine client i (_ ∷ later) = is_machine client i later

pub is_ahead : (timeout retries : ℕ) (acts : List Act)
    → MachineIsLookahead (client_rules timeout retries) 0 (events_of acts)
    → (notes_of (new_client timeout retries 0) acts
    ≡ bare (outputs (client_rules timeout retries) 0 (events_of acts) 0 (length (events_of acts))))
    × ((client_after (new_client timeout retries 0) acts).state
    ≡ state_at (client_rules timeout retries) 0 (events_of acts) (length (events_of acts)))
is_ahead timeout retries acts is =
    let (notes, after) = is_machine (new_client timeout retries 0) 0 acts in
    let all = events_of acts in (
      sym notes ∙ ap bare is.notes,
      sym after ∙ ap (λ (events : List Event). (folded (client_rules timeout retries) (initial 0) 0 events).after)
          (sym (take_all (length all) all (omega arith))) ∙ is.kept (length all) (omega arith),
    )

-- ---- how long a request waits

pub open_in_time : (rules : Rules) (longest : ℕ) (events : List Event) (a : Accepted)
    → AreSteady longest events a.position → end rules events a ≡ None
    → clock events (length events)
    ≤ clock events (suc a.position) + (rules.retries * (rules.timeout + longest) + rules.timeout)
open_in_time rules longest events a steady still =
    let soon = open_soon rules events a.position longest rules.retries (length events) steady
    (never_due rules events a still) in
    omega (arith, soon)
