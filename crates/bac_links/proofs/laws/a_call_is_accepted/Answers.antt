-- A tool whose first question is not for the time does not follow the moves of a call.
use Rattle.std.proofs.Common.{arith, length, List, ◌∷◌, ◌≤◌}
use Rattle.{bac_pdu.specs.longest_body, bac_text.specs.declared.jobs.Call.Call}
use Rattle.bac_links.proofs.{is_accepted, plays_all, PlaysAll, quiet_handed, went}
use Rattle.bac_links.specs.{Comes, Entry, events_of, IsAccepted, move, Purpose, Timed}
use Rattle.bac_links.proofs.laws.a_call_is_accepted.Goals as goal

module _ (purpose : Purpose) (call : Call) where
  -- A tool that follows the moves of a call to its end reads the time first.
  accepted_in : (comes : Comes) (gained : List Entry) → length call.body.items ≤ longest_body
      → PlaysAll (move purpose call) gained comes → IsAccepted purpose call (events_of purpose call gained)
  accepted_in _ (Timed time ∷ more) short plays = grind (arith, is_accepted, quiet_handed)
  accepted_in _ _ short plays = grind arith

pub returns : goal.returns
returns g c = λ purpose call before after seen left result gained short tells gains.
    let it = went purpose call g.W.Write.contents before after seen left result tells in
    accepted_in purpose call it.comes gained short (plays_all it.plays gains)
