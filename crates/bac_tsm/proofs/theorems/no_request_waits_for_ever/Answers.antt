-- The two halves are inductions over the ticks; here they begin with no tick.
use Rattle.std.proofs.Common.{arith, length, refl, suc, zero}
use Rattle.bac_tsm.{proofs.{due_in_turn, ends_in_turn}, specs.last_of}
use Rattle.bac_tsm.proofs.theorems.no_request_waits_for_ever.Goals as goal

pub returns-clause-due : goal.returns-clause-due
returns-clause-due c rules events i ticks = grind (arith, due_in_turn rules events i zero (length ticks) i i ticks)

pub returns-clause-ended : goal.returns-clause-ended
returns-clause-ended c rules events a ticks pass enough =
    ends_in_turn rules events a (last_of a.position ticks)
    (due_in_turn rules events a.position zero (suc rules.retries) a.position a.position ticks (omega arith)
    refl (omega arith) pass)
