-- The slot is in the list, so the search finds a rank, and the slot is at this rank.
use Rattle.std.proofs.{Common.{arith, eqb-true}, lemmas.List.Quantifiers.position-Some}
use Rattle.bac_tsm.proofs.{found_at}
use Rattle.bac_tsm.proofs.table.take_out.Goals as goal

pub returns-in-Some : goal.returns-in-Some
returns-in-Some c = grind (arith, position-Some, eqb-true)

pub returns-in_default : goal.returns-in_default
returns-in_default c =
    grind (arith, found_at c.args.slot c.args.slots.now.items)
