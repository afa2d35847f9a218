use Rattle.bac_tsm.proofs.{IsUpTo}
use Rattle.bac_tsm.proofs.table.every_slot.Given as goal

abbrev pub invariant-loop-slot : goal.invariant-loop-slot
invariant-loop-slot l = IsUpTo l.slot l.slots.items
