-- The empty table keeps to its invariant: no entry, no ticket, and each slot free.
use Rattle.bac_tsm.proofs.{empty_queue, empty_table}
use Rattle.bac_tsm.proofs.table.Table.new.Goals as goal

pub invariant_of-result : goal.invariant_of-result
invariant_of-result c = record {
  table = empty_table _ _ _ _ c.new.ensures c.no_requests.ensures c.no_invoke_ids.ensures c.every_slot.ensures.whole
      c.every_slot.ensures.within c.every_slot.ensures.once;
  queue = empty_queue _ _ _ _ c.new.ensures c.new-2.ensures;
}
