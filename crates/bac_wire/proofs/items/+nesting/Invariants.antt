use Rattle.std.proofs.Common.{length, ◌*◌, ◌+◌, ◌≡◌, ◌≤◌}
use Rattle.bac_wire.proofs.{rest_of}
use Rattle.bac_wire.proofs.items.+nesting.Given as goal

abbrev pub decreases-behind_item : goal.decreases-behind_item
decreases-behind_item l = 2 * l.depth

abbrev pub decreases-behind_items : goal.decreases-behind_items
decreases-behind_items l = 2 * l.depth + 1

abbrev pub invariant-behind_items-loop-tag : goal.invariant-behind_items-loop-tag
invariant-behind_items-loop-tag l = record {
  found : rest_of l.depth l.octets ≡ rest_of l.depth l.rest;
  work : l.work.tags + 2 * length l.rest ≤ l.initial.work.tags + 2 * length l.octets;
}

abbrev pub decreases-behind_items-loop-tag : goal.decreases-behind_items-loop-tag
decreases-behind_items-loop-tag l = length l.rest
