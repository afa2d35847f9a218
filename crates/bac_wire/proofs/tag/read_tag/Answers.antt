-- The spelling is the octets without the rest.
use Rattle.bac_wire.proofs.{found_front, none_front, tag_reader}
use Rattle.bac_wire.proofs.tag.read_tag.Goals as goal

pub returns-in_err-tag : goal.returns-in_err-tag
returns-in_err-tag c = rw c.from_residual.ensures (none_front _ _ tag_reader _ c.in_err-tag.ensures)

pub overflow_sub-result : goal.overflow_sub-result
overflow_sub-result c = let (within, _) = found_front _ _ tag_reader _ _ _ c.in_ok-tag.ensures in within

pub returns : goal.returns
returns c = let (_, finds) = found_front _ _ tag_reader _ _ _ c.in_ok-tag.ensures in finds
