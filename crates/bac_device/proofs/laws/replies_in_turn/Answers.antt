-- The law is a lemma.
use Rattle.bac_device.proofs.{in_turn}
use Rattle.bac_device.proofs.laws.replies_in_turn.Goals as goal

pub returns : goal.returns
returns c = in_turn
