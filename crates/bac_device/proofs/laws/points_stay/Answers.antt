-- The law is a lemma.
use Rattle.bac_device.proofs.{points_after}
use Rattle.bac_device.proofs.laws.points_stay.Goals as goal

pub returns : goal.returns
returns c = points_after
