-- The law is a lemma.
use Rattle.bac_device.proofs.{after_holds}
use Rattle.bac_device.proofs.laws.writes_are_held.Goals as goal

pub returns : goal.returns
returns c = after_holds
