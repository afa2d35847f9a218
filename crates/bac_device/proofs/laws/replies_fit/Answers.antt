-- The law for one datagram, and then for a list of them, by induction.
use Rattle.bac_device.proofs.{replies_fit, reply_fits}
use Rattle.bac_device.proofs.laws.replies_fit.Goals as goal

pub returns-clause-fits : goal.returns-clause-fits
returns-clause-fits c = reply_fits

pub returns-clause-in_turn : goal.returns-clause-in_turn
returns-clause-in_turn c = replies_fit
