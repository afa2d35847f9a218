-- A call without a move has not ended.
use Rattle.bac_links.proofs.{not_ended}
use Rattle.bac_links.proofs.laws.no_call_ends_unasked.Goals as goal

pub returns : goal.returns
returns g c = not_ended g.W.Write.contents
