-- The law is a lemma.
use Rattle.bac_tsm.proofs.{is_lookahead}
use Rattle.bac_tsm.proofs.theorems.run_is_lookahead.Goals as goal

pub returns : goal.returns
returns c = is_lookahead
