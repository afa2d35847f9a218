-- The law is a lemma.
use Rattle.bac_tsm.proofs.{by_invoke_id}
use Rattle.bac_tsm.proofs.theorems.answers_are_by_invoke_id.Goals as goal

pub returns : goal.returns
returns c = by_invoke_id
