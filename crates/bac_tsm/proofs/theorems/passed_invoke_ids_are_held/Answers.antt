-- The lemma about accepted requests says more; the law is a part of it.
use Rattle.bac_tsm.proofs.{passed}
use Rattle.bac_tsm.proofs.theorems.passed_invoke_ids_are_held.Goals as goal

pub returns : goal.returns
returns c rules first_ticket events n small before since a e =
    let (_, so_far) = passed rules first_ticket events small n before a since e in so_far.seen
