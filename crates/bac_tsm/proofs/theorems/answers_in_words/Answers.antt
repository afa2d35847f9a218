-- The two directions are lemmas; no tactic splits an equivalence.
use Rattle.bac_tsm.proofs.{answered, answers}
use Rattle.bac_tsm.proofs.theorems.answers_in_words.Goals as goal

pub returns : goal.returns
returns c request from datagram outcome =
    (answers _ _ _ _, answered _ _ _ _)
