-- One more octet is folded after the others.
use Rattle.std.proofs.{Common.arith, lemmas.List.take_more}
use Rattle.bac_print.proofs.{folds_more, folds_none}
use Rattle.bac_print.proofs.page.Page.fold_octets.Goals as goal

pub loop-octet-init : goal.loop-octet-init
loop-octet-init g c = folds_none _ _

pub loop-octet-preserved : goal.loop-octet-preserved
loop-octet-preserved g c =
    rw (take_more c.args.octets.now c.loop-octet.octet-index 0 (grind arith))
    (folds_more _ c.loop-octet.invariant c.fold_octet-left.ensures.text c.fold_octet-left.ensures.left)
