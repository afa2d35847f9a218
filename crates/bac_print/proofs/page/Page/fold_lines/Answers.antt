-- The first octets are in their line unchanged, and the rest is folded after them.
use Rattle.std.proofs.Common.{arith, take-append-drop}
use Rattle.bac_print.proofs.{folds_on, plain_front}
use Rattle.bac_print.proofs.page.Page.fold_lines.Goals as goal

pub returns : goal.returns
returns g c =
    let whole = folds_on c.args.text.now c.split_at.result.0.now c.split_at.result.1.now c.args.room
    (plain_front c.args.text.now c.split_at.result.0.now c.args.room (grind arith)) (grind (arith, take-append-drop))
    c.hold.ensures c.fold_octets.ensures.text c.fold_octets.ensures.left in
    record { text = whole.held; left = whole.is_left }
