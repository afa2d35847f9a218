use Rattle.std.proofs.Common.{take}
use Rattle.bac_print.proofs.{FoldsTo}
use Rattle.bac_print.proofs.page.Page.fold_octets.Given as goal

abbrev pub invariant-loop-octet : goal.invariant-loop-octet
invariant-loop-octet g l =
    FoldsTo g.W.Write.contents l.fn.self l.self l.room (take l.octet-index l.octets) l.left
