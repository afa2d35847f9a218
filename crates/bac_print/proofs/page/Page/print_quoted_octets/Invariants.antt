use Rattle.std.proofs.Common.{flat_map, take}
use Rattle.bac_print.specs.{Prints, quoted_octet}
use Rattle.bac_print.proofs.page.Page.print_quoted_octets.Given as goal

abbrev pub invariant-loop-octet : goal.invariant-loop-octet
invariant-loop-octet g l =
    Prints g.W.Write.contents l.fn.self l.self (flat_map quoted_octet (take l.octet-index l.text))
