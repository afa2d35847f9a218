use Rattle.std.proofs.Common.{flat_map, take}
use Rattle.bac_print.specs.{octet_bits, Prints}
use Rattle.bac_print.proofs.page.Page.print_whole_octets.Given as goal

abbrev pub invariant-loop-octet : goal.invariant-loop-octet
invariant-loop-octet g l =
    Prints g.W.Write.contents l.fn.self l.self (flat_map octet_bits (take l.octet-index l.octets))
