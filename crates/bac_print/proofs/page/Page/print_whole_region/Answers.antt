-- The printed text depends on the number of values, if the region is values.
use Rattle.std.proofs.Common.{arith}
use Rattle.bac_print.proofs.{printed_in_braces}
use Rattle.bac_print.proofs.page.Page.print_whole_region.Goals as goal

pub returns-in-Some : goal.returns-in-Some
returns-in-Some g c =
    printed_in_braces _ _ c.in-Some.ensures (grind arith) c.print.ensures
    c.print_values-in-Some.ensures c.print-in-Some.ensures
