-- Ten prints are one line.
use Rattle.std.proofs.Common.{refl}
use Rattle.bac_print.proofs.Printed.{printed_as, ◌⨾◌}
use Rattle.bac_links.proofs.search.print_found.Goals as goal

pub returns : goal.returns
returns g c =
    printed_as
    (c.print_number.ensures ⨾ c.print.ensures ⨾ c.print_peer.ensures ⨾ c.print-2.ensures ⨾ c.print_number-2.ensures ⨾
    c.print-3.ensures
    ⨾ c.print_number-3.ensures ⨾ c.print-4.ensures ⨾ c.print_number-4.ensures ⨾ c.print-5.ensures)
    (rw (c.from.ensures, c.instance.ensures.value, c.from-2.ensures) refl)
