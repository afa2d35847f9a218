-- Five prints make one text.
use Rattle.bac_print.proofs.Printed.{◌⨾◌}
use Rattle.bac_script.proofs.notes.print_end.Goals as goal

pub returns : goal.returns
returns g c = c.print.ensures ⨾ c.print_number.ensures ⨾ c.print-2.ensures ⨾ c.print_outcome.ensures ⨾ c.print-3.ensures
