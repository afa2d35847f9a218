use Rattle.std.proofs.Common.{flat_map, take}
use Rattle.{bac_tsm.specs.due_notes, bac_print.specs.Prints, bac_script.specs.notes_text}
use Rattle.bac_script.proofs.notes.print_due.Given as goal

abbrev pub invariant-loop-entry : goal.invariant-loop-entry
invariant-loop-entry g l =
    Prints g.W.Write.contents l.fn.page l.page
    (notes_text (flat_map (due_notes l.client.state) (take l.entry-index l.due)))
