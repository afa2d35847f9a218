use Rattle.{std.{proofs.Common.take, specs.List.flat_map}, bac_tsm.specs.due_notes, bac_print.specs.Prints}
use Rattle.bac_run.specs.{remarks}
use Rattle.bac_run.proofs.turns.remark_due.Given as goal

abbrev pub invariant-loop-entry : goal.invariant-loop-entry
invariant-loop-entry g l =
    Prints g.W.Write.contents l.fn.page l.page
    (remarks (flat_map (due_notes l.client.state) (take l.entry-index l.due)))
