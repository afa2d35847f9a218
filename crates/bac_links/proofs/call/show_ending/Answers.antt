-- If the page fails at its end, the beginning of the line was written.
use Rattle.std.proofs.{Common.{Err, Ok, rules}, lemmas.Result.err_from_is_err_and}
use Rattle.bac_print.proofs.Printed.{shown, ◌⨾◌}
use Rattle.bac_links.proofs.call.show_ending.Goals as goal

pub returns-in_err-finish-clause-text : goal.returns-in_err-finish-clause-text
returns-in_err-finish-clause-text g c =
    let (fault, was, _) = err_from_is_err_and c.from_residual.result c.from_residual.ensures.1 in
    rw was
    (shown {A = Unit {0}} {after = c.finish.new.self.0} (Err fault) (search rules) c.new-page.ensures.writer
    c.new-page.ensures.empty c.new-page.ensures.unfolded
    (c.print_ending-exit.ensures.text ⨾ c.print.ensures) c.in_err-finish.ensures.printed c.in_err-finish.ensures.failed)

pub returns-clause-text : goal.returns-clause-text
returns-clause-text g c =
    shown {E = Unit {0}} {after = c.finish.new.self.0} (Ok c.in_ok-finish.field-0) (search rules)
    c.new-page.ensures.writer c.new-page.ensures.empty c.new-page.ensures.unfolded
    (c.print_ending-exit.ensures.text ⨾ c.print.ensures) c.in_ok-finish.ensures.printed c.in_ok-finish.ensures.failed
