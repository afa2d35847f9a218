-- The writer was given the text that was printed on the page.
use Rattle.std.proofs.Common.{[], rules, subst}
use Rattle.{bac_print.{proofs.Printed.finished, specs.Writes}, bac_tools.specs.Checked}
use Rattle.bac_tools.proofs.report.tell.Goals as goal

pub returns-in-Some : goal.returns-in-Some
returns-in-Some g c =
    let (octets, said, printed) = c.print_telling.ensures in
    rw c.in-Some.is (
      octets,
      said,
      subst (λ (after : Checked g.row.W.Denot). Writes g.W.Write.contents c.args.writer.now after [] [] octets)
          (search rules)
          (finished {after = c.finish.new.self.0} c.new-page.ensures.writer c.new-page.ensures.empty
          c.new-page.ensures.unfolded printed c.finish.ensures.printed),
    )
