-- If the page folds its lines, the text was added folded; otherwise it was added unchanged.
use Rattle.bac_print.proofs.{printed_folded}
use Rattle.bac_print.proofs.page.Page.print.Goals as goal

pub returns-in-Some : goal.returns-in-Some
returns-in-Some g c = printed_folded c.in-Some.left c.fold.result c.in-Some.is c.fold.ensures.text c.fold.ensures.left
