-- The page is turned in, and then given the text.
use Rattle.bac_print.proofs.{held_past}
use Rattle.bac_print.proofs.page.Page.hold_past.Goals as goal

pub returns : goal.returns
returns g c = held_past c.turn_in.ensures.printed c.hold_or_write.ensures
