-- The text so far, and the next piece.
use Rattle.std.proofs.Common.{[]}
use Rattle.bac_print.proofs.Printed.{prints_nothing, ◌⨾◌}
use Rattle.bac_tools.proofs.telling.print_text.Goals as goal

pub pieces-init : goal.pieces-init
pieces-init g c = ([], prints_nothing c.args.page.now)

pub pieces-preserved : goal.pieces-preserved
pieces-preserved g c = let (_, printed) = c.pieces.invariant in (_, printed ⨾ c.print.ensures)

pub returns-then-octets-lt-PIECE_ROOM : goal.returns-then-octets-lt-PIECE_ROOM
returns-then-octets-lt-PIECE_ROOM g c = let (_, printed) = c.pieces.invariant in (_, printed ⨾ c.print.ensures)
