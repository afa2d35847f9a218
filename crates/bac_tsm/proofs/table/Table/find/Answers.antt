-- No rank means that no request has the ticket, and then the definition finds none either.
use Rattle.std.proofs.Common.{sym}
use Rattle.bac_tsm.proofs.{find_none}
use Rattle.bac_tsm.proofs.table.Table.find.Goals as goal

pub returns-in_err-rank : goal.returns-in_err-rank
returns-in_err-rank c =
    rw c.from_residual.ensures
    (sym (find_none c.args.ticket c.args.self.now (rw c.in_err-rank.was at c.rank_of.ensures)))
