-- The law follows from the acts of the run.
use Rattle.{std.proofs.Common.sym, bac_run.proofs.{are_offered, gained_so, refused_by}}
use Rattle.bac_run.proofs.laws.a_run_sends_what_it_remarks.Goals as goal

pub returns-clause-sends : goal.returns-clause-sends
returns-clause-sends g c = λ setup _ _ _ _ seen left result gained runs is.
    rw (sym (gained_so seen left _ gained runs.asks is)) (are_offered setup runs.acts runs.goes result runs.ends)

pub returns-clause-unsent : goal.returns-clause-unsent
returns-clause-unsent g c = λ setup _ _ _ _ seen left result gained runs is.
    rw (sym (gained_so seen left _ gained runs.asks is)) (refused_by runs.acts)
