-- When a run has ended no act is due, so two runs that were answered alike did the same.
use Rattle.{std.proofs.Common.{[], append-nil, arith, inl}, bac_run.proofs.runs_on}
use Rattle.bac_run.proofs.laws.a_run_ends_by_its_answers.Goals as goal

pub returns : goal.returns
returns g c setup _ _ _ _ _ _ _ _ _ _ _ _ result other first first' runs others gave is is' answers wrote wrote' =
    let (_, (end, meet)) = runs_on setup _ _ _ _ _ _ _ _ _ _ _ _ result other first [] first' [] runs others (inl gave)
    (rw append-nil is) (rw append-nil is') answers in
    (end wrote wrote', grind (arith, meet))
