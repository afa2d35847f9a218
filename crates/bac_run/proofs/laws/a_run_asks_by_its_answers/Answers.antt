-- The act that is due is a function of the acts and answers so far.
use Rattle.{std.proofs.Common.{arith, inl}, bac_run.proofs.runs_on}
use Rattle.bac_run.proofs.laws.a_run_asks_by_its_answers.Goals as goal

pub returns : goal.returns
returns g c setup _ _ _ _ _ _ _ _ _ _ _ _ result other first rest first' rest' runs others gave is is' answers =
    let (same, on) = runs_on setup _ _ _ _ _ _ _ _ _ _ _ _ result other first rest first' rest' runs others (inl gave)
    is is' answers in
    (same, grind (arith, on))
