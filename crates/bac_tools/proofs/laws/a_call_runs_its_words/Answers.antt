-- The law is a lemma.
use Rattle.bac_tools.proofs.{runs_typed}
use Rattle.bac_tools.proofs.laws.a_call_runs_its_words.Goals as goal

pub returns : goal.returns
returns g c network reader reader' writer writer' errors errors' ran typed run =
    runs_typed _ _ _ network reader reader' writer writer' errors errors' ran typed run
