-- There is a lemma for each case: there was a socket, there was none, or none was asked for.
use Rattle.bac_tools.proofs.{run_so, run_unasked, run_without}
use Rattle.bac_tools.proofs.laws.a_run_is_its_calls.Goals as goal

pub returns-clause-had : goal.returns-clause-had
returns-clause-had g c = λ log network reader reader' writer writer' errors errors' ran typed link sockets run had.
    run_so run log sockets had

pub returns-clause-none : goal.returns-clause-none
returns-clause-none g c = λ kept log network reader reader' writer writer' errors errors' ran typed none asks run had.
    run_without run kept log asks had

pub returns-clause-unasked : goal.returns-clause-unasked
returns-clause-unasked g c = λ network reader reader' writer writer' errors errors' ran typed run none.
    run_unasked _ _ _ _ _ _ _ _ _ _ _ typed run none
