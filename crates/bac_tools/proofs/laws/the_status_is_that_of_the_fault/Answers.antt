-- A lemma of `Statuses` covers each way the words were run.
use Rattle.bac_tools.proofs.{program_status, RunLaws.run_status}
use Rattle.bac_tools.proofs.laws.the_status_is_that_of_the_fault.Goals as goal

pub returns-clause-run : goal.returns-clause-run
returns-clause-run g c = λ network reader reader' writer writer' errors errors' ran typed run.
    run_status _ _ _ _ _ _ run

pub returns-clause-words : goal.returns-clause-words
returns-clause-words g c = λ network reader reader' writer writer' ran words p. program_status _ _ _ _ _ _ p
