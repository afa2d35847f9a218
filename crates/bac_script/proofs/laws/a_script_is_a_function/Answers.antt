-- Two runs are compared by the octets that their readers gave, however these were cut into reads.
use Rattle.bac_script.proofs.{traces_alike, traces_front}
use Rattle.bac_script.proofs.laws.a_script_is_a_function.Goals as goal

pub returns-clause-alike : goal.returns-clause-alike
returns-clause-alike g c = traces_alike

pub returns-clause-front : goal.returns-clause-front
returns-clause-front g c = traces_front
