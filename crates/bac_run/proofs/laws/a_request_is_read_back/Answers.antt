-- A lemma about lines is used, with what the line means.
use Rattle.{bac_script.specs.Happens, bac_run.proofs.line_read_back}
use Rattle.bac_run.proofs.laws.a_request_is_read_back.Goals as goal

pub returns-clause-asked : goal.returns-clause-asked
returns-clause-asked c = λ line event cut says. line_read_back line (Happens event) cut says
