-- The law is a lemma.
use Rattle.bac_script.proofs.{read_fails}
use Rattle.bac_script.proofs.laws.a_failed_read_has_a_cause.Goals as goal

pub returns : goal.returns
returns g c = read_fails
