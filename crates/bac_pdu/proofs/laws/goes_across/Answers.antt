-- Each clause is a lemma.
use Rattle.bac_pdu.proofs.{all_carry, everyone_back, everyone_takes, none_carry}
use Rattle.bac_pdu.proofs.laws.goes_across.Goals as goal

pub returns : goal.returns
returns c = record { words = everyone_takes; read_back = everyone_back; for_all = all_carry; for_one = none_carry }
