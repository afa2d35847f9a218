-- Each clause is a lemma.
use Rattle.std.proofs.Common.{refl}
use Rattle.bac_pdu.proofs.{ack_back, apdu_back, error_back, introduction_back, read_back, taken_carries, who_is_back}
use Rattle.bac_pdu.{proofs.write_back, specs.who_is_of}
use Rattle.bac_pdu.proofs.laws.come_back.Goals as goal

pub returns : goal.returns
unfolding who_is_of
returns c = record {
  taken = taken_carries;
  apdu = apdu_back;
  read = read_back;
  write = write_back;
  ack = ack_back;
  all = refl;
  limits = who_is_back;
  i_am = introduction_back;
  error = error_back;
}
