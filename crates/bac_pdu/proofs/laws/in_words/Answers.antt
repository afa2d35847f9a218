-- Each clause is a lemma.
use Rattle.bac_pdu.proofs.{ack_is, apdu_is, carried_is, error_is, introduction_is, read_is, who_is_is, write_is}
use Rattle.bac_pdu.proofs.laws.in_words.Goals as goal

pub returns : goal.returns
returns c = record {
  carried = carried_is;
  apdu = apdu_is;
  read = read_is;
  write = write_is;
  ack = ack_is;
  who_is = who_is_is;
  i_am = introduction_is;
  error = error_is;
}
