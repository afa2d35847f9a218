-- Each clause is a lemma.
use Rattle.bac_pdu.proofs.{ack_parts, count_wrapped, one_taken, wrapped_takes}
use Rattle.bac_pdu.proofs.laws.wrapped_round.Goals as goal

pub returns : goal.returns
returns c = record {
  words = wrapped_takes;
  one = one_taken;
  length = count_wrapped;
  parts = ack_parts;
}
