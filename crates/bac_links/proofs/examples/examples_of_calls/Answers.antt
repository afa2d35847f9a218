-- The answer in the datagram is that the write is done.
use Rattle.std.proofs.Common.{arith, refl, Some}
use Rattle.bac_pdu.specs.{address_at, apdu_of, carried, header_at, link_at, parts_at, wrapped}
use Rattle.bac_tsm.specs.{next_invoke_id, refusal_of, Simple, Answers.{answer_in_datagram, is_answer_to, same_station}}
use Rattle.bac_links.specs.{Inner.answered}
use Rattle.bac_links.proofs.examples.examples_of_calls.Goals as goal

pub returns-clause-told : goal.returns-clause-told
unfolding next_invoke_id refusal_of answer_in_datagram same_station is_answer_to wrapped address_at header_at link_at
    carried parts_at apdu_of
returns-clause-told c = record {
  ending = Some Simple;
  exit_is = refl;
  printed = grind arith;
  plays = record { gained = answered; gains = refl; follows = grind arith; over = refl };
}
