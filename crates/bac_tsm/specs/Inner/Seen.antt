-- An answer that was read, as a value.
use Rattle.bac_pdu.specs.{station}
use Rattle.bac_tsm.specs.{Answers.Answer, Client.outcome_seen, declared.client.Answer.Answer as LentAnswer}

-- An answer, with the octets that it lends.
abbrev pub answer_seen : LentAnswer → Answer
answer_seen answer = record {
  peer = station answer.peer;
  invoke_id = answer.invoke_id;
  service = answer.service;
  outcome = outcome_seen answer.outcome;
}
