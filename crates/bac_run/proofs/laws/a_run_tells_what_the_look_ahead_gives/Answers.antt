-- The law follows from the laws of every client.
use Rattle.bac_run.{proofs.is_ahead, specs.events_of}
use Rattle.bac_run.proofs.laws.a_run_tells_what_the_look_ahead_gives.Goals as goal

pub returns-clause-notes : goal.returns-clause-notes
returns-clause-notes c = λ timeout retries acts.
    (is_ahead timeout retries acts (c.client_is_lookahead.ensures timeout retries 0 (events_of acts))).0

pub returns-clause-kept : goal.returns-clause-kept
returns-clause-kept c = λ timeout retries acts.
    (is_ahead timeout retries acts (c.client_is_lookahead.ensures timeout retries 0 (events_of acts))).1
