-- The law follows from the look-ahead's bounds for an open request.
use Rattle.{bac_tsm.specs.client_rules, bac_run.proofs.open_in_time}
use Rattle.bac_run.proofs.laws.a_request_ends_in_time.Goals as goal

pub returns : goal.returns
returns c = λ timeout retries. open_in_time (client_rules timeout retries)
