-- This is the law for any rules, whose two premises hold for a client.
use Rattle.bac_tsm.proofs.{by_invoke_id, few_open, is_lookahead}
use Rattle.bac_tsm.proofs.theorems.client_is_lookahead.Goals as goal

pub returns : goal.returns
returns c timeout retries first_ticket events = is_lookahead _ _ _ (by_invoke_id timeout retries) few_open
