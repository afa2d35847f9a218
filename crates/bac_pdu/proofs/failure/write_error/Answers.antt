-- The written octets are the shortest spelling, and read back.
use Rattle.std.proofs.{Common.arith, lemmas.Result.on_ok_weaker}
use Rattle.bac_pdu.proofs.{error_is_back}
use Rattle.bac_pdu.proofs.failure.write_error.Goals as goal

pub returns-clause-read_back : goal.returns-clause-read_back
returns-clause-read_back c = grind (arith, on_ok_weaker, error_is_back)
