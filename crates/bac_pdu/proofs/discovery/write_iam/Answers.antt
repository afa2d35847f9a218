-- The appended octets are the shortest spelling, which reads back.
use Rattle.std.proofs.lemmas.Result.{on_ok_weaker}
use Rattle.bac_pdu.proofs.{i_am_is_back}
use Rattle.bac_pdu.proofs.discovery.write_iam.Goals as goal

pub returns-clause-read_back : goal.returns-clause-read_back
returns-clause-read_back c =
    rw c.whole_or_nothing.ensures.same (on_ok_weaker _ (i_am_is_back _) c.append_introduction-appended.ensures.shortest)
