-- The appended octets are known, so they are the shortest spelling and read back.
use Rattle.std.proofs.lemmas.Result.{on_ok_weaker}
use Rattle.bac_pdu.proofs.{read_back, read_shortest}
use Rattle.bac_pdu.proofs.writing.write_read.Goals as goal

pub returns-clause-shortest : goal.returns-clause-shortest
returns-clause-shortest c =
    rw c.whole_or_nothing.ensures.same (on_ok_weaker _ (read_shortest _) c.append_reference-appended.ensures.known)

pub returns-clause-read_back : goal.returns-clause-read_back
returns-clause-read_back c =
    rw c.whole_or_nothing.ensures.same (on_ok_weaker _ (read_back _) c.append_reference-appended.ensures.known)
