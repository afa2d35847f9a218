-- The appended octets are known, so they are the shortest spelling and read back.
use Rattle.std.proofs.lemmas.Result.{on_ok_weaker}
use Rattle.bac_pdu.{proofs.{ack_back, ack_known, ack_shortest}, specs.ack_seen}
use Rattle.bac_pdu.proofs.writing.write_ack.Goals as goal

pub returns-clause-shortest : goal.returns-clause-shortest
returns-clause-shortest c =
    rw c.whole_or_nothing.ensures.same (on_ok_weaker _
    (λ known. ack_shortest _ (ack_known (ack_seen c.args.ack.now) known c.requires))
    c.append_ack-appended.ensures.known)

pub returns-clause-read_back : goal.returns-clause-read_back
returns-clause-read_back c =
    rw c.whole_or_nothing.ensures.same (on_ok_weaker _
    (λ known. ack_back _ (ack_known (ack_seen c.args.ack.now) known c.requires)) c.append_ack-appended.ensures.known)
