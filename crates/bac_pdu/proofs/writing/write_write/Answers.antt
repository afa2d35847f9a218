-- The appended octets are known, so they are the shortest spelling and read back.
use Rattle.std.proofs.lemmas.Result.{on_ok_weaker}
use Rattle.bac_pdu.{proofs.{order_is_written, order_known, write_back}, specs.order}
use Rattle.bac_pdu.proofs.writing.write_write.Goals as goal

pub returns-clause-shortest : goal.returns-clause-shortest
returns-clause-shortest c =
    rw c.whole_or_nothing.ensures.same (on_ok_weaker _
    (λ known. order_is_written (order c.args.request.now) known c.requires.region c.requires.priority)
    c.append_order-appended.ensures.known)

pub returns-clause-read_back : goal.returns-clause-read_back
returns-clause-read_back c =
    rw c.whole_or_nothing.ensures.same (on_ok_weaker _ (λ known. write_back _
    (order_known (order c.args.request.now) known c.requires.region c.requires.priority) c.requires.priority)
    c.append_order-appended.ensures.known)
