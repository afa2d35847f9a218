-- Both requests are accepted, since few are open; the tick has an entry on each request that is still open.
use Rattle.std.proofs.Common.{arith, refl}
use Rattle.bac_tsm.proofs.Laws.{opens, told_unless_answered}
use Rattle.bac_uses.proofs.client.two_reads.Goals as goal

pub returns : goal.returns
returns c =
    let one = opens _ _ _ c.new-client.ensures c.submit-value.ensures (omega arith) (omega arith) (omega arith) refl in
    let two = opens _ _ _ one.left c.submit-name.ensures (omega arith) (omega arith) (omega arith) refl in
    told_unless_answered _ _ _ two.left (refl, (refl, tt)) c.datagram-ended.ensures.left c.tick.ensures.answer
