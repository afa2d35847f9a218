-- The octets that one write took come after those of the writes before it; a write that fails takes none.
use Rattle.std.proofs.{Common.arith, lemmas.List.take_rest}
use Rattle.bac_print.proofs.{Sent_all, Sent_more, unread_more}
use Rattle.bac_print.proofs.page.put.Goals as goal

-- the octets that a write took were sent too
pub loop-rest-preserved : goal.loop-rest-preserved
loop-rest-preserved g c =
    let sent = Sent_more c.write.new.self _ c.loop-rest.invariant.sent c.loop-rest.invariant.sound
    (grind arith) c.write.ensures.asked c.write.ensures.bytes c.write.ensures.failed c.write.ensures.passed in
    record {
      sent = rw take_rest (rw c.in-Ok.is at sent);
      sound = grind arith;
      reads = unread_more c.args.writer.now _ _ c.loop-rest.invariant.reads c.write.ensures.reads;
    }

-- if a write failed, the whole rest was given to it
pub returns-in_default-clause-text : goal.returns-in_default-clause-text
returns-in_default-clause-text g c =
    let sent = Sent_more _ _ c.loop-rest.invariant.sent c.loop-rest.invariant.sound
    (grind arith) c.write.ensures.asked c.write.ensures.bytes c.write.ensures.failed c.write.ensures.passed in
    (sent.sent, _, sent.whole, sent.took)

-- a write that took nothing was a write of the whole rest too
pub returns-then-taken-eq0-clause-text : goal.returns-then-taken-eq0-clause-text
returns-then-taken-eq0-clause-text g c =
    let sent = Sent_more _ _ c.loop-rest.invariant.sent c.loop-rest.invariant.sound
    (grind arith) c.write.ensures.asked c.write.ensures.bytes c.write.ensures.failed c.write.ensures.passed in
    (sent.sent, _, sent.whole, sent.took)

pub returns-clause-text : goal.returns-clause-text
returns-clause-text g c = Sent_all _ _ _ _ _ c.loop-rest.invariant.sent (grind arith)
