-- The history has the sends, and the code has its own list.
use Rattle.bac_links.proofs.{sent_so}
use Rattle.bac_links.proofs.memory.MemoryLink.sent.Goals as goal

pub returns : goal.returns
returns g c = rw (← sent_so c.args.self.now.stands) (rw c.deref.ensures.value at c.sending.ensures)
