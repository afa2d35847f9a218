-- The played steps are those of the history, which gains an entry.
use Rattle.std.proofs.Math.Logic.{∥∥₁_map}
use Rattle.bac_links.proofs.{stands_timed}
use Rattle.bac_links.proofs.memory.MemoryLinkLink.now.Goals as goal

pub invariant_of-self : goal.invariant_of-self
invariant_of-self g c =
    record { stands = ∥∥₁_map c.args.self.now.stands (λ s. rw c.push.ensures (stands_timed _ _ _ _ _ s)) }
