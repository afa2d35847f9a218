-- The played steps are those of the history, which gains an entry.
use Rattle.std.proofs.{Common.{arith, refl}, lemmas.List.length-map, Math.Logic.∥∥₁_map}
use Rattle.bac_links.proofs.{stands_waited}
use Rattle.bac_links.proofs.memory.MemoryLinkLink.receive.Goals as goal

pub invariant_of-self : goal.invariant_of-self
invariant_of-self g c =
    let heard = rw (c.step_at-step.ensures, c.deref.ensures.value) at c.play-heard.ensures.heard in
    let time = rw (c.step_at-step.ensures, c.deref.ensures.value) at c.play-heard.ensures.time in
    record {
      stands = ∥∥₁_map c.args.self.now.stands
          (λ s. rw c.push.ensures
          (stands_waited _ _ _ _ _ s _ c.args.wait_ms _ _ _ refl heard time (rw length-map (omega arith)) (omega arith)
          c.saturating_add-self.ensures));
    }
