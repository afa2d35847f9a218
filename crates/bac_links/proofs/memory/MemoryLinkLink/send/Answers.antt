-- The played steps are those of the history, which gains an entry.
use Rattle.std.proofs.{lemmas.List.length-map, Math.Logic.∥∥₁_map}
use Rattle.{bac_pdu.specs.station, bac_links.proofs.{sent_so, stands_sent}}
use Rattle.bac_links.proofs.memory.MemoryLinkLink.send.Goals as goal

pub invariant_of-self : goal.invariant_of-self
invariant_of-self g c =
    let kept = c.keep_sent-sent in
    record {
      stands = ∥∥₁_map c.args.self.now.stands
          (λ s. rw c.push.ensures
          (stands_sent _ _ _ _ _ s kept.result (station c.args.to) c.args.octets.now _ kept.ensures.ok
          kept.ensures.err));
    }

pub returns-clause-its_number : goal.returns-clause-its_number
returns-clause-its_number g c = λ number.
    c.keep_sent-sent.ensures.its_number (rw (← sent_so c.args.self.now.stands, length-map) at number)
