-- The played steps are those of the history, which gains an entry.
use Rattle.std.proofs.{Common.arith, lemmas.List.length-map, Math.Logic.∥∥₁_map}
use Rattle.{bac_pdu.specs.station, bac_links.proofs.{sent_so, stands_offered}}
use Rattle.bac_links.proofs.memory.MemoryLinkLink.offer.Goals as goal

pub invariant_of-self : goal.invariant_of-self
invariant_of-self g c =
    let kept = c.keep_sent-sent in
    record {
      stands = ∥∥₁_map c.args.self.now.stands
          (λ s. rw (c.push.ensures, c.is_ok-taken.ensures.value)
          (stands_offered _ _ _ _ _ s kept.result (station c.args.to) c.args.octets.now _ kept.ensures.ok
          kept.ensures.err));
    }

pub returns-clause-its_number : goal.returns-clause-its_number
returns-clause-its_number g c = grind (arith, sent_so, length-map)
