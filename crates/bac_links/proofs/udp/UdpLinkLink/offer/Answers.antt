-- The log grows by the calls for the new entries of the history.
use Rattle.std.proofs.Math.Logic.{∥∥₁_map}
use Rattle.{bac_pdu.specs.station, bac_links.proofs.keeps_offered}
use Rattle.bac_links.proofs.udp.UdpLinkLink.offer.Goals as goal

pub invariant_of-self : goal.invariant_of-self
invariant_of-self g c = record {
  room = c.args.self.now.room;
  keeps = ∥∥₁_map c.args.self.now.keeps
      (λ k. rw (c.push.ensures, c.is_ok-taken.ensures.value)
      (keeps_offered _ _ _ _ _ _ _ k c.requires (station c.args.to) c.args.octets.now _ _ _ c.post.ensures.asked));
}
