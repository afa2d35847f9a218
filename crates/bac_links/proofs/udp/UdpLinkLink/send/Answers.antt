-- The log grows by the calls for the new entries of the history.
use Rattle.std.proofs.Math.Logic.{∥∥₁_map}
use Rattle.{bac_pdu.specs.station, bac_links.proofs.keeps_sent}
use Rattle.bac_links.proofs.udp.UdpLinkLink.send.Goals as goal

pub invariant_of-self : goal.invariant_of-self
invariant_of-self g c = record {
  room = c.args.self.now.room;
  keeps = ∥∥₁_map c.args.self.now.keeps
      (λ k. rw c.push.ensures
      (keeps_sent _ _ _ _ _ _ _ k c.requires c.post-sent.result (station c.args.to) c.args.octets.now _ _
      c.post-sent.ensures.asked));
}
