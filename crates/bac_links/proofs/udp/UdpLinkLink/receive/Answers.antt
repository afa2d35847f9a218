-- The log grows by the calls for the new entries of the history.
use Rattle.std.proofs.Math.Logic.{∥∥₁_map}
use Rattle.bac_links.proofs.{keeps_waited}
use Rattle.bac_links.proofs.udp.UdpLinkLink.receive.Goals as goal

pub invariant_of-self : goal.invariant_of-self
invariant_of-self g c =
    let heard = c.next_datagram-heard in
    record {
      room = c.args.self.now.room;
      keeps = ∥∥₁_map c.args.self.now.keeps
          (λ k. rw c.push.ensures
          (keeps_waited _ _ _ _ _ _ _ k c.requires heard.result c.args.wait_ms _ _ _ _ heard.ensures.asked
          heard.ensures.limited c.is_err-self.ensures.value));
    }
