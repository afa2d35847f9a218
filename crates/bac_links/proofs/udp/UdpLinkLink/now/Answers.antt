-- The log grows by the calls for the new entries of the history.
use Rattle.std.proofs.{Common.refl, Math.Logic.∥∥₁_map}
use Rattle.bac_links.proofs.{keeps_timed}
use Rattle.bac_links.proofs.udp.UdpLinkLink.now.Goals as goal

pub invariant_of-self : goal.invariant_of-self
invariant_of-self g c = record {
  room = c.args.self.now.room;
  keeps = ∥∥₁_map c.args.self.now.keeps
      (λ k. rw c.push.ensures (keeps_timed _ _ _ _ _ _ _ k _ _ (record {
        calls = _;
        logged = c.elapsed.ensures;
        are = record { passed = _; time = c.time_by-self.ensures; asked = refl };
      })));
}
