-- The calls of a look so far, and the receives that are left.
use Rattle.std.proofs.Common.{length, ◌≡◌}
use Rattle.bac_links.specs.{Logs, Inner.HasLooked}
use Rattle.bac_links.proofs.udp.look.Given as goal

abbrev pub invariant-looks : goal.invariant-looks
invariant-looks g l = record {
  room : length l.buffer ≡ length l.fn.buffer;
  kept : l.datagram ≡ l.fn.datagram;
  looked : Logs (HasLooked l.refused l.times l.left) (g.S.Socket.log l.fn.socket) (g.S.Socket.log l.socket);
}

abbrev pub decreases-looks : goal.decreases-looks
decreases-looks g l = l.left
