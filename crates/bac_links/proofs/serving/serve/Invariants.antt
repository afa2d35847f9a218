use Rattle.std.proofs.Common.{false, ◌<◌, ◌≡◌, ◌≤◌}
use Rattle.bac_links.proofs.{ServeGoes}
use Rattle.bac_links.proofs.serving.serve.Given as goal

abbrev pub invariant-loop-turn : goal.invariant-loop-turn
invariant-loop-turn g l = record {
  sound : g.L.Link.has_failed l.link ≡ false;
  fewer : l.came < l.fn.count;
  few : l.sent ≤ l.came;
  goes : ServeGoes l.fn.device l.device (g.L.Link.seen l.fn.link) (g.L.Link.seen l.link) l.fn.count l.came l.sent
      l._turn;
}
