use Rattle.std.proofs.Common.{false, ◌≡◌}
use Rattle.bac_links.specs.Inner.{Underway}
use Rattle.bac_links.proofs.call.run.Given as goal

abbrev pub invariant-loop-turn : goal.invariant-loop-turn
invariant-loop-turn g l = record {
  sound : g.L.Link.has_failed l.link ≡ false;
  unwritten : l.writer ≡ l.fn.writer;
  so_far : Underway l.fn.purpose l.fn.call (g.L.Link.seen l.fn.link) (g.L.Link.seen l.link) l.client l._turn;
}
