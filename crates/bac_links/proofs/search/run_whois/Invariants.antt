use Rattle.std.proofs.Common.{false, ◌≡◌, ◌≤◌}
use Rattle.{bac_print.specs.has_failed, bac_links.proofs.SearchGoes}
use Rattle.bac_links.proofs.search.run_whois.Given as goal

abbrev pub invariant-loop-turn : goal.invariant-loop-turn
invariant-loop-turn g l = record {
  sound : g.L.Link.has_failed l.link ≡ false;
  unfailed : has_failed l.writer ≡ false;
  later : l.first ≤ l.greatest;
  goes : SearchGoes l.fn.search g.W.Write.contents l.fn.writer l.writer (g.L.Link.seen l.fn.link) (g.L.Link.seen l.link)
      l.first l.greatest l.any l._turn;
}
