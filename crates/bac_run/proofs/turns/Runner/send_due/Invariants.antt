use Rattle.std.{proofs.Common.{[], drop, false, ◌≡◌}, specs.List.flat_map}
use Rattle.bac_tsm.specs.{due_notes}
use Rattle.bac_run.specs.{sends_in, Inner.{done, to_hand, Went.Went}}
use Rattle.bac_run.proofs.turns.Runner.send_due.Given as goal

abbrev pub invariant-loop-entry : goal.invariant-loop-entry
invariant-loop-entry g l = record {
  sound : g.L.Link.has_failed l.link ≡ false;
  went : Went g.W.Write.contents l.fn.self l.fn.self l.fn.page l.page (g.L.Link.seen l.fn.link) (g.L.Link.seen l.link)
      (λ later. to_hand l.fn.self (sends_in (flat_map (due_notes l.fn.self.client.state) l.due), later))
      (λ later. to_hand l.fn.self (
        sends_in (flat_map (due_notes l.fn.self.client.state) (drop l.entry-index l.due)),
        later,
      )) done [];
}
