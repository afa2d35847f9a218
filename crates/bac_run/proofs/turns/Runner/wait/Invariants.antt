-- One turn after another.
use Rattle.std.proofs.Common.{[], false, ◌∷◌, ◌≡◌, ◌≤◌}
use Rattle.{bac_links.specs.most_turns, bac_run.proofs.room_left}
use Rattle.bac_run.specs.{open_in, Turns, Inner.{done, started, Went.Went}}
use Rattle.bac_run.proofs.turns.Runner.wait.Given as goal

abbrev pub invariant-turns : goal.invariant-turns
invariant-turns g l = record {
  sound : g.L.Link.has_failed l.link ≡ false;
  kept : open_in l.self.client ≤ open_in l.fn.self.client;
  few : l.left ≤ most_turns;
  went : Went g.W.Write.contents l.fn.self l.self l.fn.page l.page (g.L.Link.seen l.fn.link) (g.L.Link.seen l.link)
      (λ later. started l.fn.self (Turns l.until most_turns ∷ later)) (λ later. started l.self
      (Turns l.until l.left ∷ later))
      done [];
}

abbrev pub decreases-turns : goal.decreases-turns
decreases-turns g l = room_left l.self.client.state.clock l.left
