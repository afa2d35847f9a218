use Rattle.{std.proofs.Common.{false, ◌*◌, ◌+◌, ◌≡◌, ◌≤◌}, bac_print.specs.has_failed}
use Rattle.{bac_script.specs.{Input.most_reads, Limits.chunk_room, NextLine.most_to_come}, bac_run.proofs.SoFar}
use Rattle.bac_run.specs.{Open}
use Rattle.bac_run.proofs.running.run_lines.Given as goal

abbrev pub invariant-lines : goal.invariant-lines
invariant-lines g l = record {
  reader : has_failed l.reader ≡ false;
  link : g.L.Link.has_failed l.link ≡ false;
  so_far : SoFar g.R.Read.remaining g.W.Write.contents l.fn.setup l.run l.fn.reader l.reader l.chunk l.fn.page
      l.page (g.L.Link.seen l.fn.link) (g.L.Link.seen l.link) l.lines Open;
  room : l.lines + most_to_come l.reader l.chunk ≤ chunk_room * most_reads;
}

abbrev pub decreases-lines : goal.decreases-lines
decreases-lines g l = most_to_come l.reader l.chunk
