use Rattle.std.proofs.Common.{◌*◌, ◌+◌, ◌≤◌}
use Rattle.bac_script.{proofs.SoFar, specs.{chunk_room, most_reads, most_to_come}}
use Rattle.bac_script.proofs.tracing.run_script.Given as goal

abbrev pub invariant-loop-next : goal.invariant-loop-next
invariant-loop-next g l = record {
  so_far : SoFar g.R.Read.remaining g.W.Write.contents l.fn.reader l.reader l.chunk l.fn.page l.page l.lines l.is_first
      l.client l.device;
  room : l.lines + most_to_come l.reader l.chunk ≤ chunk_room * most_reads;
}

abbrev pub decreases-loop-next : goal.decreases-loop-next
decreases-loop-next g l = most_to_come l.reader l.chunk
