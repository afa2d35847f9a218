use Rattle.std.proofs.Common.{[], false, length, ◌+◌, ◌≡◌, ◌≤◌}
use Rattle.{bac_print.specs.{has_failed, Prints, reads_of}, bac_script.proofs.IsSearched}
use Rattle.bac_script.specs.{may_read, most_to_come, ReadForLine, ReadsNoMore, TakesAndKeeps, Inner.HasNotEnded}
use Rattle.bac_script.proofs.input.Chunk.next_line.Given as goal

abbrev pub invariant-loop-length : goal.invariant-loop-length
invariant-loop-length g l = record {
  given : TakesAndKeeps g.R.Read.remaining l.fn.reader l.reader l.fn.self l.self [];
  printed : Prints g.W.Write.contents l.fn.page l.page [];
  sound : has_failed l.reader ≡ false;
  unended : HasNotEnded l.fn.reader l.reader;
  asked : reads_of l.reader + length l.fn.self ≤ reads_of l.fn.reader + length l.self;
  needed : ReadForLine l.fn.reader l.reader l.fn.page l.page l.fn.self l.self;
  spared : ReadsNoMore l.fn.reader l.reader;
  room : most_to_come l.reader l.self ≤ most_to_come l.fn.reader l.fn.self;
  searched : IsSearched l.searched l.self;
}

abbrev pub decreases-loop-length : goal.decreases-loop-length
decreases-loop-length g l = may_read l.reader
