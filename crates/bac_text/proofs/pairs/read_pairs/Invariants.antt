use Rattle.std.proofs.Common.{length, ◌<◌, ◌^◌}
use Rattle.bac_text.proofs.{Progress}
use Rattle.bac_text.proofs.pairs.read_pairs.Given as goal

abbrev pub invariant-loop-tag : goal.invariant-loop-tag
invariant-loop-tag g l = record {
  progress : Progress (g.S.WordSource.left l.fn.words) (g.S.WordSource.left l.words) l.number l.region l.is_too_long;
  countable : length (g.S.WordSource.left l.fn.words) < 2 ^ 64;
}

abbrev pub decreases-loop-tag : goal.decreases-loop-tag
decreases-loop-tag g l = length (g.S.WordSource.left l.words)
