-- The points up to here are after the write, and the others as they were.
use Rattle.std.proofs.{Common.arith, lemmas.List.Edits.map_over_more}
use Rattle.bac_device.specs.{put, Inner.write_seen}
use Rattle.bac_device.proofs.device.put_in.Goals as goal

pub loop-point-preserved : goal.loop-point-preserved
loop-point-preserved c = grind (arith, map_over_more (put (write_seen c.args.write.now)))
