use Rattle.std.proofs.Common.{drop, map, take, ◌++◌, ◌≡◌}
use Rattle.bac_device.specs.{put, Inner.write_seen}
use Rattle.bac_device.proofs.device.put_in.Given as goal

abbrev pub invariant-loop-point : goal.invariant-loop-point
invariant-loop-point l =
    l.points ≡ map (put (write_seen l.write)) (take l.point-index l.initial.points)
    ++ drop l.point-index l.initial.points
