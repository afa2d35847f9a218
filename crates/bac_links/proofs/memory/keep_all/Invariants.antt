use Rattle.std.proofs.Common.{map, take, ◌≡◌}
use Rattle.bac_links.specs.{scene_of_kept, scene_of_step}
use Rattle.bac_links.proofs.memory.keep_all.Given as goal

abbrev pub invariant-loop-step : goal.invariant-loop-step
invariant-loop-step g l = map scene_of_kept l.kept.items ≡ map scene_of_step (take l.step-index l.steps)
