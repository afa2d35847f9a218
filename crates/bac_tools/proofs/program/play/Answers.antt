-- The served device is the one that `demo` makes.
use Rattle.std.proofs.Common.{arith}
use Rattle.bac_tools.proofs.program.play.Goals as goal

pub returns-in-Ok-clause-plays : goal.returns-in-Ok-clause-plays
returns-in-Ok-clause-plays g c = record {
  device = c.serve.new.device;
  served = c.serve.result;
  serves = rw c.demo-played.ensures at c.serve.ensures.told;
  answered = grind (arith, c.in-Ok.is);
}

pub returns-in-Err-clause-plays : goal.returns-in-Err-clause-plays
returns-in-Err-clause-plays g c = record {
  device = c.serve.new.device;
  served = c.serve.result;
  serves = rw c.demo-played.ensures at c.serve.ensures.told;
  answered = grind (arith, c.in-Err.is);
}
