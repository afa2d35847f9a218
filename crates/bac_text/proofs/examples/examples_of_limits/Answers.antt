-- Each row is computed.
use Rattle.std.proofs.Common.{refl}
use Rattle.bac_text.proofs.examples.examples_of_limits.Goals as goal

pub returns : goal.returns
returns c = record { line = refl; behind = refl; whole = refl }
