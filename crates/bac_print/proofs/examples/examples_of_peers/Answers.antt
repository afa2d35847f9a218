-- The texts are computed, so definitions that are folded elsewhere are opened here.
use Rattle.std.{proofs.Common.refl, specs.Fmt.digits}
use Rattle.hex.specs.Hex.{encode_with}
use Rattle.bac_print.proofs.examples.examples_of_peers.Goals as goal

pub returns : goal.returns
unfolding digits encode_with
returns c = record { plain = refl; routed = refl }
