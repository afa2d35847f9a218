-- Each row is computed once the definitions that read and write it are opened.
use Rattle.std.{proofs.Common.arith, specs.Fmt.digits}
use Rattle.{hex.specs.Hex.decode_pairs, bac_wire.specs.{plain, plain_tag, Inner.Datum.tagged}}
use Rattle.bac_text.specs.{value_under}
use Rattle.bac_text.proofs.examples.examples_of_values.Goals as goal

pub returns : goal.returns
unfolding digits decode_pairs value_under plain tagged plain_tag
returns c = grind arith
