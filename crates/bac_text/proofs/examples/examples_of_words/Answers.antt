-- Each row is computed once the definitions that read it are opened.
use Rattle.std.{proofs.Common.arith, specs.Fmt.digits}
use Rattle.{hex.specs.Hex.{decode_pairs, encode_with}, bac_wire.specs.{plain, plain_tag, Inner.Datum.tagged}}
use Rattle.{bac_pdu.specs.plain_parameter, bac_text.specs.value_under}
use Rattle.bac_text.proofs.examples.examples_of_words.Goals as goal

pub returns : goal.returns
unfolding digits decode_pairs encode_with value_under plain tagged plain_tag plain_parameter
returns c = grind arith
