-- The texts are computed, so definitions that are folded elsewhere are opened here.
use Rattle.std.{proofs.Common.arith, specs.Fmt.digits}
use Rattle.{hex.specs.Hex.encode_with, bac_wire.specs.contents_of}
use Rattle.bac_wire.specs.{length_at, long_length_at, shape_at, tag_at, tag_number_at, value_at, values_within}
use Rattle.bac_print.proofs.examples.examples_of_regions.Goals as goal

pub returns : goal.returns
unfolding digits encode_with values_within value_at contents_of tag_at shape_at length_at long_length_at tag_number_at
returns c = grind arith
