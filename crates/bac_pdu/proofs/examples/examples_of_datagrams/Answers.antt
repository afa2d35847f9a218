-- Each row is computed once the definitions that read and write it are opened.
use Rattle.std.proofs.Common.{arith}
use Rattle.bac_wire.specs.{context_at, length_at, long_length_at, number_at, object_at, plain_tag, shape_at, tag_at}
use Rattle.{bac_wire.specs.tag_number_at, bac_pdu.specs.{address_at, apdu_of, carried, header_at, link_at, parts_at}}
use Rattle.bac_pdu.specs.{plain_parameter, read_of, reference_at, wrapped}
use Rattle.bac_pdu.proofs.examples.examples_of_datagrams.Goals as goal

pub returns : goal.returns
unfolding plain_tag tag_number_at long_length_at length_at shape_at tag_at context_at number_at object_at
    plain_parameter
    reference_at read_of wrapped address_at header_at link_at carried parts_at apdu_of
returns c = grind arith
