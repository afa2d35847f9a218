-- Each row is computed once the definitions that read and write it are opened.
use Rattle.std.proofs.Common.{arith}
use Rattle.bac_wire.specs.{contents_of, context_at, kind_at, length_at, long_length_at, number_at, plain, plain_tag}
use Rattle.{bac_wire.specs.{shape_at, tag_at, tag_number_at, value_at}, bac_pdu.specs.address_at}
use Rattle.bac_pdu.specs.{apdu_of, carried, found_of, header_at, introduction_of, link_at, parts_at, who_is_of, wrapped}
use Rattle.bac_pdu.proofs.examples.examples_of_discovery.Goals as goal

pub returns : goal.returns
unfolding plain_tag tag_number_at long_length_at length_at shape_at tag_at plain contents_of value_at context_at
    number_at
    kind_at wrapped address_at header_at link_at carried parts_at apdu_of who_is_of introduction_of found_of
returns c = grind arith
