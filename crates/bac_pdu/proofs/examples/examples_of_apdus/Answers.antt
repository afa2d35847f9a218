-- Each row is computed once the definitions that read and write it are opened.
use Rattle.std.proofs.Common.{arith}
use Rattle.bac_wire.specs.{behind_closing, behind_items, behind_opening, context_at, enclosed_at, length_at}
use Rattle.bac_wire.specs.{long_length_at, number_at, object_at, plain, plain_tag, region_at, shape_at, tag_at}
use Rattle.bac_wire.specs.{tag_number_at}
use Rattle.bac_pdu.specs.{ack_of, apdu_of, parts_at, plain_parameter, read_of, reference_at, write_of}
use Rattle.bac_pdu.proofs.examples.examples_of_apdus.Goals as goal

pub returns : goal.returns
unfolding plain_tag tag_number_at long_length_at length_at shape_at tag_at plain behind_closing behind_items region_at
    context_at number_at object_at behind_opening enclosed_at plain_parameter reference_at read_of write_of ack_of
    parts_at apdu_of
returns c = grind arith
