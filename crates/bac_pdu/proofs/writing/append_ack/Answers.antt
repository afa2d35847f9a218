-- A reference and then the values: if one part has no room, the frame has only the beginning.
use Rattle.{bac_wire.proofs.TagLaws.{stops, then_appends, written_as}, bac_pdu.proofs.ack_written}
use Rattle.bac_pdu.proofs.writing.append_ack.Goals as goal

pub returns-in_err-append_reference-clause-appended : goal.returns-in_err-append_reference-clause-appended
returns-in_err-append_reference-clause-appended c =
    written_as (ack_written _) (stops _ c.from_residual.ensures.0 c.in_err-append_reference.ensures.appended)

pub returns-clause-appended : goal.returns-clause-appended
returns-clause-appended c =
    written_as (ack_written _) (then_appends c.in_ok-append_reference.ensures.appended c.append_enclosed.ensures)
