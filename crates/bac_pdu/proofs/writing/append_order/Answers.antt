-- A reference, a value and a priority: if one part has no room, the frame has only the beginning.
use Rattle.std.proofs.Common.{arith, ◌≡◌}
use Rattle.bac_wire.proofs.TagLaws.{front, stops, then_appends, written_as}
use Rattle.bac_pdu.{proofs.write_written, specs.order}
use Rattle.bac_pdu.proofs.writing.append_order.Goals as goal

pub returns-in_err-append_reference-clause-appended : goal.returns-in_err-append_reference-clause-appended
returns-in_err-append_reference-clause-appended c =
    written_as (write_written _) (stops _ c.from_residual.ensures.0 c.in_err-append_reference.ensures.appended)

pub returns-in_err-append_enclosed-clause-appended : goal.returns-in_err-append_enclosed-clause-appended
returns-in_err-append_enclosed-clause-appended c =
    written_as (write_written _) (then_appends c.in_ok-append_reference.ensures.appended
    (stops _ c.from_residual-in_err-append_enclosed.ensures.0 c.in_err-append_enclosed.ensures))

pub returns-clause-appended : goal.returns-clause-appended
returns-clause-appended c =
    let o = order c.args.request.now in
    let same : c.map.result ≡ o.priority = grind arith in
    written_as (write_written o) (then_appends c.in_ok-append_reference.ensures.appended
    (then_appends c.in_ok-append_enclosed.ensures (front (rw same at c.append_optional.ensures.appended))))
