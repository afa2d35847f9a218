-- The acknowledgement is written in three parts; if one is full, the whole has no room.
use Rattle.std.proofs.{Common.arith, lemmas.Grind.common_steps}
use Rattle.bac_pdu.{proofs.ShortestLaws.{ack_parts, length_ack}, specs.reference}
use Rattle.bac_device.specs.{acknowledged, Inner.property_seen}
use Rattle.bac_device.proofs.device.Device.ack.Goals as goal

pub returns-in_err-begin_ack-clause-full : goal.returns-in_err-begin_ack-clause-full
returns-in_err-begin_ack-clause-full c =
    let all = length_ack
    (acknowledged c.args.self.now (reference c.args.request.now) (property_seen c.args.property.now)) in
    grind arith

pub returns-in_err-append_region-clause-full : goal.returns-in_err-append_region-clause-full
returns-in_err-append_region-clause-full c =
    let all = length_ack
    (acknowledged c.args.self.now (reference c.args.request.now) (property_seen c.args.property.now)) in
    grind arith

pub returns-clause-ok : goal.returns-clause-ok
returns-clause-ok c =
    rw (ack_parts (acknowledged c.args.self.now (reference c.args.request.now) (property_seen c.args.property.now)))
    (grind arith)

pub returns-clause-full : goal.returns-clause-full
returns-clause-full c =
    let all = length_ack
    (acknowledged c.args.self.now (reference c.args.request.now) (property_seen c.args.property.now)) in
    grind (arith, common_steps)
