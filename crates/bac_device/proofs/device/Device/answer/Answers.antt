-- A property of the definition's reply is a property of the written one.
use Rattle.{bac_pdu.specs.station, bac_device.{proofs.{of_reply, reply_fits}, specs.ReplyFits}}
use Rattle.bac_device.proofs.device.Device.answer.Goals as goal

pub returns-clause-fits : goal.returns-clause-fits
returns-clause-fits c =
    of_reply (ReplyFits (station c.args.from) c.args.datagram.now) _ _ _ c.answer_into.ensures.reply
    (reply_fits _ (station c.args.from) c.args.datagram.now)
