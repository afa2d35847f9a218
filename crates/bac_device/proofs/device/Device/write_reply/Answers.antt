-- A request that was read has a priority of 1 to 16.
use Rattle.std.proofs.Common.{sym}
use Rattle.bac_pdu.proofs.BodyLaws.{write_is}
use Rattle.bac_device.proofs.device.Device.write_reply.Goals as goal

pub accepted_write-requires : goal.accepted_write-requires
accepted_write-requires c = ((write_is _ _).0 (sym c.in-Ok.ensures.value)).whole.urgent
