-- A reply of at most 1476 octets fits a frame after any header, so wrapping it cannot fail.
use Rattle.std.proofs.Common.{arith}
use Rattle.{bac_pdu.proofs.DatagramLaws.{carried_is, wrapped_short}, bac_device.proofs.carried_routable}
use Rattle.bac_device.proofs.device.Device.answer_into.Goals as goal

pub unreachable-requires : goal.unreachable-requires
unreachable-requires c = grind (arith, carried_routable, carried_is, wrapped_short)
