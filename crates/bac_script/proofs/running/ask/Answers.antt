-- The state of a script's device follows from its accepted writes.
use Rattle.std.proofs.Common.{◌∙◌}
use Rattle.{bac_pdu.specs.station, bac_device.{proofs.Answering.next_after, specs.demo_points}}
use Rattle.bac_script.specs.{small_device}
use Rattle.bac_script.proofs.running.ask.Goals as goal

pub returns-clause-device : goal.returns-clause-device
returns-clause-device g c writes is =
    let written = rw is at c.answer-to.ensures.written in
    written ∙ next_after small_device demo_points writes (station c.args.received.from) c.args.received.datagram.now
