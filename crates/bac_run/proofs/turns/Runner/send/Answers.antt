-- The link took the datagram, or refused it.
use Rattle.{std.proofs.Common.{false, true}, bac_pdu.specs.station, bac_print.proofs.Printed.prints_nothing}
use Rattle.bac_run.proofs.{went_handed}
use Rattle.bac_run.proofs.turns.Runner.send.Goals as goal

pub returns-then-not-offer-clause-went : goal.returns-then-not-offer-clause-went
returns-then-not-offer-clause-went g c =
    went_handed (station c.args.to) c.args.octets.now false c.remark_unsent.ensures c.if-not-offer.ensures.told

pub returns-else-not-offer-clause-went : goal.returns-else-not-offer-clause-went
returns-else-not-offer-clause-went g c =
    went_handed (station c.args.to) c.args.octets.now true (prints_nothing _) c.if-not-offer.ensures.told
