-- The appended octets are the shortest spelling, and read back.
use Rattle.std.proofs.lemmas.Result.{on_ok_weaker}
use Rattle.bac_wire.{proofs.{plain_shortest, plain_spells, spelled_back, written_datum}, specs.Spells}
use Rattle.bac_wire.proofs.value.write_value.Goals as goal

pub returns-clause-shortest : goal.returns-clause-shortest
returns-clause-shortest c =
    on_ok_weaker _ (λ fits. plain_shortest _ (written_datum _ _ c.append_value.ensures.range fits))
    c.append_value.ensures.appended.fits

pub returns-clause-read_back : goal.returns-clause-read_back
returns-clause-read_back c =
    on_ok_weaker _ (λ fits. spelled_back Spells _ _ (plain_spells _
    (written_datum _ _ c.append_value.ensures.range fits))) c.append_value.ensures.appended.fits
