-- The appended octets are the shortest spelling, and read back.
use Rattle.std.proofs.lemmas.Result.{on_ok_weaker}
use Rattle.bac_wire.{proofs.{plain_tag_shortest, plain_tag_spells, spelled_back}, specs.SpellsTag}
use Rattle.bac_wire.proofs.tag.write_tag.Goals as goal

pub returns-clause-shortest : goal.returns-clause-shortest
returns-clause-shortest c = on_ok_weaker _ (λ _. plain_tag_shortest _ c.shortest.ensures.range) c.append.ensures.fits

pub returns-clause-read_back : goal.returns-clause-read_back
returns-clause-read_back c =
    on_ok_weaker _ (λ _. spelled_back SpellsTag _ _ (plain_tag_spells _ c.shortest.ensures.range)) c.append.ensures.fits
