-- The received datagrams are those of the waits, so the lemma counts them.
use Rattle.bac_links.proofs.{as_many, plays_all}
use Rattle.bac_links.proofs.laws.a_server_hears_as_many.Goals as goal

pub returns : goal.returns
returns g c = λ count before after seen left result gained serves gains.
    as_many count before (plays_all serves.plays gains)
