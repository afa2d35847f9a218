-- The lemma states the sends; its replies are those of the definition.
use Rattle.bac_links.{proofs.{defined, plays_all, server_sent}, specs.arrivals_in}
use Rattle.bac_links.proofs.laws.a_server_sends_its_replies.Goals as goal

pub returns : goal.returns
returns g c = λ count before after seen left result gained writes serves gains holds.
    rw (defined before writes (arrivals_in gained) holds).replied at
    (server_sent count before (plays_all serves.plays gains))
