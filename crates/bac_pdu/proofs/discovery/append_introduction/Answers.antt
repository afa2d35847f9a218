-- The appended octets are the shortest spelling.
use Rattle.std.proofs.lemmas.Result.{on_ok_weaker}
use Rattle.bac_pdu.proofs.{i_am_shortest}
use Rattle.bac_pdu.proofs.discovery.append_introduction.Goals as goal

pub returns-clause-shortest : goal.returns-clause-shortest
returns-clause-shortest c =
    on_ok_weaker _
    (i_am_shortest _ c.requires c.in_ok-write_value.ensures.shortest c.in_ok-write_value-2.ensures.shortest
    c.in_ok-write_value-3.ensures.shortest)
    c.write_value-4.ensures.shortest
