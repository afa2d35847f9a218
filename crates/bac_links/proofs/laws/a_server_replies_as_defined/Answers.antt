-- The history has the datagrams that came, from which the definition computes the replies.
use Rattle.std.proofs.Common.{ap, List, subst, sym, ◌∙◌}
use Rattle.bac_device.specs.Turns.{AreDefined}
use Rattle.bac_links.{proofs.{defined, played}, specs.{arrivals_in, device_behind, Entry, replies_of}}
use Rattle.bac_links.proofs.laws.a_server_replies_as_defined.Goals as goal

pub returns : goal.returns
returns g c = λ count before after seen left result gained writes serves gains holds.
    let is = played serves.plays gains in
    let left_so = serves.device ∙ ap (λ (xs : List Entry). device_behind before (arrivals_in xs)) is in
    subst (AreDefined before writes (arrivals_in gained) (replies_of before (arrivals_in gained))) (sym left_so)
    (defined before writes (arrivals_in gained) holds)
