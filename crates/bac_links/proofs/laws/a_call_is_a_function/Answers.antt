-- Two histories are compared as far as they were answered alike.
use Rattle.bac_links.proofs.{calls_so_far}
use Rattle.bac_links.proofs.laws.a_call_is_a_function.Goals as goal

pub returns : goal.returns
returns g c = λ purpose call before after other_before other_after.
    calls_so_far purpose call g.V.Write.contents g.W.Write.contents before after other_before other_after
