-- Two histories are compared as far as they were answered alike.
use Rattle.bac_links.proofs.{searches_so_far}
use Rattle.bac_links.proofs.laws.a_search_is_a_function.Goals as goal

pub returns : goal.returns
returns g c = λ search before after other_before other_after.
    searches_so_far g.V.Write.contents g.W.Write.contents search before after other_before other_after
