-- Two histories are compared as far as they were answered alike.
use Rattle.bac_links.proofs.{servings_so_far}
use Rattle.bac_links.proofs.laws.a_server_is_a_function.Goals as goal

pub returns : goal.returns
returns g c = λ count before after other_after. servings_so_far count before after other_after
