-- The tools are compared at two of their runs.
use Rattle.std.proofs.Common.{[], arith, ◌∷◌}
use Rattle.bac_links.specs.{Posted, Timed, Inner.{asked_so, desk}}
use Rattle.bac_links.proofs.examples.examples_of_tools.Goals as goal

pub returns-clause-other_question : goal.returns-clause-other_question
returns-clause-other_question c = λ h.
    let both = h (asked_so []) (asked_so (Timed 0 ∷ [])) (asked_so []) (asked_so (Posted desk [] ∷ [])) 0 0 []
    (Timed 0 ∷ []) [] (Posted desk [] ∷ []) in
    grind (arith, both)

pub returns-clause-other_end : goal.returns-clause-other_end
returns-clause-other_end c = λ h.
    let both = h (asked_so []) (asked_so (Timed 5 ∷ [])) (asked_so []) (asked_so (Timed 5 ∷ [])) 5 0 (Timed 5 ∷ []) []
    (Timed 5 ∷ []) [] in
    grind (arith, both)
