-- A law at one list of events, or an answer that is read once the definitions that read a datagram are opened.
use Rattle.std.proofs.Common.{[], ap, arith, length, length-append, List, refl, ◌++◌, ◌+◌, ◌∷◌, ◌≡◌, ◌≤◌}
use Rattle.bac_tsm.{proofs.{Calls.{answered, by_invoke_id}, Computed.computed}, specs.{Accepted, Inner.{device, under}}}
use Rattle.bac_tsm.proofs.examples.examples_of_laws.Goals as goal

-- one request stands between two of these three with the same invoke id
one_between : (before between after : List Accepted) (a b : Accepted)
    → under 1 ∷ under 2 ∷ under 1 ∷ [] ≡ before ++ (a ∷ between) ++ (b ∷ after)
    → a.request.invoke_id ≡ b.request.invoke_id → 256 ≤ length between + 255
one_between [] [] after a b e same = grind arith
one_between [] (c ∷ between) after a b e same = grind arith
one_between (x ∷ []) [] after a b e same = grind arith
one_between (x ∷ []) (c ∷ between) after a b e same = grind arith
one_between (x ∷ y ∷ before) between after a b e same =
    let count = ap length e in grind (arith, length-append)

pub returns-clause-late : goal.returns-clause-late
returns-clause-late c = one_between

pub returns-clause-at_once : goal.returns-clause-at_once
returns-clause-at_once c = λ h. let more = h [] [] [] (under 1) (under 1) refl refl in grind arith

pub returns-clause-early : goal.returns-clause-early
returns-clause-early c = λ h. let more = h [] (under 2 ∷ []) [] (under 1) (under 1) refl refl in grind arith

pub returns-clause-by_invoke_id : goal.returns-clause-by_invoke_id
returns-clause-by_invoke_id c = by_invoke_id 3000 3

pub returns-clause-by_none : goal.returns-clause-by_none
returns-clause-by_none c = λ h. let e = h (under 1).request (under 2).request device [] refl refl in grind arith

pub returns-clause-to_another : goal.returns-clause-to_another
unfolding computed
returns-clause-to_another c = λ h. let e = answered _ _ _ _ h in grind arith

pub returns-clause-whole_answer : goal.returns-clause-whole_answer
unfolding computed
returns-clause-whole_answer c = λ h. let e = answered _ _ _ _ h in grind arith

pub returns-clause-of_another : goal.returns-clause-of_another
unfolding computed
returns-clause-of_another c = λ h. let e = answered _ _ _ _ h in grind arith
