-- A text with two line feeds has one before its end.
use Rattle.std.proofs.Common.{[], arith, List, refl, subst, sym, ℕ, ◌++◌, ◌∙◌, ◌∷◌, ◌≡◌}
use Rattle.{std.proofs.lemmas.List.append_cancel_right, bac_run.proofs.{Cut.not_empty, ReadBack.time_read_back}}
use Rattle.bac_run.specs.{HasNoFeed}
use Rattle.bac_run.proofs.examples.examples_of_reading.Goals as goal

stops : HasNoFeed (10 ∷ []) → ⊥
stops (other, none) = other refl

no_line : (text : List ℕ) → HasNoFeed text → 10 ∷ 10 ∷ [] ≡ text ++ 10 ∷ [] → ⊥
no_line text free ended = stops (subst HasNoFeed (sym (append_cancel_right (10 ∷ []) text (10 ∷ []) ended)) free)

pub returns-clause-feed : goal.returns-clause-feed
returns-clause-feed c = (13 ∷ [], (λ same. grind (arith, same), tt), refl)

pub returns-clause-feeds : goal.returns-clause-feeds
returns-clause-feeds c = λ (text, free, ended). no_line text free ended

pub returns-clause-line : goal.returns-clause-line
returns-clause-line c = time_read_back 40 (grind arith)

pub returns-clause-lines : goal.returns-clause-lines
returns-clause-lines c = λ h. no_line h.text h.no_feed h.ended

pub returns-clause-no_line : goal.returns-clause-no_line
returns-clause-no_line c = λ h. not_empty h.text h.ended

pub returns-clause-other_time : goal.returns-clause-other_time
returns-clause-other_time c = λ h. let both = sym (time_read_back 40 (grind arith)).says ∙ h.says in grind arith

pub returns-clause-read_back : goal.returns-clause-read_back
returns-clause-read_back c = time_read_back 40 (grind arith)

pub returns-clause-not_read_back : goal.returns-clause-not_read_back
returns-clause-not_read_back c = λ h. no_line h.text h.no_feed h.ended
