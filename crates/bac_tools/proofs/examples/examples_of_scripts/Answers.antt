-- The answers of the words are computed, and an empty script is run.
use Rattle.std.proofs.Common.{[], arith, codes, Err, inl, inr, List, Ok, refl, ◌∷◌, ◌≡◌}
use Rattle.clap.specs.{Faults.{defaults_fault, walk_fault}, Walk.walked, Words.Text}
use Rattle.bac_tools.{proofs.Worked.read_nothing, specs.{report_of, Usage, UsageFault, Use, Inner.{bad_words, device}}}
use Rattle.bac_words.{proofs.Tools.one_answer}
use Rattle.bac_words.{specs.{Answers, IsRefusal, declared.faults.UsageFault.TheVariants.BadMac}}
use Rattle.bac_tools.proofs.examples.examples_of_scripts.Goals as goal

-- The words that are run if the program has the name of a tool, and their answer.
read_words : List Text
read_words = [] ∷ codes "bacrp" ∷ bad_words

serve_words : List Text
serve_words = [] ∷ codes "bacdev" ∷ codes "1234" ∷ []

misread : Answers read_words (Err BadMac)
unfolding walk_fault walked defaults_fault read_words
misread = record { taken = refl; answer_is = refl }

served : Answers serve_words (Ok (Use device))
unfolding walk_fault walked defaults_fault serve_words
served = record { taken = refl; answer_is = refl }

unrefused : (words : List Text) (fault : UsageFault) → report_of (Usage BadMac) ≡ report_of (Usage fault)
    → IsRefusal words fault → ⊥
unrefused = grind arith

pub returns-clause-script : goal.returns-clause-script
unfolding walk_fault walked defaults_fault
returns-clause-script c = λ program e. rw e (record { taken = refl; answer_is = refl })

pub returns-clause-no_script : goal.returns-clause-no_script
unfolding serve_words
returns-clause-no_script c = λ program e h. let same = one_answer serve_words _ _ served (rw e at h) in cc

pub returns-clause-no_job : goal.returns-clause-no_job
unfolding read_words
returns-clause-no_job c = λ program e. rw e (BadMac, inr misread, refl)

pub returns-clause-other_fault : goal.returns-clause-other_fault
unfolding read_words
returns-clause-other_fault c = λ program e (fault, given, is).
    grind (arith, one_answer read_words (Err BadMac) (Err fault) misread, rw e at given, is)

pub returns-clause-job : goal.returns-clause-job
unfolding serve_words
returns-clause-job c = λ program e (fault, given, is). elim (rw e at given) as (λ _. ⊥) [
  | inl refused ↦ unrefused serve_words fault is refused
  | inr answers ↦ let same = one_answer serve_words _ _ served answers in cc
]

pub returns-clause-called : goal.returns-clause-called
returns-clause-called c = record { answer = Ok (record { lines = 0 }); script = read_nothing; reported = refl }
