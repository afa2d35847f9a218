-- One part is a lemma; in the other both programs have the same report.
use Rattle.std.proofs.Common.{sym, ◌∙◌}
use Rattle.bac_tools.{proofs.runs_alike, specs.once_given}
use Rattle.bac_tools.proofs.laws.the_program_is_a_function.Goals as goal

pub returns-clause-words : goal.returns-clause-words
returns-clause-words g c = λ words one other first rest first' rest' h. runs_alike one other first rest first' rest' h

pub returns-clause-called : goal.returns-clause-called
returns-clause-called g c = λ typed one other same failed.
    one.run.reported ∙ (λ i. once_given (same i).fault (failed i) (same i)) ∙ sym other.run.reported
