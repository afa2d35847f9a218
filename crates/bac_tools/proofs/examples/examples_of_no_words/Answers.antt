-- Nothing was printed; and the run and the program are made.
use Rattle.std.proofs.Common.{ap, rules, Some, subst, ◌∙◌}
use Rattle.bac_tools.{proofs.Worked.untaken, specs.{IsTold, on_output}}
use Rattle.bac_tools.specs.Inner.{forgotten, no_contents, no_text, ran_without, told_no_text, unasked}
use Rattle.bac_tools.proofs.examples.examples_of_no_words.Goals as goal

pub returns-clause-printed : goal.returns-clause-printed
returns-clause-printed c = λ h.
    let reports = ap (λ ran. ran.report) h.called.2 in
    untaken _ (subst (λ r. IsTold no_contents h.unhelped told_no_text (on_output r.fault)) reports h.help ∙ h.called.1)

pub returns-clause-called : goal.returns-clause-called
returns-clause-called c = record {
  network = 0;
  reader = unasked;
  reader' = unasked;
  writer = unasked;
  writer' = unasked;
  errors = unasked;
  errors' = told_no_text;
  ran = ran_without no_text (Some 0);
  run = search rules;
}

pub returns-clause-not_only : goal.returns-clause-not_only
returns-clause-not_only c = λ h. untaken _ h.1

pub returns-clause-lacked : goal.returns-clause-lacked
returns-clause-lacked c = forgotten.program

pub returns-clause-too_much : goal.returns-clause-too_much
returns-clause-too_much c = untaken _
