-- The answers of the words are computed.
use Rattle.std.proofs.Common.{[], arith, Err, inr, None, Ok, refl, Some}
use Rattle.clap.specs.Faults.{defaults_fault, walk_fault}
use Rattle.clap.specs.Walk.{walked}
use Rattle.bac_words.{proofs.Tools.one_answer, specs.{Answers, declared.faults.UsageFault.TheVariants.BadMac}}
use Rattle.bac_tools.{proofs.Worked.read_nothing, specs.{Trace, Use}}
use Rattle.bac_tools.specs.Inner.{bad_read_words, device}
use Rattle.bac_tools.proofs.examples.examples_of_programs.Goals as goal

misread : Answers bad_read_words (Err BadMac)
unfolding walk_fault walked defaults_fault
misread = record { taken = refl; answer_is = refl }

pub returns-clause-scripted : goal.returns-clause-scripted
unfolding walk_fault walked defaults_fault
returns-clause-scripted c = record {
  answer = Ok Trace;
  answered = inr (record { taken = refl; answer_is = refl });
  opened = None;
  given = refl;
  ends = (
    record {
      answer = Ok (record { lines = 0 });
      script = read_nothing;
      write_fault = (λ e. grind arith, λ e. grind arith);
      reported = refl;
    },
    refl,
  );
  unasked = refl;
}

pub returns-clause-misread : goal.returns-clause-misread
returns-clause-misread c = record {
  answer = Err BadMac;
  answered = inr misread;
  opened = None;
  given = refl;
  ends = (refl, refl, refl);
  unasked = refl;
}

pub returns-clause-misread_otherwise : goal.returns-clause-misread_otherwise
returns-clause-misread_otherwise c = λ h. grind (arith, one_answer, misread, h.answered, h.ends)

pub returns-clause-refused : goal.returns-clause-refused
unfolding walk_fault walked defaults_fault
returns-clause-refused c = record {
  answer = Ok (Use device);
  answered = inr (record { taken = refl; answer_is = refl });
  opened = Some (Err (record { kept = 0; log = [] }));
  given = refl;
  ends = (refl, refl, refl, refl);
  unasked = tt;
}
