-- A run with an empty input is computed, and has no line.
use Rattle.std.proofs.Common.{[], arith, codes, inr, List, refl, subst, sym, ◌<◌, ◌∷◌}
use Rattle.bac_script.{proofs.Computed.computed, specs.declared.input.Reading.TheVariants.AtEnd}
use Rattle.bac_run.proofs.{Cut.{lines_fed, none_fed}, Out.journal_front, ReadBack.settings_read_back}
use Rattle.bac_run.specs.{Input.feeds_in, Journal.{Act, Closed, NoLine}, Run.journal_of}
use Rattle.bac_script.specs.{IsFrontOf}
use Rattle.bac_tools.{proofs.Worked.given, specs.Setup}
use Rattle.bac_tools.proofs.examples.examples_of_many_requests.Goals as goal

abbrev setup : 0 < 3000 → 0 < 1 → Setup
setup timed some =
    record { config = record { timeout = 3000; retries = 3; positive = timed }; window = 1; some = some }

pub returns-clause-none : goal.returns-clause-none
unfolding computed
returns-clause-none c = record {
  setup = setup (omega arith) (omega arith);
  of_batch = record { timeout = refl; retries = refl; window = refl };
  requested = record {
    acts = NoLine AtEnd ∷ Closed ∷ [];
    takes = record {
      given = [];
      kept = [];
      reading = AtEnd;
      gave = record { passed = refl; known = tt };
      stands = record { empty = refl; sound = refl; ended = refl; once = refl; left = tt };
      feeds = (refl, refl, refl);
      all_done = (refl, tt, refl, refl);
    };
    goes = (tt, ((refl, refl, refl), tt));
    ends = refl;
    read = inr (record {
      before = [];
      held = [];
      earlier = [];
      later = NoLine AtEnd ∷ Closed ∷ [];
      order = refl;
      did = refl;
      took = refl;
      no_line = (tt, omega arith);
      wanted = (0, refl, refl, omega arith);
      told = (codes "# end of the run\n", refl);
    });
    printed = given _ (λ none. grind arith) refl refl refl;
    out = λ earlier later act wants is.
        let these = setup (omega arith) (omega arith) in
        subst (λ (acts : List Act). IsFrontOf (journal_of these earlier) (journal_of these acts)) (sym is)
        (journal_front these earlier (act ∷ later));
    asks = refl;
    over = refl;
    within = (tt, (tt, tt));
    fit = (tt, (tt, tt));
    settings = settings_read_back 3000 3 (omega arith) (omega arith) (omega arith);
  };
}

pub returns-clause-counted : goal.returns-clause-counted
returns-clause-counted c = λ h.
    let takes = h.requested.takes in
    let acts = h.requested.acts in
    grind (
      arith,
      none_fed takes.reading (feeds_in acts) takes.kept,
      lines_fed acts,
      takes.gave.passed,
      takes.feeds,
      takes.all_done.3,
    )
