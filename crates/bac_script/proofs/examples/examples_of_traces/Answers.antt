-- The text and the end of the script follow from what the reader gave.
use Rattle.std.proofs.Common.{[], ap, append-nil, arith, inr, length, length-append, List, refl, Result, sym, ℕ, ◌++◌}
use Rattle.std.proofs.{Common.◌∷◌, lemmas.List.append_cancel_right}
use Rattle.bac_print.{proofs.Printed.Took-none, specs.Inner.Examples.{unasked, unknown}}
use Rattle.bac_script.{proofs.Computed.computed, specs.{AtEnd, IsToldFirst, Open, Reading, ReaderStands, ScriptRuns}}
use Rattle.bac_script.specs.{TraceEnd, TraceFault, Traces, Inner.{full_after, gave, gave_more, lined, read, sent}}
use Rattle.bac_script.proofs.examples.examples_of_traces.Goals as goal

-- Before the one read nothing was printed, since there was nothing to print.
told : (octets : List ℕ) → IsToldFirst (gave octets) unasked unasked octets
unfolding computed
told octets [] e = ([], refl)
told octets (x ∷ xs) e = absurd (grind (arith, length-append, ap length e))

-- A reader that gave these octets in one read, whose script prints nothing.
silent : (octets : List ℕ) (reading : Reading) (answer : Result TraceEnd TraceFault)
    → ReaderStands unknown reading unasked (gave octets) [] → ScriptRuns octets reading [] answer
    → Traces unknown unknown unasked (gave octets) unasked unasked answer
unfolding computed
silent octets reading answer stopped runs = record {
  given = octets;
  reading = reading;
  written = [];
  read = record {
    gave = record { passed = append-nil octets; known = tt };
    stopped = stopped;
    needed = inr (record { before = []; order = refl; asked = grind arith; going = refl });
    spared = grind arith;
  };
  told = told octets;
  took = Took-none unasked;
  runs = runs;
}

-- The lines of the first read, whose text was written before the second.
abbrev first : List ℕ
first = lined (read ∷ [])

told_first : IsToldFirst (gave_more first) unasked (full_after (lined (sent ∷ []))) (first ++ 35 ∷ [])
unfolding computed
told_first before is = rw (← append_cancel_right first before (35 ∷ []) is) ([], refl)

pub returns : goal.returns
unfolding computed
returns c = record {
  empty =
      silent [] AtEnd _ (record { empty = refl; sound = refl; ended = refl; once = refl; left = tt }) (refl, refl);
  counted = λ h. let runs = rw (sym h.read.gave.passed) at h.runs in grind arith;
  printed = λ h. let runs = rw (sym h.read.gave.passed) at h.runs in grind arith;
  unread = λ h. let runs = rw (sym h.read.gave.passed) at h.runs in grind arith;
  bad = silent (120 ∷ 10 ∷ []) Open _ (record { sound = refl; unended = refl }) (refl, refl);
  untold = λ h. let runs = rw (sym h.read.gave.passed) at h.runs in grind arith;
  out_first = record {
    given = first ++ 35 ∷ [];
    reading = Open;
    written = lined (sent ∷ []);
    read = record {
      gave = record { passed = refl; known = tt };
      stopped = record { sound = refl; unended = refl };
      needed = inr (record { before = first; order = refl; asked = grind arith; going = refl });
      spared = grind arith;
    };
    told = told_first;
    took = record {
      passed = refl;
      known = tt;
      made = _;
      calls = refl;
      asked = (refl, (λ none. grind arith), (refl, (λ none. grind arith), refl));
    };
    runs = ([], refl);
  };
  read_too_soon = λ h. let out = h.told first (sym h.read.gave.passed) in grind arith;
}
