-- Lemmas for the examples of runs.
use Rattle.std.proofs.Common.{[], ap, arith, false, inr, length, List, Ok, refl, ℕ, ◌++◌, ◌∷◌, ◌≡◌, ◌≢◌}
use Rattle.std.specs.declared.io.Error.{Error}
use Rattle.bac_print.specs.{octets_of, Writes, Checked.{calls_of, passes_none}}
use Rattle.bac_script.{proofs.Computed.computed, specs.{Tracing.{IsToldFirst, Traces}}}
use Rattle.bac_script.specs.declared.input.Reading.TheVariants.{AtEnd}
use Rattle.bac_tools.specs.{Inner.{drained, having, no_contents, unasked}}

-- A writer that took a text was given this text.
pub given : (text : List ℕ) → text ≢ [] → octets_of (having text) ≡ text → text ≡ text ++ []
    → false ≡ passes_none {E = Error} (Ok (length text)) text → Writes no_contents unasked (having text) [] [] text
given text some passed whole all = record {
  taken = text;
  rest = [];
  took = record { passed = passed; known = tt; made = _; calls = refl; asked = (refl, some, all) };
  whole = whole;
  sound = λ sound. (refl, refl);
  stopped = λ stopped. grind arith;
}

-- A writer without a call took no octet.
pub untaken : (text : List ℕ) → having text ≡ unasked → ⊥
untaken text e = let calls = ap calls_of e in grind arith

-- An empty script prints nothing.
told_none : IsToldFirst drained unasked unasked []
unfolding computed
told_none [] e = ([], refl)
told_none (x ∷ xs) e = absurd (grind arith)

pub read_nothing : Traces no_contents no_contents unasked drained unasked unasked (Ok (record { lines = 0 }))
unfolding computed
read_nothing = record {
  given = [];
  reading = AtEnd;
  written = [];
  read = record {
    gave = record { passed = refl; known = tt };
    stopped = record { empty = refl; sound = refl; ended = refl; once = refl; left = tt };
    needed = inr (record { before = []; order = refl; asked = grind arith; going = refl });
    spared = grind arith;
  };
  told = told_none;
  took = record { passed = refl; known = tt; made = []; calls = refl; asked = refl };
  runs = (refl, refl);
}
