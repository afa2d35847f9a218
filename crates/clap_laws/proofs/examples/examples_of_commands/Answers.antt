-- Each row is computed; the walk over the words shows that they enter the tool.
use Rattle.std.proofs.Common.{[], arith, codes, refl, sym, ◌∙◌, ◌∷◌}
use Rattle.clap.specs.{Faults.{defaults_fault, walk_fault}, Walk.walked}
use Rattle.clap_laws.{proofs.Parsed.level_taken, specs.Inner.Examples.{helpful, needy}}
use Rattle.clap_laws.specs.Entering.{Enters, IsPlainLevel}
use Rattle.clap_laws.proofs.examples.examples_of_commands.Goals as goal

-- The tool that is found is the only one. Its entries lack the word, or its name asks for help.
lacking : Enters needy (codes "program" ∷ codes "tool" ∷ []) → ⊥
unfolding walk_fault walked defaults_fault
lacking h =
    let found = h.found in
    let rows = h.rows in
    let plain : IsPlainLevel h.tool.rules = record { plain = grind arith; distinct = grind arith } in
    let complete = (level_taken h.tool h.rest plain (grind arith) h.passes).complete in grind arith

helped : Enters helpful (codes "program" ∷ codes "help" ∷ []) → ⊥
helped h = let found = h.found in let other = h.other in grind arith

pub returns : goal.returns
unfolding walk_fault walked defaults_fault
returns c = record {
  command = λ c shape local. record { shape = shape; local = local };
  other = λ c shape h. let both = sym shape ∙ h.shape in grind arith;
  global = λ c has h. let local = h.local in grind arith;
  enters = record {
    tool = _;
    name = codes "tool";
    rest = [];
    found = refl;
    other = refl;
    rows = refl;
    passes = refl;
  };
  no_tool = λ h. let rows = h.rows in grind arith;
  no_word = λ h. let rows = h.rows in grind arith;
  enters_by_word = record {
    tool = _;
    name = codes "tool";
    rest = codes "1" ∷ [];
    found = refl;
    other = refl;
    rows = refl;
    passes = refl;
  };
  lacks_its_word = lacking;
  named_as_help = helped;
}
