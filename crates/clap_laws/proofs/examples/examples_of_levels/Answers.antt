-- Each row is computed; a negative row follows from one field.
use Rattle.std.proofs.Common.{arith, refl}
use Rattle.clap_laws.specs.Inner.Examples.{word}
use Rattle.clap_laws.proofs.examples.examples_of_levels.Goals as goal

pub returns : goal.returns
returns c = record {
  plain = record { plain = refl; distinct = refl };
  twice = λ h. let distinct = h.distinct in grind arith;
  counted = λ h. let plain = h.plain in grind arith;
  given = record {
    entries = (record { rule = word; own = refl; reading = refl; filled = grind arith; passed = refl }, tt);
    complete = refl;
  };
  missing = λ h. let complete = h.complete in grind arith;
  unknown = λ h. let own = h.entries.0.own in grind arith;
  empty = λ h. let filled = h.entries.0.filled in grind arith;
}
