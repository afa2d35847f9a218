-- The number that `clap` returns for an argument is within the limits of the argument.
use Rattle.std.proofs.Common.{IfSome, Option, subst, sym, ℕ}
use Rattle.{clap.specs.Words.found_of, clap_laws.{proofs.Parsed.getter, specs.Inner.Numbers.{FitsWord, IsWithin}}}
use Rattle.bac_words.proofs.parse.number.Goals as goal

pub returns : goal.returns
returns c =
    let fits = subst FitsWord (sym c.requires.bounded) c.requires.fits in
    let (value, within) = getter c.requires.rules c.args.id.now (found_of c.args.matches.now) c.get_one.result
    c.requires.taken fits c.get_one.ensures.none c.get_one.ensures.value in
    record {
      value = value;
      within = subst (λ (b : Option (ℕ × ℕ)). IfSome c.get_one.result (IsWithin b)) c.requires.bounded within;
    }
