-- Facts about matches that `clap` has accepted, from which the words of a tool are read.
use Rattle.std.specs.Prelude.{◌≡◌, ◌⊎◌, ◌++◌, ℕ, true, List, is_some, Option, codes}
use Rattle.clap.specs.Words.{Row, Rule, Text}
use Rattle.clap_laws.specs.{Inner.{Commands.rules_of, Numbers.{FitsWord, bounds_in}}, Numbers.number_of, Passes.IsTaken}
use Rattle.bac_words.specs.Command.{bacdev, bacrp, bacrun, bacwi, bacwp}

-- The bounds of an argument that is a number: those of the first rule with this name, in this order of the tools.
abbrev pub bounds : Text → Option (ℕ × ℕ)
bounds id = bounds_in (rules_of bacdev ++ rules_of bacrp ++ rules_of bacwp ++ rules_of bacwi ++ rules_of bacrun) id

-- The argument is a number within its bounds, since the matches obey the rules of its tool.
pub record IsNumberWord (id : Text) (rows : List Row) : Type 0 where
  pub rules : List Rule
  pub taken : IsTaken rules rows
  pub bounded : bounds_in rules id ≡ bounds id
  pub fits : FitsWord (bounds id)

-- The argument was given.
pub record IsGiven (id : Text) (rows : List Row) : Type 0 where
  pub given : is_some (number_of id rows) ≡ true

-- These matches obey the rules of a tool that makes a request.
abbrev pub IsRequest : List Row → Type 0
IsRequest rows = IsTaken (rules_of bacrp) rows ⊎ IsTaken (rules_of bacwp) rows

-- These matches obey the rules of a tool that sends requests again.
abbrev pub IsSender : List Row → Type 0
IsSender rows = IsRequest rows ⊎ IsTaken (rules_of bacrun) rows

abbrev pub IsClient : List Row → Type 0
IsClient rows = IsSender rows ⊎ IsTaken (rules_of bacwi) rows

-- The words name a tool, and these matches obey its rules.
abbrev pub IsTool : Text × List Row → Type 0
IsTool (tool, rows) = ((tool ≡ codes "bacrp") × IsTaken (rules_of bacrp) rows)
    ⊎ (((tool ≡ codes "bacwp") × IsTaken (rules_of bacwp) rows)
    ⊎ (((tool ≡ codes "bacwi") × IsTaken (rules_of bacwi) rows)
    ⊎ (((tool ≡ codes "bacdev") × IsTaken (rules_of bacdev) rows)
    ⊎ (((tool ≡ codes "bacrun") × IsTaken (rules_of bacrun) rows)
    ⊎ (tool ≡ codes "bactrace")))))
