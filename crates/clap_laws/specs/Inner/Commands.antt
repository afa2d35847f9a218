-- The rules for the arguments of a tool.
use Rattle.std.specs.Prelude.{[], ◌++◌, ◌∷◌, List}
use Rattle.clap.specs.{Simple.{filled_from, help_rule}, Words.{App, Rule}}

-- The arguments of a tool as `clap` builds them, with the flag for help.
abbrev pub rules_of : App → List Rule
rules_of tool = filled_from 1 (tool.top.rules ++ help_rule ∷ [])
