-- A program with one tool, rules and entries, for the examples.
use Rattle.std.specs.Prelude.{codes, List, None, Some}
use Rattle.clap.specs.{declared.builder.action.ArgAction.TheVariants.SetTrue, Walk.{reading_by, Row}, Words.App}
use Rattle.clap.specs.Words.{new_app, new_rule, Rule, Text, with_rule, with_subcommand}
use Rattle.clap_laws.specs.Commands.{needed, wanting}

-- A program that requires its one tool, which has no words.
abbrev pub program : App
program = with_subcommand (wanting (new_app (codes "program"))) (new_app (codes "tool")).top

-- A required word, and an argument without a value.
abbrev pub word : Rule
word = needed (new_rule (codes "word"))

abbrev pub flag : Rule
flag = record (new_rule (codes "flag")) { action = Some SetTrue }

-- A program whose tool has the name of `clap`'s own subcommand for help, and one whose tool requires a word.
abbrev pub helpful : App
helpful = with_subcommand (wanting (new_app (codes "program"))) (new_app (codes "help")).top

abbrev pub needy : App
needy = with_subcommand (wanting (new_app (codes "program"))) (with_rule (new_app (codes "tool")) word).top

-- The entry of an argument with one of these rules, with these values.
abbrev pub named : Text → List Text → Row
named id values = record { id = id; values = values; count = None; source = None; reading = reading_by word }
