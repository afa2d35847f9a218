-- Commands, as they are built.
use Rattle.std.specs.Prelude.{◌≡◌, ℕ, pos, true, false, Some}
use Rattle.clap.specs.{Words.{App, Rule, Text, app_of, new_rule}, Lexer.usize_max}
use Rattle.clap.specs.declared.builder.command.Command.{TheViews.out-Command, Command}
use Rattle.clap.specs.declared.builder.value_parser.ValueParser.TheVariants.{Signed}

-- A word that is a number from `least` to `most`.
abbrev pub number : Text → ℕ → ℕ → Rule
number id least most = record (new_rule id) { parser = Some (Signed (pos least) (pos most)) }

-- A required word.
abbrev pub needed : Rule → Rule
needed a = record a { required = true }

-- An argument that is given with its name, such as `--port 47808`.
abbrev pub by_name : Rule → Rule
by_name a = record a { long = Some a.id }

-- One word or more.
abbrev pub several : Rule → Rule
several a = record a { range = Some (record { start_inclusive = 1; end_inclusive = usize_max }) }

-- One of the subcommands is required.
abbrev pub wanting : App → App
wanting a = record a { top = record a.top { subcommand_required = true } }

-- The command has this shape, and none of its arguments is passed to its subcommands.
pub record IsCommand (c : Command) (app : App) : Type 0 where
  pub shape : app_of c ≡ app
  pub local : (out-Command c).has_globals ≡ false
