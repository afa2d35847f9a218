-- Statements about the words that `clap` accepts.
use Rattle.std.specs.{List.{find, list_all, list_any}, Str.bytes_eq}
use Rattle.std.specs.Prelude.{[], ◌&&◌, ◌||◌, ◌∷◌, ◌≡◌, Bool, codes, false, List, nat_lt, not, Some, true}
use Rattle.clap.specs.{declared.builder.action.ArgAction.ArgAction, Facts.unwrap_or_range, Faults.level_fault}
use Rattle.clap.specs.{Simple.{App, built, label_of, rows_at, Shape, subcommand_of}, Values.is_request}
use Rattle.clap.specs.Walk.{action_of, answers_to, is_empty, nothing_held, Rule, Text}
use Rattle.clap.specs.declared.builder.action.ArgAction.TheVariants as action

-- The argument keeps at least one value of each use.
abbrev pub keeps_values : ArgAction → Bool
keeps_values action.Set = true
keeps_values action.Append = true
keeps_values _ = false

-- The rule is for a word or for a request for help, and has no default.
abbrev pub is_plain_rule : Rule → Bool
is_plain_rule a = is_empty a.defaults && (is_request (action_of a)
    || (keeps_values (action_of a) && nat_lt 0 (unwrap_or_range a.range).start_inclusive))

-- No two rules have the same id.
abbrev pub has_distinct_ids : List Rule → Bool
has_distinct_ids [] = true
has_distinct_ids (a ∷ rest) = not (list_any (λ b. bytes_eq a.id b.id) rest) && has_distinct_ids rest

pub record IsPlainLevel (c : List Rule) : Type 0 where
  pub plain : list_all is_plain_rule c ≡ true
  pub distinct : has_distinct_ids c ≡ true

-- The name is that of `clap`'s own subcommand, which asks for help.
abbrev pub asks_for_help : App → Text → Bool
asks_for_help a name = bytes_eq name (codes "help") && not a.top.disable_help_subcommand

-- The words name a subcommand other than `help`, and the words after it obey its rules.
pub record Enters (a : App) (words : List Text) : Type 0 where
  pub tool : Shape
  pub name : Text
  pub rest : List Text
  pub found : find (λ s. answers_to name (label_of s)) (built a).subs ≡ Some tool
  pub other : asks_for_help (built a) name ≡ false
  pub rows : subcommand_of a words ≡ Some (rows_at tool rest)
  pub passes : level_fault tool [] nothing_held rest false [] ≡ []
