-- The bounds of an argument that is a number.
use Rattle.std.specs.{Prelude.{◌<◌, ◌≤◌, ◌^◌, ◌&&◌, ℕ, Bool, pos, false, List, Option, None, Some, ⊤}, Str.bytes_eq}
use Rattle.std.specs.{Option.{option_and_then, option_map_or}, Str.Parse.{digits_value, without_leading_plus}}
use Rattle.clap.specs.{Facts.parser_of_value, Walk.arg_by_id, Words.{Rule, Text}}
use Rattle.clap.specs.declared.builder.value_parser.ValueParser.{ValueParser, TheVariants.Signed}

-- The number in a text of decimal digits, which may begin with a plus.
abbrev pub decimal : Text → ℕ
decimal text = digits_value 10 (without_leading_plus text)

-- The least and the greatest number of an argument.
abbrev pub bounds_by : ValueParser → Option (ℕ × ℕ)
bounds_by (Signed (pos least) (pos most)) = Some (least, most)
bounds_by _ = None

abbrev pub bounds_in : List Rule → Text → Option (ℕ × ℕ)
bounds_in rules id = option_and_then (λ a. bounds_by (parser_of_value a.parser)) (arg_by_id rules id)

abbrev pub IsWithin : Option (ℕ × ℕ) → ℕ → Type 0
IsWithin None n = ⊤
IsWithin (Some (least, most)) n = (least ≤ n) × (n ≤ most)

-- The number has at most 32 bits.
abbrev pub FitsWord : Option (ℕ × ℕ) → Type 0
FitsWord None = ⊥
FitsWord (Some (_, most)) = most < 2 ^ 32

-- The argument is required.
abbrev pub is_needed : List Rule → Text → Bool
is_needed rules id = option_map_or (λ a. a.required && bytes_eq a.id id) (arg_by_id rules id) false
