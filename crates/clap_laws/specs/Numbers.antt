-- The numbers in the words.
use Rattle.std.specs.{Prelude.{ℕ, List, Option}, Option.option_map, Str.Parse.{digits_value, without_leading_plus}}
use Rattle.clap.specs.Words.{Row, Text, one_of}

-- The number in the words for an argument, if there is one: decimal digits, which may begin with a plus.
abbrev pub number_of : Text → List Row → Option ℕ
number_of id rows = option_map (λ text. digits_value 10 (without_leading_plus text)) (one_of id rows)
