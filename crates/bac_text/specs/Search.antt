-- The ends of a piece of text.
use Rattle.std.specs.Prelude.{ℕ, ◌==◌, nat_lt, Bool}
use Rattle.bac_text.specs.{declared.search.Delimiter.{Delimiter, TheVariants.{Blank, At, PastAscii}}, Words.is_blank}

-- The octet ends a piece of text.
abbrev pub ends_at : Delimiter → ℕ → Bool
ends_at Blank = is_blank
ends_at (At other) = λ octet. octet == other
ends_at PastAscii = λ octet. nat_lt 127 octet
