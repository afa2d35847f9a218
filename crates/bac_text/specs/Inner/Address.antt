-- One digit of an address.
use Rattle.std.specs.{Prelude.{ℕ, ◌-◌, Option, Some, None, if◌then◌else◌}, Char.is_ascii_digit}

-- The number of a decimal digit (48 to 57).
abbrev pub digit : ℕ → Option ℕ
digit octet = if is_ascii_digit octet then Some (octet - 48) else None
