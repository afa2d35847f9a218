-- The limit of lines. The code has a constant with the same number.
use Rattle.std.specs.Prelude.{ℕ}

-- The octets of the longest line of a script, without its line feed.
abbrev pub longest_line : ℕ
longest_line = 4096
