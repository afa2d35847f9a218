-- The limits of the held octets of a script. The code has constants with the same numbers.
use Rattle.std.specs.Prelude.{ℕ, ◌+◌}
use Rattle.bac_text.specs.{longest_line}

-- The octets of the longest line, with its line feed. As many octets without a line feed are too long.
abbrev pub line_room : ℕ
line_room = longest_line + 1

-- The number of octets that are held at once, which is also the most that a read gives.
abbrev pub chunk_room : ℕ
chunk_room = 32768
