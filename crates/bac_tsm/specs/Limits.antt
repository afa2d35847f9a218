-- The limit of a client. The code has a constant with the same number.
use Rattle.std.specs.Prelude.{ℕ}

-- The requests that may be open at once.
abbrev pub table_size : ℕ
table_size = 64
