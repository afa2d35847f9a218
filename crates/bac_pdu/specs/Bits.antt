-- The bits of an octet.
use Rattle.std.specs.Prelude.{ℕ, ◌/◌, ◌%◌, ◌^◌, ◌==◌, Bool}

-- Whether the bit of this number is set; bit 0 is the lowest.
abbrev pub bit : ℕ → ℕ → Bool
bit number octet = octet / 2 ^ number % 2 == 1
