-- How many tags are read, from the number of skipped octets.
use Rattle.std.specs.Prelude.{ℕ, ◌+◌, ◌*◌, ◌≤◌, List, length, Option, Some, None}

-- From `old` to `new` at most two tags were read for each skipped octet, and one more. If no rest was found, all octets
-- count as skipped, and `more` tags are added.
abbrev pub ReadsTwice : (more old new : ℕ) → List ℕ → Option (List ℕ) → Type 0
ReadsTwice more old new octets None = new ≤ old + 2 * length octets + more
ReadsTwice more old new octets (Some rest) = new + 2 * length rest ≤ old + 2 * length octets + 1
