-- The result of a reader that looks for a rest.
use Rattle.std.specs.Prelude.{ℕ, List, Option, Some, None}

-- If a rest was found, `IsRest` holds for it; if none was found, there is none.
abbrev pub Finds : (List ℕ → Type 0) → Option (List ℕ) → Type 0
Finds IsRest None = (rest : List ℕ) → IsRest rest → ⊥
Finds IsRest (Some rest) = IsRest rest
