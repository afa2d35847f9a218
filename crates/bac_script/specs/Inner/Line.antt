-- The words of a line that are left.
use Rattle.std.specs.Prelude.{◌≡◌, ℕ, List, ◌∷◌}

-- At least one word is left.
abbrev pub IsLeft : List (List ℕ) → Type 0
IsLeft words = (word : List ℕ) × (others : List (List ℕ)) × (words ≡ word ∷ others)
