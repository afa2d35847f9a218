-- The body of an Error (clauses 18 and 21).
use Rattle.std.specs.{List.flat_map, Prelude.{[], List, ℕ, ◌∷◌}}
use Rattle.bac_wire.specs.{enumerated, plain, Spells, Front.SpellsTo}

-- The body of an Error: the class and the code come first, and the octets after them are ignored.
abbrev pub IsErrorBody : List ℕ → ℕ × ℕ → Type 0
IsErrorBody body (class, code) =
    (rest : List ℕ) × SpellsTo Spells body (enumerated class ∷ enumerated code ∷ []) rest

-- The body that is written for an Error.
abbrev pub error_octets : ℕ → ℕ → List ℕ
error_octets class code = flat_map plain (enumerated class ∷ enumerated code ∷ [])
