-- The texts of values in a row, and the text between two of them.
use Rattle.std.specs.{List.join_with_byte, Prelude.{[], ◌∷◌, List, map, ℕ}}
use Rattle.{bac_wire.specs.Datum.Datum, bac_print.specs.Values.datum_text}

-- The texts of values, joined by commas (44).
abbrev pub joined : List Datum → List ℕ
joined values = join_with_byte 44 (map datum_text values)

-- A comma if more octets follow; otherwise nothing.
abbrev pub separator : List ℕ → List ℕ
separator [] = []
separator (octet ∷ octets) = 44 ∷ []
