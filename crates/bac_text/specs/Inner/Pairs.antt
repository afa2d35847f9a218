-- The region of the words of a property's value.
use Rattle.std.specs.{List.flat_map, Prelude.{Err, List, Ok, Result, ℕ}}
use Rattle.bac_wire.specs.{frame_room, plain, Datum.Datum}
use Rattle.bac_text.specs.declared.pairs.PairFault.{PairFault, TheVariants.{Bad, TooLong}}
use Rattle.bac_text.specs.{Inner.ValueWords.at_most, Pairs.values_in}

-- The shortest spellings of these values, one after another, if a frame has room for them.
abbrev pub region_with : Result (List Datum) ℕ → Result (List ℕ) PairFault
region_with (Ok values) = at_most TooLong frame_room (flat_map plain values)
region_with (Err n) = Err (Bad n)

-- The region of these words, or why there is none.
abbrev pub region_of : List (List ℕ) → Result (List ℕ) PairFault
region_of words = region_with (values_in words)
