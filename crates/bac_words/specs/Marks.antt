-- The words as `clap` reads them, and as they were typed.
use Rattle.std.specs.Prelude.{Bool, ◌==◌, ◌&&◌, ◌||◌, List, [], ◌∷◌, drop, map, if◌then◌else◌, slice_index}
use Rattle.std.specs.Char.{is_ascii_digit}
use Rattle.clap.specs.Words.{Text}

-- A word that begins with `~` (126), or with `-` (45) and a digit.
abbrev pub wants_mark : Text → Bool
wants_mark word =
    slice_index word 0 == 126 || (slice_index word 0 == 45 && is_ascii_digit (slice_index word 1))

-- The word, with `~` in front if it needs a mark.
abbrev pub marked : Text → Text
marked word = if wants_mark word then 126 ∷ word else word

-- The words, each marked except the program's name.
abbrev pub marked_words : List Text → List Text
marked_words [] = []
marked_words (program ∷ words) = program ∷ map marked words

-- A word as it was typed, without the `~`.
abbrev pub unmarked : Text → Text
unmarked word = if slice_index word 0 == 126 then drop 1 word else word
