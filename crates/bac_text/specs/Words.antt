-- The words of a line, and the numbers and octets in them.
use Rattle.std.specs.{Int.is_in_range, List.slice_split, Prelude.{None, Option, option_map, Some, ℕ}, Result.result_ok}
use Rattle.std.specs.Prelude.{[], ◌&&◌, ◌==◌, ◌||◌, ◌∷◌, Bool, filter, if◌then◌else◌, length, List, nat_le, nat_lt}
use Rattle.std.specs.Str.{all_ascii_digits, Parse.digits_value}
use Rattle.{hex.specs.Hex.decode_of, bac_text.specs.Limits.longest_line}

-- A space or a tab.
abbrev pub is_blank : ℕ → Bool
is_blank octet = octet == 32 || octet == 9

-- The words of a line: runs of one or more octets that are not blanks.
abbrev pub words_of : List ℕ → List (List ℕ)
words_of text = filter (λ word. nat_lt 0 (length word)) (slice_split is_blank text)

-- The number in one or more decimal digits, if it is at most this.
abbrev pub number_up_to : ℕ → List ℕ → Option ℕ
number_up_to most word =
    if nat_lt 0 (length word) && (all_ascii_digits word && nat_le (digits_value 10 word) most)
    then Some (digits_value 10 word) else None

-- The octets in a word: a positive even number of hexadecimal digits, upper or lower case. No word of a line is longer
-- than the longest line.
abbrev pub octets_of : List ℕ → Option (List ℕ)
octets_of word = if is_in_range 1 longest_line (length word) then result_ok (decode_of word) else None

-- The first word, read by this function, and the words after it.
abbrev pub next_as : {A : Type 0} → (List ℕ → Option A) → List (List ℕ) → Option (A × List (List ℕ))
next_as read [] = None
next_as read (word ∷ others) = option_map (λ x. (x, others)) (read word)

-- This value, if no word is left; otherwise None.
abbrev pub at_end : {A : Type 0} → List (List ℕ) → A → Option A
at_end [] x = Some x
at_end (word ∷ others) x = None
