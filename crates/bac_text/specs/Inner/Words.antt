-- The first word of a text that is not split yet, and hexadecimal words that were checked.
use Rattle.std.specs.Prelude.{[], ◌∷◌, ◌≡◌, Bool, if◌then◌else◌, length, List, nat_le, nat_lt, None, Option, Some, ℕ}
use Rattle.std.specs.Result.{result_unwrap_or}
use Rattle.{hex.specs.Hex.decode_of, bac_text.specs.Words.{number_up_to, words_of}}

-- A word of one octet or more.
abbrev pub is_not_empty : List ℕ → Bool
is_not_empty word = nat_lt 0 (length word)

-- This number, if it is at most the limit.
abbrev pub up_to : ℕ → ℕ → Option ℕ
up_to most number = if nat_le number most then Some number else None

-- The first word is this number, and the others follow it.
pub record IsFirstNumber (text : List ℕ) (number : ℕ) (rest : List ℕ) : Type 0 where
  pub word : List ℕ
  pub first : words_of text ≡ word ∷ words_of rest
  pub value : (most : ℕ) → number_up_to most word ≡ up_to most number

-- The octets of hexadecimal digits.
abbrev pub octets_in : List ℕ → List ℕ
octets_in digits = result_unwrap_or (decode_of digits) []
