-- The digits at the front of a text.
use Rattle.std.specs.{Prelude.{◌≡◌, ℕ, ◌<◌, ◌≤◌, true, false, List, length, take, slice_index}, Char.is_ascii_digit}
use Rattle.std.specs.Str.{all_ascii_digits, Parse.digits_value}

-- The text begins with this many digits, at most `most`, and they are this number. If they are fewer, no digit follows.
pub record IsLeading (text : List ℕ) (most number count : ℕ) : Type 0 where
  pub within : count ≤ length text
  pub few : count ≤ most
  pub digits : all_ascii_digits (take count text) ≡ true
  pub value : number ≡ digits_value 10 (take count text)
  pub ends : count < most → count < length text → is_ascii_digit (slice_index text count) ≡ false
