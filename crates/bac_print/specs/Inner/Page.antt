-- How a text is added to a page.
use Rattle.std.specs.{List.{list_all, range_with_len}, Prelude.{◌==◌, ◌≡◌, ℕ, List, not, Option, true}}
use Rattle.hex.specs.Hex.{encode_lower}
use Rattle.bac_print.specs.{declared.page.Page.Page, Page.{held, room_of, writer_of, Writes}}

-- The text was added to the page unchanged. The known room of its line is the same.
pub record Holds {W : Type 0} (contents : W → Option (List ℕ)) (before after : Page W) (text : List ℕ) : Type 0 where
  pub same : after.writer.ghost_name ≡ before.writer.ghost_name
  pub writes : Writes contents (writer_of before) (writer_of after) (held before) (held after) text
  pub room : room_of after ≡ room_of before

-- No octet of the text is a line feed (10).
abbrev pub HasNoFeed : List ℕ → Type 0
HasNoFeed text = list_all (λ octet. not (octet == 10)) text ≡ true

-- The two hexadecimal digits of each octet, one octet after another.
unfoldable pub hex_pairs : List ℕ
hex_pairs = encode_lower (range_with_len 0 256)
