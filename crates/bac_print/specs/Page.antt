-- Text that is printed on a page on its way to a writer.
use Rattle.std.specs.Prelude.{◌≡◌, ℕ, ◌-◌, ◌==◌, ◌||◌, nat_lt, true, false, if◌then◌else◌}
use Rattle.std.specs.Prelude.{List, [], ◌∷◌, ◌++◌, Option, Some, None, option_map}
use Rattle.bac_print.specs.{declared.{checked.Checked.Checked, page.Page.Page}, Checked.{has_failed, Took}}

-- The octets that were printed and not yet written.
abbrev pub held : {W : Type 0} → Page W → List ℕ
held page = page.held.items

-- The writer of a page, as it is now.
abbrev pub writer_of : {W : Type 0} → Page W → Checked W
writer_of page = page.writer.now

-- The room in octets on the current line of a page, or `None` if its lines are not folded.
abbrev pub room_of : {W : Type 0} → Page W → Option ℕ
room_of page = page.room

-- The longest folded line, in octets without its line feed: as long as a line of a script may be.
abbrev pub folded_line : ℕ
folded_line = 4096

-- An octet of a folded text, if its line has room for this many octets. Without room, the octet begins a new line,
-- after #+ (35, 43). A line feed (10) needs no room.
abbrev pub folded_octet : ℕ → ℕ → List ℕ
folded_octet left octet = if octet == 10 || nat_lt 0 left then octet ∷ [] else 10 ∷ 35 ∷ 43 ∷ octet ∷ []

-- The room that is left after an octet.
abbrev pub left_behind : ℕ → ℕ → ℕ
left_behind left octet = if octet == 10 then folded_line else if nat_lt 0 left then left - 1 else folded_line - 3

-- A folded text, if its first line has room for this many octets.
abbrev pub folded : ℕ → List ℕ → List ℕ
folded left [] = []
folded left (octet ∷ octets) = folded_octet left octet ++ folded (left_behind left octet) octets

-- The room that is left after a folded text.
abbrev pub left_after : ℕ → List ℕ → ℕ
left_after left [] = left
left_after left (octet ∷ octets) = left_after (left_behind left octet) octets

-- A text as it is written: folded if lines have a limit, otherwise unchanged.
unfoldable pub laid_out : Option ℕ → List ℕ → List ℕ
laid_out None text = text
laid_out (Some left) text = folded left text

-- The room that is left after a text is written, if lines have a limit.
unfoldable pub room_after : Option ℕ → List ℕ → Option ℕ
room_after room text = option_map (λ left. left_after left text) room

module _ {W : Type 0} (contents : W → Option (List ℕ)) where
  -- The held octets and the text are those that the writer took, and then those that are kept. After a failed write the
  -- writer stays as it is, and later text is lost.
  pub record Writes (before after : Checked W) (held kept text : List ℕ) : Type 0 where
    pub taken : List ℕ
    pub rest : List ℕ
    pub took : Took contents before after taken
    pub whole : held ++ text ≡ taken ++ rest
    pub sound : has_failed after ≡ false → (has_failed before ≡ false) × (rest ≡ kept)
    pub stopped : has_failed before ≡ true → (after ≡ before) × (taken ≡ [])

  -- The page was given the text, as it is laid out there: its writer took octets, the page holds the others, and its
  -- room is the room after the text.
  pub record Lays (before after : Page W) (text : List ℕ) : Type 0 where
    pub writes : Writes (writer_of before) (writer_of after) (held before) (held after)
        (laid_out (room_of before) text)
    pub room : room_of after ≡ room_after (room_of before) text

  -- `Lays` under a name that no search of the prover opens.
  unfoldable pub Wrote : Page W → Page W → List ℕ → Type 0
  Wrote before after text = Lays before after text

  -- The text was printed on the page, whose writer is the same.
  pub record Prints (before after : Page W) (text : List ℕ) : Type 0 where
    pub same : after.writer.ghost_name ≡ before.writer.ghost_name
    pub wrote : Wrote before after text
