-- How the lines of a script are cut from what its reader gave.
use Rattle.std.specs.Prelude.{[], drop, false, length, List, Option, take, ℕ, ◌*◌, ◌++◌, ◌+◌, ◌-◌, ◌<◌, ◌∷◌, ◌≡◌, ◌≤◌}
use Rattle.std.specs.Prelude.{◌⊎◌}
use Rattle.bac_print.specs.{Gave, has_failed, held as on_page, last_of, octets_of, reads_of, writer_of}
use Rattle.bac_print.specs.declared.{checked.Checked.Checked, page.Page.Page}
use Rattle.bac_script.specs.declared.input.Reading.{Reading, TheVariants.{AtEnd, Failed, Open}}
use Rattle.bac_script.specs.{Feeds.HasNoFeed, Input.{most_reads, ReaderStands}, Limits.{chunk_room, line_room}}

-- The number of reads that may still be made.
abbrev pub may_read : {R : Type 0} → Checked R → ℕ
may_read reader = most_reads - reads_of reader

-- The most octets that can still be taken: those held, and the most that the remaining reads can give.
abbrev pub most_to_come : {R : Type 0} → Checked R → List ℕ → ℕ
most_to_come reader held = chunk_room * may_read reader + length held

-- The octets held and then those that the reader gave are those taken and then those kept.
pub record TakesAndKeeps {R : Type 0} (remaining : R → Option (List ℕ)) (before after : Checked R)
    (held kept taken : List ℕ) : Type 0 where
  pub given : List ℕ
  pub gave : Gave remaining before after given
  pub order : held ++ given ≡ taken ++ kept

-- The octets of the last read are the last held ones, and before that read no whole line was held. There was at most
-- one read for each octet that the earlier reads gave, and one more.
pub record LastRead {R : Type 0} (reader reader' : Checked R) (held now : List ℕ) : Type 0 where
  pub before : List ℕ
  pub order : now ≡ (held ++ before) ++ last_of reader'
  pub asked : reads_of reader' ≤ reads_of reader + length before + 1
  pub no_feed : HasNoFeed (held ++ before)
  pub short : length (held ++ before) < line_room

-- The writer had not failed, and then took the octets that the page held.
pub record IsTurnedIn {W : Type 0} (page page' : Page W) : Type 0 where
  pub sound : has_failed (writer_of page) ≡ false
  pub later : List ℕ
  pub out : octets_of (writer_of page') ≡ (octets_of (writer_of page) ++ on_page page) ++ later

-- Nothing was read since then.
pub record IsUnread {R : Type 0} (reader reader' : Checked R) (held now : List ℕ) : Type 0 where
  pub same : reader' ≡ reader
  pub kept : now ≡ held

-- The last read was made while no whole line was held, and the page was turned in.
pub record IsReadOn {R W : Type 0} (reader reader' : Checked R) (page page' : Page W) (held now : List ℕ) : Type 0 where
  pub last : LastRead reader reader' held now
  pub turned_in : IsTurnedIn page page'

-- Nothing was read since then, or only to complete the next line.
abbrev pub ReadForLine : {R W : Type 0} → Checked R → Checked R → Page W → Page W → List ℕ → List ℕ → Type 0
ReadForLine reader reader' page page' held now =
    IsUnread reader reader' held now ⊎ IsReadOn reader reader' page page' held now

-- The number of reads that may have given nothing: none while reading is open, and one once it is over.
abbrev pub empty_reads : Reading → ℕ
empty_reads Open = 0
empty_reads AtEnd = 1
empty_reads Failed = 1

-- The line ends with its only line feed.
pub record EndsWithFeed (line : List ℕ) : Type 0 where
  pub text : List ℕ
  pub no_feed : HasNoFeed text
  pub ended : line ≡ text ++ 10 ∷ []

-- The line is too long, and has no line feed so far.
pub record IsTooLong (line : List ℕ) : Type 0 where
  pub no_feed : HasNoFeed line
  pub long : length line ≡ line_room

-- No whole line is among these octets.
pub record HasNoLine (octets : List ℕ) : Type 0 where
  pub no_feed : HasNoFeed octets
  pub short : length octets < line_room

-- The line ends with a line feed, or is too long without one, or is all that was left when reading was over.
abbrev pub IsLineCut : Reading → List ℕ → Type 0
IsLineCut Open line = EndsWithFeed line ⊎ IsTooLong line
IsLineCut AtEnd line = HasNoLine line
IsLineCut Failed line = HasNoLine line

-- The next line is at the beginning of the held octets, with this length.
pub record IsNext {R : Type 0} (remaining : R → Option (List ℕ)) (before after : Checked R) (held : List ℕ)
    (reading : Reading) (count : ℕ) : Type 0 where
  pub within : count ≤ length held
  pub cut : IsLineCut reading (take count held)
  pub stands : ReaderStands remaining reading before after (drop count held)
