-- The lines of a journal are read as they were meant.
use Rattle.std.proofs.Common.{[], ap, append_assoc, arith, Bool, false, if◌then◌else◌, inl, inr, length, length-append}
use Rattle.std.proofs.Common.{List, Ok, refl, Result, true, ℕ, ◌&&◌, ◌++◌, ◌<◌, ◌==◌, ◌^◌, ◌∙◌, ◌∷◌, ◌≡◌, ◌≤◌, ◌⊎◌}
use Rattle.{std.proofs.lemmas.{Bool.{Decides.nat_tests}, Grind.common_steps}, hex.specs.Hex.IsBytes}
use Rattle.{bac_tsm.specs.{Data, Tick}, bac_text.specs.longest_line}
use Rattle.bac_script.proofs.Courses.Chunks.{ends_with_feed-none, ends_with_feed-push, no_feed_on}
use Rattle.bac_script.{proofs.ReadBack.{arrival_read, IsRead, plain, plain_line, settings_read, tick_read}, specs.Blank}
use Rattle.{bac_script.specs.{Happens, Said, said, Settings, Line.{said_in, text_of_line}}, bac_run.specs.addressed}
use Rattle.bac_run.specs.{arrival_line, ends_with_return, EndsWithFeed, HasNoFeed, IsLineOf, LineFault, said_of}
use Rattle.bac_run.specs.{settings_line, time_line, whole_line}

line_is : {is_first : Bool} {line : List ℕ} {what : Said} → IsRead is_first line what → IsLineOf is_first line what
line_is is = record { text = is.text; no_feed = is.no_feed; ended = is.ended; says = is.says }

pub read_as : {is_first : Bool} {line : List ℕ} {what : Said} → IsLineOf is_first line what → IsRead is_first line what
read_as is = record { text = is.text; no_feed = is.no_feed; ended = is.ended; says = is.says }

-- The line of a time is read as this time.
pub time_read_back : (n : ℕ) → n < 2 ^ 64 → IsLineOf false (time_line n) (Happens (Tick n))
time_read_back n fits = line_is (tick_read n fits)

-- The line of settings is read as these settings.
pub settings_read_back : (timeout retries : ℕ) → 0 < timeout → timeout < 2 ^ 32 → retries < 256
    → IsLineOf true (settings_line timeout retries) (Settings timeout retries 0)
settings_read_back timeout retries some fits small = line_is (settings_read timeout retries some fits small)

-- The line of a datagram is read as this datagram.
pub arrival_read_back : (ip port : ℕ) (octets : List ℕ) → ip < 2 ^ 32 → port < 65536 → IsBytes octets
    → 0 < length octets → length octets ≤ 2034
    → IsLineOf false (arrival_line (plain ip port) octets) (Happens (Data (plain ip port) octets))
arrival_read_back ip port octets fits small bytes some few =
    line_is (arrival_read ip port octets fits small bytes some few)

pub empty_read_back : IsLineOf false (10 ∷ []) Blank
empty_read_back = line_is (plain_line false [] (10 ∷ []) Blank refl (omega arith) refl refl)

-- ---- the line of a request

-- The text of a line without a line feed, once it has one: a carriage return at its end is kept by one more.
abbrev fed : List ℕ → List ℕ
fed line = if ends_with_return line then line ++ 13 ∷ [] else line

fed_none : (line : List ℕ) → HasNoFeed line → HasNoFeed (fed line)
fed_none = grind (arith, no_feed_on)

fed_whole : (line : List ℕ) → HasNoFeed line → whole_line line ≡ fed line ++ 10 ∷ []
fed_whole = grind (arith, append_assoc, ends_with_feed-none)

-- It has the same text, unless it is too long.
fed_text : (line : List ℕ) → HasNoFeed line → (length line == longest_line && ends_with_return line) ≡ false
    → text_of_line (fed line ++ 10 ∷ []) ≡ text_of_line line
fed_text line none room =
    let unfed = ends_with_feed-none line none in
    grind (arith, common_steps, nat_tests, unfed, ends_with_feed-push (fed line), room, length-append)

addressed_so : (r : Result Said LineFault) (what : Said) → addressed r ≡ Ok what → r ≡ Ok what
addressed_so = grind arith

-- A line with a meaning is not too long.
not_long : (line : List ℕ) (what : Said) → said_of line ≡ Ok what
    → (said false line ≡ Ok what) × ((length line == longest_line && ends_with_return line) ≡ false)
not_long line what is = grind (arith, addressed_so (said false line) what)

-- The line is read as before, with a line feed if it lacked one.
pub line_read_back : (line : List ℕ) (what : Said) → EndsWithFeed line ⊎ HasNoFeed line → said_of line ≡ Ok what
    → IsLineOf false (whole_line line) what
line_read_back line what (inl (text, none, is)) says =
    let same : whole_line line ≡ line = rw (is, ends_with_feed-push text) refl in
    let (meant, room) = not_long line what says in
    record { text = text; no_feed = none; ended = same ∙ is; says = rw same meant }
line_read_back line what (inr none) says =
    let (meant, room) = not_long line what says in
    let whole = fed_whole line none in
    record {
      text = fed line;
      no_feed = fed_none line none;
      ended = whole;
      says = rw whole (ap (λ (r : Result (List ℕ) LineFault). said_in false r) (fed_text line none room) ∙ meant);
    }
