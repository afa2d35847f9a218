-- How the octets of a script are cut into lines, and the chunks in which they come.
use Rattle.std.proofs.Common.{[], ap, append-nil, append_assoc, arith, Bool, drop, drop-drop, eqb-true, Err, false}
use Rattle.std.proofs.Common.{filter, get_or, inl, inr, length, length-append, length-drop, length-take-le, List, min}
use Rattle.std.proofs.Common.{nat_lt, ne_eqb, None, Option, position, refl, slice_range, Some, suc, sym, take, take-add}
use Rattle.std.proofs.Common.{take-append-drop, take-take, take_all, true, zero, ℕ, ◌++◌, ◌+◌, ◌-◌, ◌<◌, ◌==◌, ◌||◌}
use Rattle.std.proofs.{Common.{◌∙◌, ◌∷◌, ◌≡◌, ◌≢◌, ◌≤◌, ◌⊎◌}, lemmas.Bool.{eqb-false, Decides.nat_tests}}
use Rattle.std.proofs.lemmas.{Grind.common_steps, List.{drop-append-le, drop_all, take-append-le, take_more}}
use Rattle.std.proofs.lemmas.List.{Edits.take-paste, Quantifiers.position-Some, Sums.fails_before_first}
use Rattle.std.proofs.{lemmas.Slice.{between_is, take-put_mid}, Math.Seq.take-append-add}
use Rattle.std.specs.{Io.KnownBytes.{Consumes, Keeps}, List.{copy_within, onto_first}}
use Rattle.bac_text.specs.{longest_line}
use Rattle.bac_print.{proofs.Printed.{laid_out-none, ◌⨾◌}, specs.{has_failed, held as on_page, last_of, octets_of}}
use Rattle.bac_print.specs.{Prints, reads_of, room_of, writer_of, Checked.inner_of, Page.Wrote}
use Rattle.bac_script.specs.{AtEnd, Checked, chunk_room, ends_with_feed, Failed, HasNoFeed, HasNoLine, is_line}
use Rattle.bac_script.specs.{IsLineCut, IsNext, IsTurnedIn, IsUnread, line_room, lines, Open, Page, pieces}
use Rattle.bac_script.specs.{ReaderStands, ReadForLine, Reading, said, said_from, TakesAndKeeps, without_feed}
use Rattle.bac_script.specs.{declared.line.LineFault.TheVariants.TooLong, Inner.HasNotEnded}
use borrow.Rule.Slice.PartMut.{put_mid}

pub pieces-line : (text more : List ℕ) → HasNoFeed text → pieces (text ++ 10 ∷ more) ≡ (text ++ 10 ∷ []) ∷ pieces more
pieces-line [] = grind arith
pieces-line (x ∷ xs) = grind (arith, ne_eqb, pieces-line xs)

pub pieces-open : (x : ℕ) (xs : List ℕ) → HasNoFeed (x ∷ xs) → pieces (x ∷ xs) ≡ (x ∷ xs) ∷ []
pieces-open x [] = grind (arith, ne_eqb)
pieces-open x (y ∷ ys) = grind (arith, ne_eqb, pieces-open y ys)

-- The first piece begins with this line
pub record Begun (line more : List ℕ) : Type 0 where
  pub front : List ℕ
  pub others : List (List ℕ)
  pub is : pieces (line ++ more) ≡ (line ++ front) ∷ others

onto_begun : (x : ℕ) (ps : List (List ℕ)) → (front : List ℕ) × (others : List (List ℕ))
    × (onto_first x ps ≡ (x ∷ front) ∷ others)
onto_begun x [] = ([], [], refl)
onto_begun x (p ∷ ps) = (p, ps, refl)

pub pieces-begun : (x : ℕ) (xs more : List ℕ) → HasNoFeed (x ∷ xs) → Begun (x ∷ xs) more
pieces-begun x [] more (differs, _) =
    let (front, others, is) = onto_begun x (pieces more) in
    record { front = front; others = others; is = rw (ne_eqb x 10 differs) is }
pieces-begun x (y ∷ ys) more (differs, later) =
    let b = pieces-begun y ys more later in
    record { front = b.front; others = b.others; is = rw (ne_eqb x 10 differs, b.is) refl }

last_no_feed : (x : ℕ) (xs : List ℕ) → HasNoFeed (x ∷ xs) → get_or (x ∷ xs) (length xs) 0 ≢ 10
last_no_feed x [] (differs, _) = differs
last_no_feed x (y ∷ ys) (_, later) = last_no_feed y ys later

pub ends_with_feed-none : (line : List ℕ) → HasNoFeed line → ends_with_feed line ≡ false
ends_with_feed-none = grind (arith, common_steps, last_no_feed)

pub ends_with_feed-push : (text : List ℕ) → ends_with_feed (text ++ 10 ∷ []) ≡ true
ends_with_feed-push _ = grind (arith, common_steps)

is_line-sure : (reading : Reading) (line : List ℕ) → (ends_with_feed line || nat_lt longest_line (length line)) ≡ true
    → is_line reading line ≡ true
is_line-sure = grind arith

pub lines-ended : (text more : List ℕ) (reading : Reading) → HasNoFeed text
    → lines ((text ++ 10 ∷ []) ++ more) reading ≡ (text ++ 10 ∷ []) ∷ lines more reading
lines-ended = grind (arith, append_assoc, pieces-line, is_line-sure, ends_with_feed-push)

-- A piece without a line feed that is not too long is a line only at the end
pub lines-rest : (line : List ℕ) → HasNoFeed line → length line < line_room → lines line Failed ≡ []
lines-rest [] h _ = refl
lines-rest (x ∷ xs) h short =
    let e : nat_lt longest_line (length (x ∷ xs)) ≡ false = grind (arith, nat_tests) in
    rw (pieces-open x _ h, ends_with_feed-none _ h, e) refl

pub lines-last : (line : List ℕ) → HasNoFeed line → 0 < length line → lines line AtEnd ≡ line ∷ []
lines-last [] = grind arith
lines-last (x ∷ xs) = grind (arith, pieces-open)

-- A line that begins with too many octets other than line feeds stays too long without its line feed
without_feed_long : (line front : List ℕ) → HasNoFeed line → longest_line < length line
    → longest_line < length (without_feed (line ++ front))
without_feed_long = grind (arith, append-nil, ends_with_feed-none, common_steps, length-append)

pub said-long : (is_first : Bool) (line : List ℕ) → longest_line < length (without_feed line)
    → said is_first line ≡ Err TooLong
said-long = grind (arith, nat_lt, true, nat_tests)

-- The line that was taken means the same as the first line of the octets from there on
pub record NextLine (line held : List ℕ) (reading : Reading) : Type 0 where
  pub whole : List ℕ
  pub others : List (List ℕ)
  pub split : lines (line ++ held) reading ≡ whole ∷ others
  pub same : (is_first : Bool) → said is_first whole ≡ said is_first line

pub next_long : (line held : List ℕ) (reading : Reading) → HasNoFeed line → longest_line < length line
    → NextLine line held reading
next_long [] _ _ h long = absurd (omega arith)
next_long (x ∷ xs) held reading h long =
    let b = pieces-begun x xs held h in
    let longer : longest_line < length ((x ∷ xs) ++ b.front) = omega (arith, length-append (x ∷ xs) b.front) in
    let too_long : longest_line < length (without_feed (x ∷ xs)) = rw (ends_with_feed-none (x ∷ xs) h) (omega arith) in
    record {
      whole = (x ∷ xs) ++ b.front;
      others = filter (is_line reading) b.others;
      split = rw (b.is, is_line-sure reading ((x ∷ xs) ++ b.front) (grind (arith, nat_tests, longer))) refl;
      same = λ is_first. said-long is_first ((x ∷ xs) ++ b.front) (without_feed_long (x ∷ xs) b.front h long)
          ∙ sym (said-long is_first (x ∷ xs) too_long);
    }

pub next_ended : (text held : List ℕ) (reading : Reading) → HasNoFeed text → NextLine (text ++ 10 ∷ []) held reading
next_ended text held reading h =
    record {
      whole = text ++ 10 ∷ [];
      others = lines held reading;
      split = lines-ended _ _ _ h;
      same = λ is_first. refl;
    }

pub next_last : (line : List ℕ) → HasNoFeed line → 0 < length line → NextLine line [] AtEnd
next_last line h some =
    record {
      whole = line;
      others = [];
      split = ap (λ zs. lines zs AtEnd) (append-nil line) ∙ lines-last _ h some;
      same = λ is_first. refl;
    }

pub said-whole_long : (is_first : Bool) (line : List ℕ) → HasNoFeed line → length line ≡ line_room
    → said is_first line ≡ Err TooLong
said-whole_long = grind (arith, said-long, ends_with_feed-none)

-- Octets without a line feed say nothing: they are not a line yet, or one that is too long.
pub said-open : (is_first : Bool) (octets : List ℕ) → HasNoFeed octets → said_from is_first (lines octets Open) ≡ []
said-open is_first [] none = refl
said-open is_first (x ∷ xs) none =
    let long = said-long is_first (x ∷ xs) in
    let one = pieces-open x xs none in
    let open_ended = ends_with_feed-none (x ∷ xs) none in
    grind (arith, nat_tests, long, one, open_ended)

-- ---- what is taken in several steps

pub Takes-more : {R : Type 0} {remaining : R → Option (List ℕ)} {a b c : Checked R} {held mid kept xs ys : List ℕ}
    → TakesAndKeeps remaining a b held mid xs → TakesAndKeeps remaining b c mid kept ys →
    TakesAndKeeps remaining a c held kept (xs ++ ys)
Takes-more = grind (arith, append_assoc)

-- The first held octets were taken.
pub Takes-front : {R : Type 0} {remaining : R → Option (List ℕ)} {a b : Checked R} {held mid : List ℕ} (n : ℕ)
    → TakesAndKeeps remaining a b held mid [] → TakesAndKeeps remaining a b held (drop n mid) (take n mid)
Takes-front = grind (arith, take-append-drop)

-- The octets that a page held are written if none are left on it and its writer has not failed.
turned : {W : Type 0} {contents : W → Option (List ℕ)} {page page' : Page W} → Prints contents page page' []
    → on_page page' ≡ [] → has_failed (writer_of page') ≡ false → IsTurnedIn page page'
unfolding Wrote
turned {page = page} printed = let none = laid_out-none (room_of page) in grind (arith, append-nil, none)

-- Written octets stay written.
pub further : {W : Type 0} {contents : W → Option (List ℕ)} {page page' : Page W} {text : List ℕ} (out : List ℕ)
    → Prints contents page page' text → ((later : List ℕ) × (octets_of (writer_of page) ≡ out ++ later))
    → (later : List ℕ) × (octets_of (writer_of page') ≡ out ++ later)
unfolding Wrote
further = grind (arith, append_assoc)

-- Text that the page is given later does not change that nothing, or only the next line, was read.
pub still_for_line : {R W : Type 0} {contents : W → Option (List ℕ)} {a b : Checked R} {page page' page'' : Page W}
    {held now : List ℕ} → ReadForLine a b page page' held now → Prints contents page' page'' []
    → ReadForLine a b page page'' held now
still_for_line (inl same) _ = inl same
still_for_line (inr r) then =
    let (later, out) = further _ then (r.turned_in.later, r.turned_in.out) in
    inr (record { last = r.last; turned_in = record { sound = r.turned_in.sound; later = later; out = out } })

-- If no line is held, one more read is made, or none if the reads are spent.
pub read_for_line : {R W : Type 0} {remaining : R → Option (List ℕ)} {contents : W → Option (List ℕ)}
    {a b c : Checked R} {page page' page'' : Page W} {held now later : List ℕ}
    → TakesAndKeeps remaining a b held now [] → Prints contents page page' [] → Prints contents page' page'' []
    → on_page page'' ≡ [] → has_failed (writer_of page'') ≡ false →
    ReadForLine a b page page' held now → reads_of b + length held ≤ reads_of a + length now → HasNoFeed now
    → length now < line_room → IsUnread b c now later ⊎ (later ≡ now ++ last_of c) → reads_of c ≤ reads_of b + 1
    → ReadForLine a c page page'' held later
read_for_line p _ then _ _ before _ none _ (inl same) _ =
    let still = still_for_line before then in grind (arith, same, still)
read_for_line p first then empty good before asked none short (inr more) once = inr (record {
  last = record {
    before = p.given;
    order = grind (arith, more, p.order);
    asked = grind (arith, p.order, asked, once, length-append);
    no_feed = grind (arith, p.order, none);
    short = grind (arith, p.order, short);
  };
  turned_in = turned (first ⨾ then) empty good;
})

-- If reading is over, the next line is all held octets.
pub next_at_end : {R : Type 0} {remaining : R → Option (List ℕ)} {a : Checked R} (b : Checked R) {c : Checked R}
    {held : List ℕ} (reading : Reading) {count : ℕ} → (reading ≡ Open → ⊥) → count ≡ length held → HasNoFeed held
    → length held < line_room → HasNotEnded a b → ReaderStands remaining reading b c []
    → IsNext remaining a c held reading count
next_at_end = grind (arith, take_all, drop_all, true)

-- ---- line feeds

no_feed_below : (xs : List ℕ) (i : ℕ) → ((k : ℕ) → k < i → (get_or xs k 0 == 10) ≡ false) → HasNoFeed (take i xs)
no_feed_below [] zero h = tt
no_feed_below [] (suc i) h = tt
no_feed_below (x ∷ xs) zero h = tt
no_feed_below (x ∷ xs) (suc i) h =
    (eqb-false x 10 (h 0 (omega arith)), no_feed_below xs i (λ k below. h (suc k) (omega arith)))

pub no_feed_on : (xs ys : List ℕ) → HasNoFeed xs → HasNoFeed ys → HasNoFeed (xs ++ ys)
no_feed_on [] ys h k = k
no_feed_on (x ∷ xs) ys (differs, later) k = (differs, no_feed_on xs ys later k)

-- If no position passes, each element fails the test.
pub none_passes : (p : ℕ → Bool) (xs : List ℕ) → position p xs ≡ None → (k : ℕ) → k < length xs
    → p (get_or xs k 0) ≡ false
none_passes p xs none k within = fails_before_first p xs k 0 (grind (arith, nat_tests))

pub no_feed : (xs : List ℕ) → position (λ octet. octet == 10) xs ≡ None → HasNoFeed xs
no_feed xs none = grind (arith, no_feed_below xs (length xs), none_passes, take_all)

-- The line that ends with the first line feed.
pub record FeedAt (held : List ℕ) (i : ℕ) : Type 0 where
  pub within : i + 1 ≤ length held
  pub before : HasNoFeed (take i held)
  pub ended : take (i + 1) held ≡ take i held ++ 10 ∷ []

pub feed_at : (held : List ℕ) (i : ℕ) → position (λ octet. octet == 10) held ≡ Some i → FeedAt held i
feed_at held i found =
    let (within, is_feed, none_before) = position-Some (λ octet. octet == 10) held i 0 found in
    let before = no_feed_below _ i none_before in
    let cut = take_more held i 0 within in
    grind (arith, before, cut, eqb-true, is_feed)

-- ---- the octets of a chunk: a range of its room, whose first octets were searched for a line feed

pub range_size : (xs held : List ℕ) (start end : ℕ) → slice_range xs start end ≡ held → end ≤ length xs
    → length held ≡ end - start
range_size = grind (arith, length-take-le, length-drop)

-- The rest of a range after some octets are skipped.
pub range_skipped : (xs held : List ℕ) (start end n : ℕ) → slice_range xs start end ≡ held
    → slice_range xs (start + n) end ≡ drop n held
range_skipped = grind (arith, between_is, drop-drop)

-- ---- a search that continues after the searched octets

-- The first octets, as many as this count, have no line feed, and are fewer than the longest line.
pub record IsSearched (count : ℕ) (held : List ℕ) : Type 0 where
  pub within : count ≤ length held
  pub few : count < line_room
  pub before : HasNoFeed (take count held)

-- The octets that were held before more was read have been searched.
pub searched_on : {R : Type 0} {b c : Checked R} {held later : List ℕ} (last : List ℕ) → HasNoFeed held
    → length held < line_room → IsUnread b c held later ⊎ (later ≡ held ++ last) → IsSearched (length held) later
searched_on _ none short (inl same) = grind (arith, take_all)
searched_on _ none short (inr more) = grind (arith, length-append, take-append-le, take_all)

module _ (xs held : List ℕ) (start count limit end : ℕ) (is : slice_range xs start end ≡ held)
    (limit_is : limit ≡ min end (start + line_room)) (inside : start ≤ end) (room : end ≤ length xs)
    (within : count ≤ length held) (few : count < line_room) (before : HasNoFeed (take count held)) where
  -- The octets that have been searched now.
  abbrev front : List ℕ
  front = take (limit - start) held

  size : length held ≡ end - start
  size = range_size _ _ _ _ is room

  long : length front ≡ limit - start
  long = grind (arith, length-take-le, size)

  here : slice_range xs (start + count) limit ≡ drop count front
  here = grind (arith, range_skipped, take-take, size)

  searched : HasNoFeed (take count front)
  searched = grind (arith, take-take, size)

  -- The line that ends with the first line feed.
  pub cut_behind : (place : ℕ) → position (λ octet. octet == 10) (slice_range xs (start + count) limit) ≡ Some place →
      (count + place + 1 ≤ length held) × IsLineCut Open (take (count + place + 1) held)
  cut_behind place found =
      let rest = drop count front in
      let f = feed_at _ _ (ap (position (λ octet. octet == 10)) (sym here) ∙ found) in
      let there : count + place + 1 ≤ limit - start = omega (arith, f.within, length-drop count front, long) in
      let cut = take-take (count + place + 1) (limit - start) held there in (
        omega (arith, size, there, limit_is),
        inl (record {
          text = take count front ++ take place rest;
          no_feed = no_feed_on _ _ searched f.before;
          ended = grind (arith, common_steps, cut, take-add count (place + 1) front, f.ended);
        }),
      )

  -- There is no line feed in the searched octets.
  none_up_to : position (λ octet. octet == 10) (slice_range xs (start + count) limit) ≡ None → HasNoFeed front
  none_up_to none =
      let whole = no_feed_on (take count front) (drop count front) searched (grind (arith, no_feed, here)) in
      grind (arith, whole, take-append-drop)

  -- There is no line feed among all held octets, if all are searched.
  pub none_held : position (λ octet. octet == 10) (slice_range xs (start + count) limit) ≡ None →
      limit - start < line_room → HasNoLine held
  none_held = grind (arith, none_up_to, take_all, size)

  pub cut_as_long : position (λ octet. octet == 10) (slice_range xs (start + count) limit) ≡ None →
      line_room ≤ limit - start → (limit - start ≤ length held) × IsLineCut Open front
  cut_as_long = grind (arith, none_up_to, size, long)

-- ---- octets that are read after the held ones

-- Octets that were moved to the front are the same.
moved_held : (xs moved held : List ℕ) (start end : ℕ) → slice_range xs start end ≡ held
    → moved ≡ copy_within xs start end 0 → start ≤ end → end ≤ length xs → slice_range moved 0 (end - start) ≡ held
moved_held = grind (arith, common_steps, take-paste, length-drop)

-- A chunk with room after the held octets.
pub record Placed (xs : List ℕ) (start end : ℕ) (held : List ℕ) : Type 0 where
  pub is : slice_range xs start end ≡ held
  pub within : start ≤ end
  pub room : end < chunk_room
  pub size : length xs ≡ chunk_room

-- Moving the held octets to the front makes room after them.
pub placed_moved : (xs moved held : List ℕ) (start end : ℕ) → slice_range xs start end ≡ held
    → moved ≡ copy_within xs start end 0 → length moved ≡ chunk_room →
    length xs ≡ chunk_room → start ≤ end → end ≤ chunk_room → length held < line_room
    → Placed moved 0 (end - start) held
placed_moved xs moved held start end is copied size size' within room short =
    let long = range_size xs held start end is (omega (arith, room, size')) in
    record {
      is = moved_held _ _ _ _ _ is copied within (omega (arith, room, size'));
      within = omega arith;
      room = omega (arith, long, short);
      size = size;
    }

module _ {xs : List ℕ} {start end : ℕ} {held : List ℕ} (p : Placed xs start end held) (ys : List ℕ) (k : ℕ) where
  abbrev room : List ℕ
  room = put_mid end k xs ys

  -- This number of further octets is held.
  more : (count : ℕ) → count ≤ length ys → slice_range room start (end + count) ≡ held ++ take count ys
  more count some =
      let fits : end ≤ length xs = omega (arith, p.room, p.size) in
      between_is room start (end + count) ∙ ap (drop start)
      (sym (take-take (end + count) (end + length ys) room (omega (arith, some)))
      ∙ ap (take (end + count)) (take-put_mid end k xs ys (end + length ys) refl fits)
      ∙ ap (λ (n : ℕ). take (n + count) (take end xs ++ ys)) (sym (length-take-le end xs fits))
      ∙ take-append-add (take end xs) ys count)
      ∙ drop-append-le start (take end xs) (take count ys) (omega (arith, p.within, length-take-le end xs fits))
      ∙ ap (λ (zs : List ℕ). zs ++ take count ys) (sym (between_is xs start end) ∙ p.is)

  pub still_held : slice_range room start end ≡ held
  still_held = grind (arith, more 0, append-nil)

  pub read_on : {R : Type 0} {remaining : R → Option (List ℕ)} {reader reader' : Checked R} (count : ℕ)
      → count ≤ length ys → octets_of reader' ≡ octets_of reader ++ take count ys
      → Consumes (remaining (inner_of reader)) (remaining (inner_of reader')) (take count ys)
      → TakesAndKeeps remaining reader reader' held (slice_range room start (end + count)) []
  read_on = grind (arith, more)

  pub read_none : {R : Type 0} {remaining : R → Option (List ℕ)} {reader reader' : Checked R}
      → octets_of reader' ≡ octets_of reader ++ [] → Keeps (remaining (inner_of reader)) (remaining (inner_of reader'))
      → TakesAndKeeps remaining reader reader' held (slice_range room start end) []
  read_none = grind (arith, append-nil, still_held)

  pub read_ended : {R : Type 0} {remaining : R → Option (List ℕ)} {reader reader' : Checked R} (count : ℕ) → count ≡ 0 →
      octets_of reader' ≡ octets_of reader ++ take count ys
      → Consumes (remaining (inner_of reader)) (remaining (inner_of reader')) (take count ys)
      → TakesAndKeeps remaining reader reader' held (slice_range room start end) []
  read_ended = grind (arith, append-nil, still_held)

  -- The octets of the last read come after the held ones.
  pub last_on : {last : List ℕ} (count : ℕ) → count ≤ length ys → last ≡ take count ys
      → slice_range room start (end + count) ≡ held ++ last
  last_on = grind (arith, more)

  pub last_none : {last : List ℕ} → last ≡ [] → slice_range room start end ≡ held ++ last
  last_none = grind (arith, still_held, append-nil)
