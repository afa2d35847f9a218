-- How lines are cut from the reader's octets, and the state of the reader then.
use Rattle.std.proofs.Common.{[], ap, append-nil, append_assoc, arith, drop, Err, false, inl, inr, length}
use Rattle.std.proofs.Common.{length-append, length-take-le, List, nat_le, ne_eqb, None, Option, refl, Result, subst}
use Rattle.std.proofs.Common.{suc, sym, take, take-append-drop, zero, ℕ, ◌++◌, ◌-◌, ◌<◌, ◌==◌, ◌∙◌, ◌∷◌, ◌≡◌, ◌≢◌, ◌≤◌}
use Rattle.std.proofs.{Common.◌⊎◌, lemmas.{Bool.{cases_Bool, Decides.nat_tests}, List.append_cancel_left}}
use Rattle.{std.specs.{List.concat, Prelude.if◌then◌else◌}, bac_text.specs.longest_line, bac_print.specs.ends_of}
use Rattle.{bac_print.specs.fresh, bac_script.proofs.Courses.Chunks.{ends_with_feed-push, said-long, said-whole_long}}
use Rattle.bac_script.specs.{ReaderStands, Said, said, declared.line.LineFault.TheVariants.TooLong, Input.CanReadOn}
use Rattle.{bac_script.specs.{Limits.line_room, Line.without_feed, NextLine.IsNext}, bac_run.specs.{Act, acts_of_line}}
use Rattle.bac_run.specs.{acts_of_result, AtEnd, Checked, Failed, fault_of_line, fault_of_said, Feeds, feeds_in}
use Rattle.bac_run.specs.{HasNoFeed, HasNoWhole, IsGood, IsLast, IsUsedUp, IsWholeLine, LineFault, lines_in}
use Rattle.bac_run.specs.{LineTooLong, NoLine, Open, Reading, RunFault, said_of, TakesLines, Took, TraceEnd}

-- ---- the input that acts take

pub lines_fed : (acts : List Act) → lines_in (feeds_in acts) ≡ lines_in acts
lines_fed [] = refl
lines_fed (Took line ∷ acts) = ap (λ (ls : List (List ℕ)). line ∷ ls) (lines_fed acts)
lines_fed (_ ∷ acts) = lines_fed acts

-- Acts that take some input, and others that take what is left of it.
pub feeds_then : (reading : Reading) (xs ys : List Act) (given kept last : List ℕ) → Feeds reading given kept xs
    → Feeds reading kept last ys → Feeds reading given last (xs ++ ys)
feeds_then reading [] ys given kept last is after = subst (λ (os : List ℕ). Feeds reading os last ys) (sym is) after
feeds_then reading (Took line ∷ xs) ys given kept last (rest, is, whole, fed) after =
    (rest, is, whole, feeds_then reading xs ys rest kept last fed after)
feeds_then reading (NoLine over ∷ xs) ys given kept last (is, up, fed) after =
    (is, up, feeds_then reading xs ys given kept last fed after)
feeds_then reading (_ ∷ xs) ys given kept last fed after = absurd fed

-- While reading is open, more octets may follow those that were given.
pub feeds_open : (reading : Reading) (xs : List Act) (given kept more : List ℕ) → Feeds Open given kept xs
    → Feeds reading (given ++ more) (kept ++ more) xs
feeds_open reading [] given kept more is = ap (λ (os : List ℕ). os ++ more) is
feeds_open reading (Took line ∷ xs) given kept more (rest, is, inl whole, fed) = (
  rest ++ more,
  ap (λ (os : List ℕ). os ++ more) is ∙ append_assoc line rest more,
  inl whole,
  feeds_open reading xs rest kept more fed,
)
feeds_open reading (Took line ∷ xs) given kept more (rest, is, inr (over, _, _, _), fed) = absurd (cc)
feeds_open reading (NoLine over ∷ xs) given kept more (is, none, fed) = absurd (rw is at none)
feeds_open reading (_ ∷ xs) given kept more fed = absurd fed

pub feeds_whole : (reading : Reading) (xs : List Act) (given kept : List ℕ) → Feeds reading given kept xs
    → given ≡ concat (lines_in xs) ++ kept
feeds_whole reading [] given kept is = is
feeds_whole reading (Took line ∷ xs) given kept (rest, is, _, fed) =
    is ∙ ap (λ (os : List ℕ). line ++ os) (feeds_whole reading xs rest kept fed)
    ∙ sym (append_assoc line (concat (lines_in xs)) kept)
feeds_whole reading (NoLine over ∷ xs) given kept (_, _, fed) = feeds_whole reading xs given kept fed
feeds_whole reading (_ ∷ xs) given kept fed = absurd fed

-- The reader's octets are the lines that were taken, one after another, and the kept octets.
pub given_lines : {R : Type 0} {remaining : R → Option (List ℕ)} {reader reader' : Checked R}
    {result : Result TraceEnd RunFault} (acts : List Act) (takes : TakesLines remaining reader reader' acts result)
    → takes.given ≡ concat (lines_in acts) ++ takes.kept
given_lines acts takes =
    feeds_whole takes.reading (feeds_in acts) takes.given takes.kept takes.feeds
    ∙ ap (λ (ls : List (List ℕ)). concat ls ++ takes.kept) (lines_fed acts)

-- ---- the first line of some octets

-- The first line, if it has at most this many octets.
first_line : ℕ → List ℕ → List ℕ
first_line zero octets = []
first_line (suc n) [] = []
first_line (suc n) (x ∷ xs) = if x == 10 then x ∷ [] else x ∷ first_line n xs

first_ended : (room : ℕ) (text rest : List ℕ) → HasNoFeed text → length (text ++ 10 ∷ []) ≤ room
    → first_line room ((text ++ 10 ∷ []) ++ rest) ≡ text ++ 10 ∷ []
unfolding first_line
first_ended zero text rest none short = absurd (omega (arith, short, length-append text (10 ∷ [])))
first_ended (suc n) [] rest none short = refl
first_ended (suc n) (x ∷ xs) rest (other, none) short =
    rw (ne_eqb x 10 other)
    (ap (λ (os : List ℕ). x ∷ os) (first_ended n xs rest none (omega (arith, short))))

first_free : (room : ℕ) (line rest : List ℕ) → HasNoFeed line → length line ≤ room
    → (length line < room → rest ≡ []) → first_line room (line ++ rest) ≡ line
unfolding first_line
first_free zero [] rest none fits last = refl
first_free zero (x ∷ xs) rest none fits last = absurd (omega (arith, fits))
first_free (suc n) [] rest none fits last = rw (last (omega arith)) refl
first_free (suc n) (x ∷ xs) rest (other, none) fits last =
    rw (ne_eqb x 10 other)
    (ap (λ (os : List ℕ). x ∷ os)
    (first_free n xs rest none (omega (arith, fits)) (λ short. last (omega (arith, short)))))

took_first : (reading : Reading) (line rest : List ℕ) → IsWholeLine line ⊎ IsLast reading line rest
    → first_line line_room (line ++ rest) ≡ line
took_first reading line rest (inl (inl ((text, none, is), short))) =
    ap (λ (os : List ℕ). first_line line_room (os ++ rest)) is
    ∙ first_ended line_room text rest none (subst (λ (os : List ℕ). length os ≤ line_room) is short) ∙ sym is
took_first reading line rest (inl (inr (none, long))) =
    first_free line_room line rest none (omega (arith, long)) (λ short. absurd (omega (arith, long, short)))
took_first reading line rest (inr (_, over, (none, short), _)) =
    first_free line_room line rest none (omega (arith, short)) (λ less. over)

pub has_feed : (text rest : List ℕ) → HasNoFeed ((text ++ 10 ∷ []) ++ rest) → ⊥
has_feed [] rest (other, _) = other refl
has_feed (x ∷ xs) rest (_, none) = has_feed xs rest none

none_left_of : (line rest : List ℕ) → line ++ rest ≡ [] → line ≡ []
none_left_of [] rest is = refl
none_left_of (x ∷ xs) rest is = absurd (cc)

pub not_empty : (text : List ℕ) → [] ≡ text ++ 10 ∷ [] → ⊥
not_empty [] is = absurd (cc)
not_empty (x ∷ xs) is = absurd (cc)

-- A line that is taken is not empty.
some_taken : (reading : Reading) (line rest : List ℕ) → IsWholeLine line ⊎ IsLast reading line rest → line ≡ [] → ⊥
some_taken reading line rest (inl (inl ((text, _, ended), _))) none = not_empty text (sym none ∙ ended)
some_taken reading line rest (inl (inr (_, long))) none = absurd (let size = rw none at long in omega (arith, size))
some_taken reading line rest (inr (_, _, _, some)) none = some none

-- No line is taken from no octets.
pub none_fed : (reading : Reading) (xs : List Act) (kept : List ℕ) → Feeds reading [] kept xs → lines_in xs ≡ []
none_fed reading [] kept fed = refl
none_fed reading (Took line ∷ xs) kept (rest, is, whole, fed) =
    absurd (some_taken reading line rest whole (none_left_of line rest (sym is)))
none_fed reading (NoLine over ∷ xs) kept (_, _, fed) = none_fed reading xs kept fed
none_fed reading (_ ∷ xs) kept fed = absurd fed

-- If no line is left, none is taken.
none_taken : (reading over : Reading) (line rest given : List ℕ) → given ≡ line ++ rest
    → IsWholeLine line ⊎ IsLast reading line rest → over ≡ reading → IsUsedUp over given → ⊥
none_taken reading Open line rest given is whole same up = up
none_taken reading AtEnd line rest given is whole same up =
    some_taken reading line rest whole (none_left_of line rest (sym is ∙ up))
none_taken reading Failed line rest given is (inl (inl ((text, _, ended), _))) same (none, _) =
    has_feed text rest (subst HasNoFeed (is ∙ ap (λ (os : List ℕ). os ++ rest) ended) none)
none_taken reading Failed line rest given is (inl (inr (_, long))) same (_, short) =
    absurd (omega (arith, long, short, ap (λ (os : List ℕ). length os) is, length-append line rest))
none_taken reading Failed line rest given is (inr (ended, _, _, _)) same up = absurd (cc)

-- One list of acts takes only the first lines of the other.
abbrev pub AreFedAlike : List Act → List Act → Type 0
AreFedAlike [] ys = Unit {0}
AreFedAlike (x ∷ xs) [] = Unit {0}
AreFedAlike (x ∷ xs) (y ∷ ys) = (x ≡ y) × AreFedAlike xs ys

pub fed_alike : (reading : Reading) (xs ys : List Act) (given kept kept' : List ℕ) → Feeds reading given kept xs
    → Feeds reading given kept' ys → AreFedAlike xs ys
fed_alike reading [] ys given kept kept' fed fed' = tt
fed_alike reading (x ∷ xs) [] given kept kept' fed fed' = tt
fed_alike reading (Took line ∷ xs) (Took other ∷ ys) given kept kept' (rest, is, whole, fed) (
  rest',
  is',
  whole',
  fed',
) =
    let same : line ≡ other = sym (took_first reading line rest whole)
    ∙ ap (λ (os : List ℕ). first_line line_room os) (sym is ∙ is') ∙ took_first reading other rest' whole' in
    let left : rest ≡ rest' = append_cancel_left line rest rest'
    (sym is ∙ is' ∙ ap (λ (os : List ℕ). os ++ rest') (sym same)) in (
      ap (λ (l : List ℕ). Took l) same,
      fed_alike reading xs ys rest kept kept' fed (subst (λ (os : List ℕ). Feeds reading os kept' ys) (sym left) fed'),
    )
fed_alike reading (Took line ∷ xs) (NoLine over ∷ ys) given kept kept' (rest, is, whole, _) (same, up, _) =
    absurd (none_taken reading over line rest given is whole same up)
fed_alike reading (NoLine over ∷ xs) (Took line ∷ ys) given kept kept' (same, up, _) (rest, is, whole, _) =
    absurd (none_taken reading over line rest given is whole same up)
fed_alike reading (NoLine over ∷ xs) (NoLine other ∷ ys) given kept kept' (is, _, fed) (is', _, fed') =
    (ap (λ (r : Reading). NoLine r) (is ∙ sym is'), fed_alike reading xs ys given kept kept' fed fed')
fed_alike reading (x ∷ xs) (y ∷ ys) given kept kept' fed fed' = search

-- ---- how a line is cut

-- A line that is too long is bad, and its fault is that it is too long.
said_of_long : (line : List ℕ) → said false line ≡ Err TooLong → said_of line ≡ Err TooLong
said_of_long = grind (arith, append_assoc, append-nil)

unsaid : (line : List ℕ) → said false line ≡ Err TooLong → acts_of_line line ≡ None
unsaid line is = ap (λ (r : Result Said LineFault). acts_of_result line r) (said_of_long line is)

long_fault : (n : ℕ) (line : List ℕ) → said false line ≡ Err TooLong → fault_of_line n line ≡ LineTooLong n
long_fault n line is = ap (λ (r : Result Said LineFault). fault_of_said n r) (said_of_long line is)

-- The line that a run takes is the beginning of the next line that was found, which is cut if it is too long. A good
-- line is taken whole.
pub record Cuts (reading : Reading) (line later : List ℕ) : Type 0 where
  pub front : List ℕ
  pub rest : List ℕ
  pub split : line ≡ front ++ rest
  pub whole : IsWholeLine front ⊎ IsLast reading front (rest ++ later)
  pub same : acts_of_line front ≡ acts_of_line line
  pub alike : (n : ℕ) → fault_of_line n front ≡ fault_of_line n line
  pub all : IsGood line → rest ≡ []

front_all : (reading : Reading) (line later : List ℕ) → IsWholeLine line ⊎ IsLast reading line later
    → Cuts reading line later
front_all = grind (arith, append_assoc, append-nil)

none_take : (n : ℕ) (xs : List ℕ) → HasNoFeed xs → HasNoFeed (take n xs)
none_take zero xs none = tt
none_take (suc n) [] none = tt
none_take (suc n) (x ∷ xs) (other, none) = (other, none_take n xs none)

said_long : (text : List ℕ) → longest_line < length text → said false (text ++ 10 ∷ []) ≡ Err TooLong
said_long text long =
    let line = text ++ 10 ∷ [] in
    let more = length-append text (10 ∷ []) in
    let size : length (without_feed line) ≡ length line - 1 =
    rw (ends_with_feed-push text) (length-take-le (length line - 1) line (omega arith)) in
    said-long false line (omega (arith, size, more, long))

front_long : (reading : Reading) (text later : List ℕ) → HasNoFeed text → line_room ≤ length text
    → Cuts reading (text ++ 10 ∷ []) later
front_long reading text later none long =
    let front = take line_room text in
    let size : length front ≡ line_room = length-take-le line_room text long in
    let here = said-whole_long false front (none_take line_room text none) size in
    let there = said_long text (omega (arith, long)) in
    record {
      front = front;
      rest = drop line_room text ++ 10 ∷ [];
      split = ap (λ (os : List ℕ). os ++ 10 ∷ []) (sym (take-append-drop line_room text))
          ∙ append_assoc front (drop line_room text) (10 ∷ []);
      whole = inl (inr (none_take line_room text none, size));
      same = unsaid front here ∙ sym (unsaid (text ++ 10 ∷ []) there);
      alike = λ n. long_fault n front here ∙ sym (long_fault n (text ++ 10 ∷ []) there);
      all = λ good. absurd (good (unsaid (text ++ 10 ∷ []) there));
    }

front_ended : (reading : Reading) (line text later : List ℕ) → line ≡ text ++ 10 ∷ [] → HasNoFeed text
    → Cuts reading line later
front_ended reading line text later is none =
    elim (cases_Bool (nat_le (length line) line_room)) [
      | inl short ↦ front_all reading line later (inl (inl ((text, none, is), grind (arith, nat_tests, short))))
      | inr long ↦
          let more = length-append text (10 ∷ []) in
          let size = ap (λ (os : List ℕ). length os) is in
          let many : line_room < length line = grind (arith, nat_tests, long) in
          subst (λ (os : List ℕ). Cuts reading os later) (sym is)
          (front_long reading text later none (omega (arith, many, size, more)))
    ]

-- ---- the next line

module _ {R : Type 0} {remaining : R → Option (List ℕ)} {a b : Checked R} {now : List ℕ} {n : ℕ} where
  -- The next line, if reading has not failed.
  pub cut_next : (reading : Reading) → IsNext remaining a b now reading n → reading ≢ Failed → (n ≡ 0 → ⊥)
      → Cuts reading (take n now) (drop n now)
  cut_next Failed next sure some = absurd (sure refl)
  cut_next Open next sure some = elim (next.cut) [
    | inl c ↦ front_ended Open (take n now) c.text (drop n now) c.ended c.no_feed
    | inr c ↦ front_all Open (take n now) (drop n now) (inl (inr (c.no_feed, c.long)))
  ]
  cut_next AtEnd next sure some =
      front_all AtEnd (take n now) (drop n now)
      (inr (refl, next.stands.empty, (next.cut.no_feed, next.cut.short), full))
    where
      full : take n now ≢ []
      full none = some (sym (length-take-le n now next.within) ∙ ap (λ (os : List ℕ). length os) none)

  -- If there is no next line, reading has ended, and nothing is held.
  pub none_next : (reading : Reading) → IsNext remaining a b now reading n → reading ≢ Failed → n ≡ 0
      → (reading ≡ AtEnd) × (now ≡ [])
  none_next Failed next sure empty = absurd (sure refl)
  none_next Open next sure empty = elim ((rw empty at next).cut) [
    | inl c ↦ absurd (not_empty c.text c.ended)
    | inr c ↦ absurd (omega (arith, c.long))
  ]
  none_next AtEnd next sure empty = (refl, (rw empty at next).stands.empty)

  -- If reading failed, no whole line is held.
  pub none_whole : IsNext remaining a b now Failed n → HasNoWhole now
  none_whole next =
      let all : take n now ≡ now =
      sym (append-nil (take n now)) ∙ ap (λ (xs : List ℕ). take n now ++ xs) (sym next.stands.empty)
      ∙ take-append-drop n now in
      subst HasNoWhole all (next.cut.no_feed, next.cut.short)

-- The state of a reader that was read on, when nothing more is held.
pub stands_on : {R : Type 0} (remaining : R → Option (List ℕ)) (a b c : Checked R) (reading : Reading)
    (held : List ℕ) → CanReadOn a b → ReaderStands remaining reading b c held → ReaderStands remaining reading a c []
stands_on = grind (arith, append_assoc, append-nil)

pub still_open : (reading : Reading) → reading ≢ Failed → reading ≢ AtEnd → reading ≡ Open
still_open = grind (arith, append_assoc, append-nil)

-- ---- how often reading met the end

-- The number of times that reading met the end.
abbrev pub ends : Reading → ℕ
ends AtEnd = 1
ends Open = 0
ends Failed = 0

pub ends_so : {R : Type 0} (remaining : R → Option (List ℕ)) (reading : Reading) (reader : R) (after : Checked R)
    → ReaderStands remaining reading (fresh reader) after [] → ends_of after ≡ ends reading
ends_so = grind (arith, append_assoc, append-nil)
