-- Texts that are printed in several pieces, folded or not; texts on a page of their own; and the texts of values.
use Rattle.std.proofs.Common.{[], ap, append-nil, append_assoc, arith, Bool, codes, decimal, drop, Err, false, flat_map}
use Rattle.std.proofs.Common.{get_or, IfSome, if◌then◌else◌, inl, inr, is_err, length, length-append, List, lit<, min}
use Rattle.std.proofs.Common.{None, Ok, Option, option_map, pos, refl, Result, Some, subst, suc, sym, take}
use Rattle.std.proofs.Common.{take-append-drop, unsigned_abs, zero, ℕ, ℤ, ◌*◌, ◌++◌, ◌+◌, ◌-◌, ◌<ℤ◌, ◌<◌, ◌==◌, ◌^◌}
use Rattle.std.proofs.Common.{◌||◌, ◌∙◌, ◌∷◌, ◌≡◌, ◌≢◌, ◌≤◌}
use Rattle.std.proofs.lemmas.{Bool.{cases_Bool, false≢true, Decides.nat_tests}, Fmt.length-decimal-le}
use Rattle.std.proofs.lemmas.{Grind.flat_map-append, Int.{ints, to_z-of_z}, List.{Sums.fold-append, take_more}}
use Rattle.std.proofs.{lemmas.Option.none-some, Math.Seq.take-append-add}
use Rattle.std.specs.{declared.io.Error.Error, Fmt.signed_decimal, Io.KnownBytes.{Appends, WriteAppends}}
use Rattle.std.specs.{Option.option_map_or, Result.result_unwrap_or}
use Rattle.{hex.specs.Hex.{encode_lower, encode_with}, bac_wire.proofs.DatumLaws.values-first}
use Rattle.bac_wire.specs.{result_seen, value_at, values_of, values_within, Datum.Datum}
use Rattle.bac_print.specs.{bits_text, calls_of, datum_text, ends_of, FlushCall, folded, folded_octet, Gave, gone}
use Rattle.bac_print.specs.{has_ended, has_failed, held, inner_of, laid_out, left_after, left_behind, meets_end}
use Rattle.bac_print.specs.{octet_bits, octets_of, OnlyWrites, passes_none, Prints, ReadCall, region_text, room_after}
use Rattle.bac_print.specs.{room_of, Took, TookOrFailed, values_text, WriteCall, writer_of, Writes, Wrote}
use Rattle.bac_print.specs.declared.{checked.Checked.Checked, page.Page.Page}
use Rattle.bac_print.specs.{Inner.{HasNotRead, Holds, joined, separator}, StreamCall.StreamCall}

pub left_after-append : (left : ℕ) (xs ys : List ℕ) → left_after left (xs ++ ys) ≡ left_after (left_after left xs) ys
left_after-append left [] ys = refl
left_after-append left (x ∷ xs) ys = left_after-append (left_behind left x) xs ys

pub folded-append : (left : ℕ) (xs ys : List ℕ)
    → folded left (xs ++ ys) ≡ folded left xs ++ folded (left_after left xs) ys
folded-append left [] ys = refl
folded-append left (x ∷ xs) ys =
    let behind = left_behind left x in
    ap (λ (os : List ℕ). folded_octet left x ++ os) (folded-append behind xs ys)
    ∙ sym (append_assoc (folded_octet left x) (folded behind xs) (folded (left_after behind xs) ys))

pub room_after-append : (room : Option ℕ) (xs ys : List ℕ)
    → room_after room (xs ++ ys) ≡ room_after (room_after room xs) ys
unfolding room_after
room_after-append None xs ys = refl
room_after-append (Some left) xs ys = ap Some (left_after-append left xs ys)

pub laid_out-append : (room : Option ℕ) (xs ys : List ℕ)
    → laid_out room (xs ++ ys) ≡ laid_out room xs ++ laid_out (room_after room xs) ys
unfolding laid_out room_after
laid_out-append None xs ys = refl
laid_out-append (Some left) xs ys = folded-append left xs ys

pub laid_out-none : (room : Option ℕ) → laid_out room [] ≡ []
unfolding laid_out
laid_out-none None = refl
laid_out-none (Some left) = refl

pub room_after-none : (room : Option ℕ) → room_after room [] ≡ room
unfolding room_after
room_after-none None = refl
room_after-none (Some left) = refl

-- ---- one call more

-- The call of a read with this result and these octets in its room.
abbrev read_of : Result ℕ Error → List ℕ → StreamCall
read_of result octets = ReadCall (length octets) (result_seen (λ count. take count octets) result)

read_meets : (result : Result ℕ Error) (octets : List ℕ) → meets_end (read_of result octets) ≡ passes_none result octets
read_meets (Ok zero) octets = refl
read_meets (Ok (suc n)) [] = grind arith
read_meets (Ok (suc n)) (x ∷ xs) = grind arith
read_meets (Err e) octets = refl

module _ {T : Type 0} (old new : Checked T) (result : Result ℕ Error) (octets : List ℕ)
    (asked : calls_of new ≡ calls_of old ++ read_of result octets ∷ []) where
  pub read_ends : has_ended new ≡ passes_none result octets
  read_ends = grind (arith, fold-append, read_meets)

  pub read_counted : ends_of new ≡ (if passes_none result octets then ends_of old + 1 else ends_of old)
  read_counted = grind (arith, fold-append, read_meets)

-- The rules by which the effect of one more call is computed.
pub ruleset one_call = (fold-append, flat_map-append, append-nil)

pub ruleset one_read = (read_ends, read_counted, one_call)

-- ---- several writes in a row

pub Took-none : {W : Type 0} {contents : W → Option (List ℕ)} (a : Checked W) → Took contents a a []
Took-none = grind (arith, append-nil)

OnlyWrites-more : (xs ys : List StreamCall) (a b c : Bool) → OnlyWrites a xs b → OnlyWrites b ys c
    → OnlyWrites a (xs ++ ys) c
OnlyWrites-more [] ys a b c p q = rw p at q
OnlyWrites-more (WriteCall octets answer ∷ xs) ys a b c (sound, some, later) q =
    (sound, some, OnlyWrites-more xs _ _ b c later q)
OnlyWrites-more (ReadCall room given ∷ xs) ys a b c p q = absurd p
OnlyWrites-more (FlushCall done ∷ xs) ys a b c p q = absurd p

pub Took-more : {W : Type 0} {contents : W → Option (List ℕ)} {a b c : Checked W} {xs ys : List ℕ}
    → Took contents a b xs → Took contents b c ys → Took contents a c (xs ++ ys)
Took-more = grind (arith, append_assoc, OnlyWrites-more)

written_known : {E : Type 0} (old new : Option (List ℕ)) (answer : Result ℕ E) (text : List ℕ)
    → WriteAppends old new answer text → Appends old new (gone answer text)
written_known = grind (arith, append-nil)

pub Gave-none : {R : Type 0} {remaining : R → Option (List ℕ)} (a : Checked R) → Gave remaining a a []
Gave-none = grind (arith, append-nil)

pub unread_more : {W : Type 0} (a b c : Checked W) → HasNotRead a b → HasNotRead b c → HasNotRead a c
unread_more = grind arith

-- the writer took all of the text before the rest
pub record Sent {W : Type 0} (contents : W → Option (List ℕ)) (before now : Checked W) (text rest : List ℕ) : Type 0
  where
    pub sent : List ℕ
    pub whole : text ≡ sent ++ rest
    pub took : Took contents before now sent

-- One more write, of the whole rest.
pub Sent_more : {W : Type 0} {contents : W → Option (List ℕ)} {before now : Checked W} {text rest : List ℕ}
    (next : Checked W) (answer : Result ℕ Error) → Sent contents before now text rest → has_failed now ≡ false
    → rest ≢ [] → calls_of next ≡ calls_of now ++ WriteCall rest answer ∷ []
    → WriteAppends (contents (inner_of now)) (contents (inner_of next)) answer rest →
    has_failed next ≡ (has_failed now || is_err answer || passes_none answer rest)
    → octets_of next ≡ octets_of now ++ gone answer rest →
    Sent contents before next text (drop (result_unwrap_or answer 0) rest)
Sent_more = grind (arith, take-append-drop, append_assoc, Took-more, written_known)

no_octets : (xs : List ℕ) → length xs ≡ 0 → xs ≡ []
no_octets [] e = refl
no_octets (x ∷ xs) e = absurd (omega arith)

pub Sent_all : {W : Type 0} (contents : W → Option (List ℕ)) (before now : Checked W) (text rest : List ℕ)
    → Sent contents before now text rest → length rest ≡ 0 → Took contents before now text
Sent_all = grind (arith, no_octets, append-nil)

-- ---- several prints in a row

pub encode_with-append : (t xs ys : List ℕ) → encode_with t (xs ++ ys) ≡ encode_with t xs ++ encode_with t ys
unfolding encode_with
encode_with-append t [] ys = refl
encode_with-append t (x ∷ xs) ys = rw (encode_with-append t xs _) refl

-- The octets before the rest were printed in hexadecimal.
pub record PrintsHex {W : Type 0} (contents : W → Option (List ℕ)) (before after : Page W) (octets rest : List ℕ) : Type
    0 where
  pub front : List ℕ
  pub parts : octets ≡ front ++ rest
  pub printed : Prints contents before after (encode_lower front)

-- The text was added to a page, folded, if its first line had this much room, and this room is left.
pub record FoldsTo {W : Type 0} (contents : W → Option (List ℕ)) (before after : Page W) (room : ℕ) (text : List ℕ)
    (left : ℕ) : Type 0 where
  pub held : Holds contents before after (folded room text)
  pub is_left : left ≡ left_after room text

module _ {W : Type 0} {contents : W → Option (List ℕ)} where
  -- Writing two texts in turn writes both.
  pub writes_more : {before middle after : Checked W} {held between kept text more : List ℕ} →
      Writes contents before middle held between text → Writes contents middle after between kept more →
      Writes contents before after held kept (text ++ more)
  writes_more {before} {middle} {after} {held} {between} {kept} {text} {more} first second =
      elim (cases_Bool (has_failed middle)) [
        | inl bad ↦
            let (same, untaken) = second.stopped bad in
            record {
              taken = first.taken;
              rest = first.rest ++ more;
              took = let both = Took-more first.took second.took in rw (untaken, append-nil _) at both;
              whole = grind (arith, append_assoc);
              sound = λ h. absurd (false≢true (sym h ∙ ap (λ (w : Checked W). has_failed w) same ∙ bad));
              stopped = λ h. let (before, none) = first.stopped h in (same ∙ before, none);
            }
        | inr good ↦
            let (sound, out) = first.sound good in
            record {
              taken = first.taken ++ second.taken;
              rest = second.rest;
              took = Took-more first.took second.took;
              whole = grind (arith, append_assoc);
              sound = λ h. let (_, left) = second.sound h in (sound, left);
              stopped = λ h. let (same, _) = first.stopped h in
                  absurd (false≢true (sym good ∙ ap (λ (w : Checked W). has_failed w) same ∙ h));
            }
      ]

  -- Without a print nothing changed.
  pub no_print : (page : Page W) {said : List ℕ} → [] ≡ said → Prints contents page page said
  unfolding Wrote
  no_print = grind (arith, append-nil, laid_out-none, room_after-none)

  pub prints_nothing : (page : Page W) → Prints contents page page []
  prints_nothing page = no_print _ refl

  -- Printing two texts in turn prints both.
  infixr 9 ◌⨾◌
  pub ◌⨾◌ : {before middle after : Page W} {text more : List ℕ} → Prints contents before middle text
      → Prints contents middle after more →
      Prints contents before after (text ++ more)
  unfolding Wrote
  ◌⨾◌ = grind (arith, laid_out-append, room_after-append, writes_more)

  -- The printed text, written in another way.
  pub printed_as : {before after : Page W} {text said : List ℕ} → Prints contents before after text → text ≡ said
      → Prints contents before after said
  printed_as = grind arith

  -- ---- text that is added to a page unchanged

  -- Adding two texts in turn adds both.
  pub held_more : {before middle after : Page W} {text more : List ℕ} → Holds contents before middle text
      → Holds contents middle after more → Holds contents before after (text ++ more)
  held_more = grind (arith, writes_more)

  -- A page that is turned in and then given a text was given the text.
  pub held_past : {before middle after : Page W} {text : List ℕ} → Prints contents before middle []
      → Holds contents middle after text → Holds contents before after text
  unfolding Wrote
  held_past = grind (arith, laid_out-none, room_after-none, held_more, append_assoc, append-nil)

  -- Text that is added to a page without folding was printed.
  pub printed_whole : {before after : Page W} {text : List ℕ} → room_of before ≡ None → Holds contents before after text
      → Prints contents before after text
  unfolding Wrote laid_out room_after
  printed_whole = grind arith

  -- Text that is added folded to a page with folding was printed.
  pub printed_folded : {before middle : Page W} {text : List ℕ} (left left' : ℕ) → room_of before ≡ Some left
      → Holds contents before middle (folded left text) → left' ≡ left_after left text
      → Prints contents before (record middle { room = Some left' }) text
  unfolding Wrote laid_out room_after
  printed_folded = grind arith

  -- An empty text is folded onto the page.
  pub folds_none : (page : Page W) (room : ℕ) → FoldsTo contents page page room [] room
  unfolding Wrote
  folds_none page room = record { held = grind (arith, append-nil); is_left = refl }

  -- One more octet is folded onto the page.
  pub folds_more : {before middle after : Page W} {room left left' : ℕ} {text : List ℕ} (octet : ℕ)
      → FoldsTo contents before middle room text left → Holds contents middle after (folded_octet left octet)
      → left' ≡ left_behind left octet → FoldsTo contents before after room (text ++ octet ∷ []) left'
  folds_more = grind (arith, folded-append, left_after-append, append-nil, held_more)

  -- The first octets are in their line unchanged, and the rest is folded.
  pub folds_on : {before middle after : Page W} {left : ℕ} (text front rest : List ℕ) (room : ℕ)
      → (folded room front ≡ front) × (left_after room front ≡ room - length front) → text ≡ front ++ rest
      → Holds contents before middle front → Holds contents middle after (folded (room - length front) rest)
      → left ≡ left_after (room - length front) rest → FoldsTo contents before after room text left
  folds_on = grind (arith, folded-append, left_after-append, held_more)

  pub then_prints : {before middle after : Page W} {text more said : List ℕ} → Prints contents before middle text →
      Prints contents middle after more →
      text ++ more ≡ said → Prints contents before after said
  then_prints first second = printed_as (first ⨾ second)

  pub three_prints : {before middle next after : Page W} {text more last said : List ℕ}
      → Prints contents before middle text →
      Prints contents middle next more →
      Prints contents next after last → text ++ (more ++ last) ≡ said → Prints contents before after said
  three_prints first second third = printed_as (first ⨾ second ⨾ third)

  pub four_prints : {before middle next last after : Page W} {text more later rest said : List ℕ}
      → Prints contents before middle text →
      Prints contents middle next more →
      Prints contents next last later → Prints contents last after rest → text ++ (more ++ (later ++ rest)) ≡ said
      → Prints contents before after said
  four_prints first second third fourth = printed_as (first ⨾ second ⨾ third ⨾ fourth)

  pub hex_none : (page : Page W) (octets : List ℕ) → PrintsHex contents page page octets octets
  unfolding encode_with
  hex_none page octets = record { front = []; parts = refl; printed = prints_nothing page }

  pub hex_more : {before middle after : Page W} {octets rest : List ℕ} (part later : List ℕ)
      → PrintsHex contents before middle octets rest →
      rest ≡ part ++ later → Prints contents middle after (encode_lower part)
      → PrintsHex contents before after octets later
  hex_more part later so_far cut more = record {
    front = so_far.front ++ part;
    parts = so_far.parts ∙ ap (λ (xs : List ℕ). so_far.front ++ xs) cut ∙ sym (append_assoc _ part later);
    printed = printed_as (so_far.printed ⨾ more) (sym (encode_with-append _ _ part));
  }

pub ruleset printing = (then_prints, three_prints, four_prints, no_print, nat_tests)

pub ruleset printing_hex = (hex_none, hex_more, take-append-drop)

-- ---- a text that is printed on a new page

module _ {W : Type 0} {contents : W → Option (List ℕ)} where
  -- Text that was printed on an empty page, which was then finished, was written as it was laid out, unless the writer
  -- failed.
  finished_as : {writer after : Checked W} {first last : Page W} {text : List ℕ} → writer_of first ≡ writer
      → held first ≡ [] →
      Prints contents first last text → Writes contents (writer_of last) after (held last) [] []
      → Writes contents writer after [] [] (laid_out (room_of first) text)
  unfolding Wrote
  finished_as {writer} {after} {first} {last} {text} same empty printed gone =
      let said = laid_out (room_of first) text in
      subst (λ (before : Checked W). Writes contents before after [] [] said) same
      (subst (λ (xs : List ℕ). Writes contents (writer_of first) after xs [] said) empty
      (subst (λ (xs : List ℕ). Writes contents (writer_of first) after (held first) [] xs) (append-nil _)
      (writes_more printed.wrote.writes gone)))

  -- The text itself, if the page's lines are not folded.
  pub finished : {writer after : Checked W} {first last : Page W} {text : List ℕ} → writer_of first ≡ writer
      → held first ≡ [] → room_of first ≡ None →
      Prints contents first last text → Writes contents (writer_of last) after (held last) [] []
      → Writes contents writer after [] [] text
  unfolding laid_out
  finished same empty whole printed gone = rw whole at (finished_as same empty printed gone)

  -- The folded text, if the page's lines are folded.
  pub folded_out : {writer after : Checked W} {first last : Page W} {text : List ℕ} {left : ℕ}
      → writer_of first ≡ writer → held first ≡ [] → room_of first ≡ Some left →
      Prints contents first last text → Writes contents (writer_of last) after (held last) [] []
      → Writes contents writer after [] [] (folded left text)
  unfolding laid_out
  folded_out same empty folds printed gone = rw folds at (finished_as same empty printed gone)

  -- The whole text, if the writer did not fail.
  pub all_written : {before after : Checked W} {text : List ℕ} → Writes contents before after [] [] text
      → has_failed after ≡ false →
      Took contents before after text
  all_written {before} {after} {text} p good = grind (arith, append-nil)

  -- The text was written, or the beginning of it if the writer failed.
  pub put : {A E : Type 0} {before after : Checked W} {text : List ℕ} (answer : Result A E)
      → Writes contents before after [] [] text →
      has_failed after ≡ is_err answer → TookOrFailed contents before after text answer
  put (Ok done) written good = all_written written good
  put (Err fault) written _ = (written.taken, written.rest, written.whole, written.took)

  -- A writer that was lent to a page and returned wrote the text, or the beginning of it if it failed.
  pub shown : {A E : Type 0} {writer after : Checked W} {first last : Page W} {text : List ℕ} {back : Checked W}
      (answer : Result A E) → after ≡ back →
      writer_of first ≡ writer → held first ≡ [] → room_of first ≡ None → Prints contents first last text
      → Writes contents (writer_of last) after (held last) [] [] →
      has_failed after ≡ is_err answer → TookOrFailed contents writer back text answer
  shown {writer} {text} answer given same empty whole printed gone failed = grind (arith, put, finished)

-- ---- how many digits a number of one, two or eight octets has

pub one_octet : (n : ℕ) → n < 256 → length (decimal n) ≤ 3
one_octet = grind (arith, length-decimal-le)

pub two_octets : (n : ℕ) → n < 65536 → length (decimal n) ≤ 5
two_octets = grind (arith, length-decimal-le)

pub eight_octets : (n : ℕ) → n < 2 ^ 64 → length (decimal n) ≤ 20
eight_octets n fits = length-decimal-le 20 n (lit< tt) (omega arith) fits

-- ---- the texts of values and of their parts

-- The text of one more octet.
pub texts_more : (text : ℕ → List ℕ) (xs : List ℕ) (i : ℕ) → i < length xs →
    flat_map text (take (i + 1) xs) ≡ flat_map text (take i xs) ++ text (get_or xs i 0)
texts_more text xs i within =
    ap (flat_map text) (take_more xs i 0 within) ∙ flat_map-append text _ _
    ∙ ap (λ (one : List ℕ). flat_map text (take i xs) ++ one) (append-nil _)

pub signed_negative : (z : ℤ) → z <ℤ pos 0 → 45 ∷ decimal (unsigned_abs z) ≡ signed_decimal z
signed_negative = grind arith

length_bits : (octets : List ℕ) → length (flat_map octet_bits octets) ≡ 8 * length octets
length_bits [] = refl
length_bits (x ∷ xs) = omega (arith, length_bits xs)

-- The bits of octets are those of all but the last, and then those of the last.
pub bits_last : (others : List ℕ) (last unused : ℕ) →
    flat_map octet_bits others ++ take (8 - unused) (octet_bits last) ≡ bits_text unused (others ++ last ∷ [])
bits_last others last unused =
    let front = flat_map octet_bits others in
    let count : length front + (8 - unused) ≡ 8 * length (others ++ last ∷ []) - min unused 8 =
    omega (arith, length_bits others, length-append others (last ∷ [])) in
    sym (take-append-add _ _ _) ∙ ap (λ (n : ℕ). take n (front ++ octet_bits last)) count
    ∙ ap (λ (bits : List ℕ). take (8 * length (others ++ last ∷ []) - min unused 8) bits)
    (ap (λ (bits : List ℕ). front ++ bits) (sym (append-nil _)) ∙ sym (flat_map-append octet_bits _ _))

-- One more value, and a comma if others follow.
one_more : (first : Datum) (more : List Datum) (behind : List ℕ) → values_of behind ≡ Some more →
    joined (first ∷ more) ≡ (datum_text first ++ separator behind) ++ joined more
unfolding values_within
one_more = grind (arith, append-nil, append_assoc)

-- If the first value was read before the others, these are the values of the rest.
behind_first : (value : Datum) (others : List Datum) (found : Option (List Datum))
    → option_map (λ more. value ∷ more) found ≡ Some others →
    (more : List Datum) × (found ≡ Some more) × (others ≡ value ∷ more)
behind_first = grind arith

nothing_left : (rest : List ℕ) (others : List Datum) → value_at rest ≡ None → values_of rest ≡ Some others → others ≡ []
unfolding values_within
nothing_left = grind arith

-- If the region is only values, the texts of those before the rest were printed.
pub record PrintsFront {W : Type 0} (contents : W → Option (List ℕ)) (before after : Page W)
    (region rest : List ℕ) : Type 0 where
  pub front : (values : List Datum) → values_of region ≡ Some values →
      (text : List ℕ) × (others : List Datum) × (values_of rest ≡ Some others) × (joined values ≡ text ++ joined others)
      × Prints contents before after text

-- If the region is values, these were printed.
abbrev pub PrintsValues : {W : Type 0} → (W → Option (List ℕ)) → Page W → Page W → List ℕ → Type 0
PrintsValues contents before after region =
    IfSome (values_of region) (λ values. Prints contents before after (joined values))

module _ {W : Type 0} {contents : W → Option (List ℕ)} where
  pub front_none : (page : Page W) (region : List ℕ) → PrintsFront contents page page region region
  front_none page _ = record { front = λ values e. ([], values, e, refl, prints_nothing _) }

  pub front_more : {before middle next after : Page W} {region rest behind : List ℕ} {value : Datum} →
      PrintsFront contents before middle region rest →
      value_at rest ≡ Some (value, behind) → Prints contents middle next (datum_text value)
      → Prints contents next after (separator behind) →
      PrintsFront contents before after region behind
  front_more {rest} {behind} {value} so_far found first second = record {
    front = λ values e.
        let (front, others, left, parts, printed) = so_far.front values e in
        let (later, left, is) = behind_first value others _ (sym (values-first rest value _ found) ∙ left) in (
          front ++ (datum_text value ++ separator behind),
          later,
          left,
          parts ∙ ap (λ (all : List Datum). front ++ joined all) is
              ∙ ap (λ (text : List ℕ). front ++ text) (one_more value _ behind left) ∙ sym (append_assoc front _ _),
          printed ⨾ first ⨾ second,
        );
  }

  pub front_whole : {before after : Page W} {region rest : List ℕ} → PrintsFront contents before after region rest
      → value_at rest ≡ None →
      PrintsValues contents before after region
  front_whole = grind (arith, printed_as, nothing_left, append-nil)

  -- No values, or several, are in braces.
  pub printed_in_braces : {before first second after : Page W} (region : List ℕ) (count : ℕ)
      → Some count ≡ option_map length (values_of region) →
      (count == 1) ≡ false → Prints contents before first (123 ∷ []) → PrintsValues contents first second region
      → Prints contents second after (125 ∷ []) →
      Prints contents before after (region_text region)
  printed_in_braces {before} {first} {second} {after} region count counted several opened printed closed =
      go (values_of region) counted printed
    where
      go : (found : Option (List Datum)) → Some count ≡ option_map length found
          → IfSome found (λ values. Prints contents first second (joined values)) →
          Prints contents before after (option_map_or values_text found (codes "hex " ++ encode_lower region))
      go None e p = absurd (none-some count (sym e))
      go (Some values) e p =
          let same : count ≡ length values = cc in
          let other : (length values == 1) ≡ false = ap (λ (n : ℕ). n == 1) (sym same) ∙ several in
          printed_as (opened ⨾ p ⨾ closed) (rw other refl)

  -- A region that is one value is shown by its text.
  pub printed_value : {before after : Page W} (region rest : List ℕ) (value : Datum)
      → Some (value, rest) ≡ value_at region → length rest < 1
      → Prints contents before after (datum_text value) → Prints contents before after (region_text region)
  unfolding values_within
  printed_value region [] value first none printed =
      printed_as printed (rw (values-first region value [] (sym first)) refl)
  printed_value region (x ∷ xs) value first none printed = absurd (omega (arith, none))

  -- A region that is not values is shown by its octets.
  pub printed_octets : {before middle after : Page W} (region : List ℕ) → None ≡ option_map length (values_of region) →
      Prints contents before middle (codes "hex ") → Prints contents middle after (encode_lower region) →
      Prints contents before after (region_text region)
  printed_octets _ none first second = printed_as (first ⨾ second) (grind arith)

pub ruleset printing_values = (front_none, front_more, front_whole)

pub ruleset printing_signed = (signed_negative, ints, to_z-of_z)
