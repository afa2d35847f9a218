-- Two runs from one stage on: as far as they were answered alike, they did the same acts and made the same calls.
use Rattle.std.proofs.{Common.◌≡◌, Common.{[], ap, append-nil, append_assoc, arith, length, List, map, refl}}
use Rattle.std.proofs.Common.{suc, sym, true, ℕ, ◌++◌, ◌∷◌}
use Rattle.{bac_pdu.specs.Station, bac_links.specs.answers_of}
use Rattle.bac_links.specs.{Arrived, Entry, Heard, Waited, Answered.answer_of, Asking.question_of}
use Rattle.bac_run.{proofs.Cut.AreFedAlike, specs.{Act, Aim, asked_by, calls_of, DueIn, feed_in, feeds_in}}
use Rattle.bac_run.specs.{Goes, Handing, has_line, IsDue, IsPassed, Looked, moved}
use Rattle.bac_run.specs.{Outside, Phase, Read, Stage, stage_after, Turns}

-- ---- the act that is due

-- Two acts that are due at one stage make the same calls; if the answers are the same too, the acts are the same.
abbrev SameDue : Act → Act → Type 0
SameDue act other = (map question_of (asked_by act) ≡ map question_of (asked_by other))
    × (asked_by act ≡ asked_by other → act ≡ other)

-- A datagram for which there is a line is not skipped.
unpassed : (wait wait' : ℕ) (from : Station) (octets : List ℕ) (heard : Heard) → has_line (length octets) ≡ true
    → IsPassed heard → Waited wait (Arrived from octets) ∷ [] ≡ Waited wait' heard ∷ [] → ⊥
unpassed = grind (arith, append_assoc, append-nil)

same_due : (timeout : ℕ) (stage : Stage) (phase : Phase) (aims : List Aim) (act other : Act)
    → AreFedAlike (feed_in act) (feed_in other) → DueIn timeout stage phase aims act
    → DueIn timeout stage phase aims other → SameDue act other
same_due timeout stage Outside (Turns until (suc left) ∷ later) (Read time) (Read now) fed due too = (refl, λ e. cc)
same_due timeout stage (Looked time) aims act other fed due too = grind (arith, unpassed)
same_due timeout stage (Handing ((to, octets) ∷ later)) aims act other fed due too = first_of (search, grind arith)
same_due timeout stage phase aims act other fed due too = first_of (search, grind arith)

-- Two lists of acts that take from one input, and begin with the same act: the later acts do too.
fed_later : (x : Act) (xs ys : List Act) → AreFedAlike (feed_in x ++ xs) (feed_in x ++ ys) → AreFedAlike xs ys
fed_later = grind (arith, append_assoc, append-nil)

-- ---- the calls of the link

same_entry : (entry other : Entry) → question_of entry ≡ question_of other → answer_of entry ≡ answer_of other
    → entry ≡ other
same_entry = grind (arith, append_assoc, append-nil)

-- How two runs go on after they were asked and answered alike.
module _ (Then : List Entry → List Entry → Type 0)
    (asks : (x y : Entry) (xs ys : List Entry) → question_of x ≡ question_of y → Then (x ∷ xs) (y ∷ ys)) where
  abbrev GoOn : (first rest first' rest' : List Entry) → Type 0
  GoOn first rest first' rest' = (first ≡ first') × Then rest rest'

  -- Calls that are asked alike come first, and then these.
  both_ask : (xs ys more more' first rest first' rest' : List Entry) → map question_of xs ≡ map question_of ys
      → xs ++ more ≡ first ++ rest → ys ++ more' ≡ first' ++ rest' → answers_of first ≡ answers_of first'
      → (xs ≡ ys → (got got' : List Entry) → more ≡ got ++ rest → more' ≡ got' ++ rest'
      → answers_of got ≡ answers_of got' → GoOn got rest got' rest')
      → GoOn first rest first' rest'
  both_ask [] [] more more' first rest first' rest' e is is' says on = on refl first first' is is' says
  both_ask (x ∷ xs) (y ∷ ys) more more' [] rest [] rest' e is is' says on =
      (refl, rw (sym is, sym is') (asks x y (xs ++ more) (ys ++ more') (cc)))
  both_ask (x ∷ xs) (y ∷ ys) more more' (p ∷ first) rest (q ∷ first') rest' e is is' says on =
      let here : x ≡ p = cc in
      let there : y ≡ q = cc in
      let said : answer_of p ≡ answer_of q = cc in
      let one = same_entry x y (cc) (cc) in
      let (same, then) = both_ask xs ys more more' first rest first' rest' (cc) (cc) (cc) (cc) (λ all. on (cc)) in
      (cc, then)
  both_ask xs ys more more' first rest first' rest' e is is' says on = absurd (cc)

-- Two runs from one stage on, with these calls left. Both make the same next call; or both did the same acts; or one
-- made all its calls, and the other did more, whose first act was due.
pub data Next (timeout : ℕ) (stage : Stage) (acts others : List Act) (rest rest' : List Entry) : Type 0 where
  AskBoth : (x y : Entry) (xs ys : List Entry) → rest ≡ x ∷ xs → rest' ≡ y ∷ ys → question_of x ≡ question_of y
      → Next timeout stage acts others rest rest'
  Same : acts ≡ others → rest ≡ [] → rest' ≡ [] → Next timeout stage acts others rest rest'
  Less : rest ≡ [] → (act : Act) (more : List Act) → others ≡ acts ++ act ∷ more
      → IsDue timeout (stage_after timeout stage acts) act → Next timeout stage acts others rest rest'
  More : rest' ≡ [] → (act : Act) (more : List Act) → acts ≡ others ++ act ∷ more
      → IsDue timeout (stage_after timeout stage others) act → Next timeout stage acts others rest rest'

module _ (timeout : ℕ) where
  next_then : (stage : Stage) (act : Act) (acts others : List Act) (rest rest' : List Entry)
      → Next timeout (moved timeout stage act) acts others rest rest'
      → Next timeout stage (act ∷ acts) (act ∷ others) rest rest'
  next_then stage act acts others rest rest' (AskBoth x y xs ys is is' asks) = AskBoth x y xs ys is is' asks
  next_then stage act acts others rest rest' (Same same is is') = Same (ap (λ (zs : List Act). act ∷ zs) same) is is'
  next_then stage act acts others rest rest' (Less is next more longer due) =
      Less is next more (ap (λ (zs : List Act). act ∷ zs) longer) due
  next_then stage act acts others rest rest' (More is next more longer due) =
      More is next more (ap (λ (zs : List Act). act ∷ zs) longer) due

  -- As far as two runs were answered alike, they made the same calls, and go on in one of these ways.
  pub both_go : (stage : Stage) (acts others : List Act) → AreFedAlike (feeds_in acts) (feeds_in others)
      → (first rest first' rest' : List Entry) → Goes timeout stage acts → Goes timeout stage others
      → calls_of acts ≡ first ++ rest → calls_of others ≡ first' ++ rest' → answers_of first ≡ answers_of first'
      → (first ≡ first') × Next timeout stage acts others rest rest'
  both_go stage [] [] fed [] [] [] [] goes goes' is is' says = (refl, Same refl refl refl)
  both_go stage [] (y ∷ others) fed [] [] [] rest' goes (due, _) is is' says = (refl, Less refl y others refl due)
  both_go stage (x ∷ acts) [] fed [] rest [] [] (due, _) goes' is is' says = (refl, More refl x acts refl due)
  both_go stage (x ∷ acts) [] fed (p ∷ first) rest [] rest' goes goes' is is' says = absurd (cc)
  both_go stage (x ∷ acts) (y ∷ others) fed first rest first' rest' (due, goes) (due', goes') is is' says =
      let (asks, one) = same_due timeout stage stage.phase stage.aims x y
      (grind (arith, fed)) due due' in
      both_ask (Next timeout stage (x ∷ acts) (y ∷ others)) (λ p q ps qs same. AskBoth p q ps qs refl refl same)
      (asked_by x) (asked_by y) (calls_of acts) (calls_of others) first rest first' rest' asks is is' says
      (λ all got got' left left' saying.
      let same = sym (one all) in
      let (calls, next) = both_go (moved timeout stage x) acts others
      (fed_later x (feeds_in acts) (feeds_in others) (rw same at fed)) got rest got' rest' goes (rw same at goes') left
      left' saying in
      (calls, rw same (next_then stage x acts others rest rest' next)))
  both_go stage acts others fed first rest first' rest' goes goes' is is' says = absurd (cc)
