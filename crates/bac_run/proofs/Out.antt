-- All output is written before a wait.
use Rattle.std.proofs.Common.{[], append-nil, append_assoc, arith, false, inl, inr, List, Option, refl, Some}
use Rattle.std.proofs.Common.{sym, ℕ, ◌++◌, ◌∷◌, ◌≡◌, ◌⊎◌}
use Rattle.bac_tsm.specs.Client.{Client}
use Rattle.bac_print.{proofs.Printed.{folded-append, laid_out-append, laid_out-none}, specs.{folded_line, has_failed}}
use Rattle.bac_print.specs.{held, octets_of, Prints, room_of, writer_of, Writes, Page.{folded, laid_out, left_after}}
use Rattle.{bac_print.specs.Page.Wrote, bac_script.specs.{IsFrontOf, NextLine.IsTurnedIn}}
use Rattle.bac_run.{proofs.Acts.journal-append, specs.{Act, Checked, client_after, journal, journal_lines, journal_of}}
use Rattle.bac_run.specs.{new_client, Page, Setup, WantsOut, Inner.{HasPassed, IsOutAt}}

pub fronts_join : (xs ys zs : List ℕ) → IsFrontOf xs ys → IsFrontOf ys zs → IsFrontOf xs zs
fronts_join = grind (arith, append_assoc)

-- The journal of some acts is the beginning of the journal of more acts.
pub journal_front : (setup : Setup) (acts more : List Act)
    → IsFrontOf (journal_of setup acts) (journal_of setup (acts ++ more))
journal_front setup acts more =
    let after = client_after (new_client setup.config.timeout setup.config.retries 0) acts in (
      folded (left_after folded_line (journal_lines setup acts)) (journal after more),
      grind (arith, append_assoc, journal-append, folded-append),
    )

-- A wait in a list of acts is in its first part or in its second.
abbrev Splits : (xs ys earlier later : List Act) (wait : Act) → Type 0
Splits xs ys earlier later wait = ((more : List Act) × (xs ≡ earlier ++ wait ∷ more))
    ⊎ ((less : List Act) × (earlier ≡ xs ++ less) × (ys ≡ less ++ wait ∷ later))

split_at : (xs ys earlier later : List Act) (wait : Act) → xs ++ ys ≡ earlier ++ wait ∷ later
    → Splits xs ys earlier later wait
split_at [] ys earlier later wait is = inr (earlier, refl, is)
split_at (x ∷ xs) ys [] later wait is = inl (xs, cc)
split_at (x ∷ xs) ys (e ∷ earlier) later wait is =
    elim (split_at xs ys earlier later wait (cc)) [
      | inl (more, here) ↦ inl (more, cc)
      | inr (less, here, there) ↦ inr (less, cc, there)
    ]

module _ {W : Type 0} where
  -- If no text is held, all printed text was written.
  pub passed_here : {p : Page W} {after : Checked W} → has_failed (writer_of p) ≡ false → held p ≡ []
      → IsFrontOf (octets_of (writer_of p)) (octets_of after) → HasPassed p after []
  passed_here = grind (arith, append-nil, laid_out-none)

  -- After `turn_in` all text that was printed before it is written.
  pub passed_turned : {p q : Page W} → IsTurnedIn p q → HasPassed p (writer_of q) []
  passed_turned = grind (arith, append-nil, laid_out-none)

  pub out_none : (client : Client) (p q : Page W) → IsOutAt client p q []
  out_none client p q [] later wait waits is = absurd (cc)
  out_none client p q (x ∷ earlier) later wait waits is = absurd (cc)

  pub out_one : (client : Client) (p q : Page W) (act : Act) → (WantsOut act → HasPassed p (writer_of q) [])
      → IsOutAt client p q (act ∷ [])
  out_one client p q act out [] later wait waits is =
      let same : act ≡ wait = cc in out (rw same waits)
  out_one client p q act out (x ∷ []) later wait waits is = absurd (cc)
  out_one client p q act out (x ∷ y ∷ earlier) later wait waits is = absurd (cc)

  -- Text that was written is in the writer after the page is given up.
  pub out_whole : {first : Page W} {writer after : Checked W} {text : List ℕ} → writer_of first ≡ writer
      → held first ≡ [] → room_of first ≡ Some folded_line → HasPassed first after text
      → IsFrontOf (octets_of writer ++ folded folded_line text) (octets_of after)
  unfolding laid_out
  out_whole = grind (arith, append_assoc, append-nil)

module _ {W : Type 0} {contents : W → Option (List ℕ)} where
  grown : {before after : Checked W} {held kept text : List ℕ} → Writes contents before after held kept text
      → IsFrontOf (octets_of before) (octets_of after)
  grown writes = (writes.taken, writes.took.passed)

  -- Text that was written stays written.
  pub passed_on : (p q : Page W) (after : Checked W) {text more held kept : List ℕ} → HasPassed p (writer_of q) text
      → Writes contents (writer_of q) after held kept more → HasPassed p after text
  passed_on p q after passed writes =
      record { sound = passed.sound; front = fronts_join _ _ _ passed.front (grown writes) }

  -- Text that was printed before written text was written too.
  pub passed_before : {p q : Page W} {after : Checked W} {text more : List ℕ} → Prints contents p q text
      → HasPassed q after more → HasPassed p after (text ++ more)
  unfolding Wrote
  passed_before = grind (arith, append_assoc, laid_out-append)

  pub printed_on : {p q : Page W} {text : List ℕ} → Prints contents p q text
      → IsFrontOf (octets_of (writer_of p)) (octets_of (writer_of q))
  unfolding Wrote
  printed_on printed = grown printed.wrote.writes

  pub out_more : {client middle : Client} {p q r : Page W} {xs ys : List Act} → middle ≡ client_after client xs
      → IsOutAt client p q xs → Prints contents p q (journal client xs) → IsOutAt middle q r ys
      → Prints contents q r (journal middle ys) → IsOutAt client p r (xs ++ ys)
  unfolding Wrote
  out_more {client} {middle} {p} {q} {r} {xs} {ys} is first printed second then earlier later wait waits same =
      elim (split_at xs ys earlier later wait same) [
        | inl (more, here) ↦ passed_on p q (writer_of r) (first earlier more wait waits here) then.wrote.writes
        | inr (less, here, there) ↦
            rw (here, journal-append client xs less, sym is)
            (passed_before printed (second less later wait waits there))
      ]

  -- Text that was printed before the acts was also written before each act with `WantsOut`.
  pub out_behind : (client : Client) (p q r : Page W) {text : List ℕ} {xs : List Act} → Prints contents p q text
      → IsOutAt client q r xs → (earlier later : List Act) (wait : Act) → WantsOut wait → xs ≡ earlier ++ wait ∷ later
      → HasPassed p (writer_of r) (text ++ journal client earlier)
  out_behind client p q r printed out earlier later wait waits is =
      passed_before printed (out earlier later wait waits is)
