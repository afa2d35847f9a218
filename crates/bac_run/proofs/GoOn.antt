-- How two runs of one setup go on, and what they print.
use Rattle.std.proofs.Common.{[], ap, append_assoc, arith, Err, false, inl, inr, List, Option, Result, Some, sym}
use Rattle.std.proofs.{Common.{true, ℕ, ◌++◌, ◌<◌, ◌↔◌, ◌∙◌, ◌∷◌, ◌≡◌, ◌≢◌, ◌⊎◌}, lemmas.List.append-nil}
use Rattle.{std.proofs.lemmas.List.append_cancel_left, bac_print.specs.{fresh, has_failed, octets_of}}
use Rattle.{bac_print.specs.reads_of, bac_script.specs.{GaveSame, IsFrontOf, Alike.GaveFront}}
use Rattle.bac_script.specs.{declared.tracing.TraceFault.TheVariants.WriteFailed, Input.most_reads}
use Rattle.{bac_links.specs.{Account, answers_of, Entry, GainsAll, Answered.GoOnAlike}, bac_run.proofs.Alike.AskBoth}
use Rattle.bac_run.proofs.{Alike.{both_go, Less, More, Next, Same}, Cut.{AreFedAlike, ends, ends_so, fed_alike}}
use Rattle.bac_run.{proofs.{Cut.feeds_open, Out.{fronts_join, journal_front}}, specs.{Act, AtEnd}}
use Rattle.bac_run.specs.{Checked, EndsAt, Failed, Feeds, feeds_in, first_stage, IsDue, IsPrinted, journal_of}
use Rattle.bac_run.specs.{Open, Reading, result_at, RunFault, Runs, Script, Setup, stage_by}
use Rattle.bac_run.specs.{TakesLines, TraceEnd}

-- ---- the end of a run

-- The end of a run: its writer failed; or it is over, with the result of its stage.
pub data Stops (setup : Setup) (acts : List Act) (result : Result TraceEnd RunFault) : Type 0 where
  Unwritten : result ≡ Err (Script WriteFailed) → Stops setup acts result
  Over : result_at (stage_by setup acts) ≡ Some result → Stops setup acts result

pub stops_by : (setup : Setup) (acts : List Act) (result : Result TraceEnd RunFault)
    → EndsAt result (stage_by setup acts) → Stops setup acts result
stops_by = grind (arith, append_assoc, append-nil)

-- Two runs did the same acts; or one was cut off, and the other did more.
pub data Meets (acts others : List Act) (result other : Result TraceEnd RunFault) : Type 0 where
  Both : acts ≡ others → Meets acts others result other
  Front : result ≡ Err (Script WriteFailed) → (more : List Act) → others ≡ acts ++ more
      → Meets acts others result other
  Back : other ≡ Err (Script WriteFailed) → (more : List Act) → acts ≡ others ++ more → Meets acts others result other

-- How two runs go on. As far as they were answered alike, they made the same calls; then they make the same next call,
-- or one was cut off, or both ended alike. If a run is over, both did the same, except the acts that a run that was cut
-- off did not do.
abbrev pub AreOn : (acts others : List Act) → (result other : Result TraceEnd RunFault) → (rest rest' : List Entry)
    → Type 0
AreOn acts others result other rest rest' =
    GoOnAlike (λ r. r ≡ Err (Script WriteFailed))
    (λ r s. r ≢ Err (Script WriteFailed) → s ≢ Err (Script WriteFailed) → r ≡ s) (λ r s. Meets acts others r s) result
    other rest rest'

-- If an act is still due after the acts of a run, its writer failed.
pub cut_at : (setup : Setup) (xs : List Act) (result : Result TraceEnd RunFault) (act : Act) → Stops setup xs result
    → IsDue setup.config.timeout (stage_by setup xs) act → result ≡ Err (Script WriteFailed)
cut_at = grind (arith, append_assoc, append-nil)

module _ (setup : Setup) (acts others : List Act) (result other : Result TraceEnd RunFault)
    (one : Stops setup acts result) (two : Stops setup others other) where
  end_same : acts ≡ others → result ≢ Err (Script WriteFailed) → other ≢ Err (Script WriteFailed) → result ≡ other
  end_same = grind (arith, append_assoc, append-nil)

  next_on : (xs ys : List Entry) → Next setup.config.timeout (first_stage setup) acts others xs ys
      → AreOn acts others result other xs ys
  next_on xs ys (AskBoth x y more more' is is' asks) = rw (is, is') asks
  next_on xs ys (Same same is is') = rw (is, is') (end_same same, Both same)
  next_on [] [] (Less is act more longer due) =
      let cut = cut_at setup acts result act one due in
      ((λ wrote wrote'. absurd (wrote cut)), Front cut (act ∷ more) longer)
  next_on [] (y ∷ ys) (Less is act more longer due) =
      let cut = cut_at setup acts result act one due in (cut, Front cut (act ∷ more) longer)
  next_on (x ∷ xs) ys (Less is act more longer due) = absurd (cc)
  next_on [] [] (More is act more longer due) =
      let cut = cut_at setup others other act two due in
      ((λ wrote wrote'. absurd (wrote' cut)), Back cut (act ∷ more) longer)
  next_on (x ∷ xs) [] (More is act more longer due) =
      let cut = cut_at setup others other act two due in (cut, Back cut (act ∷ more) longer)
  next_on xs (y ∷ ys) (More is act more longer due) = absurd (cc)

-- ---- the input of two readers

-- Two readers that gave the same octets, and met their end as often: acts take the same from both.
one_feed : (reading other : Reading) (given kept kept' : List ℕ) (xs ys : List Act) → ends reading ≡ ends other
    → Feeds reading given kept xs → Feeds other given kept' ys → AreFedAlike xs ys
one_feed Open other given kept kept' xs ys met one two =
    fed_alike other xs ys given kept kept' (simp append-nil at (feeds_open other xs given kept [] one)) two
one_feed reading Open given kept kept' xs ys met one two =
    fed_alike reading xs ys given kept kept' one (simp append-nil at (feeds_open reading ys given kept' [] two))
one_feed AtEnd AtEnd given kept kept' xs ys met one two = fed_alike AtEnd xs ys given kept kept' one two
one_feed Failed Failed given kept kept' xs ys met one two = fed_alike Failed xs ys given kept kept' one two
one_feed reading other given kept kept' xs ys met one two = absurd (cc)

-- A run was cut off; its reader gave only the first octets of the other's, and could be read on.
pub record IsCutShort {R S : Type 0} (result : Result TraceEnd RunFault) (reader : Checked R) (other : Checked S)
    : Type 0 where
  pub cut : result ≡ Err (Script WriteFailed)
  pub gave : GaveFront reader other
  pub sound : has_failed reader ≡ false
  pub few : reads_of reader < most_reads

-- The first reader gave only the first octets of the other, and could be read on.
cut_feed : {R S : Type 0} {remaining : R → Option (List ℕ)} {remaining' : S → Option (List ℕ)} {reader : R}
    {other_reader : S} {reader' : Checked R} {other_reader' : Checked S} {acts others : List Act}
    {result other : Result TraceEnd RunFault} (takes : TakesLines remaining (fresh reader) reader' acts result)
    (takes' : TakesLines remaining' (fresh other_reader) other_reader' others other)
    → IsCutShort result reader' other_reader'
    → AreFedAlike (feeds_in acts) (feeds_in others) × AreFedAlike (feeds_in others) (feeds_in acts)
cut_feed {acts = acts} {others = others} takes takes' cut =
    let (more, is) = cut.gave.front in
    let opened : takes.reading ≡ Open = grind (arith, takes.stands, cut.gave.unended, cut.sound, cut.few) in
    let one = feeds_open takes'.reading (feeds_in acts) takes.given takes.kept more (rw opened at takes.feeds) in
    let two = rw (sym takes'.gave.passed ∙ is ∙ ap (λ (xs : List ℕ). xs ++ more) takes.gave.passed) at takes'.feeds in (
      fed_alike takes'.reading _ _ (takes.given ++ more) (takes.kept ++ more) takes'.kept one two,
      fed_alike takes'.reading _ _ (takes.given ++ more) takes'.kept (takes.kept ++ more) two one,
    )

pub gained_so : {Origin : Type 0} (seen left : Account Origin) (gained whole : List Entry) → GainsAll gained seen left
    → left.history ≡ seen.history ++ whole → gained ≡ whole
gained_so = grind (arith, append_cancel_left)

module _ {Origin Other R S V W : Type 0} {remaining : R → Option (List ℕ)} {remaining' : S → Option (List ℕ)}
    {contents : V → Option (List ℕ)} {contents' : W → Option (List ℕ)} (setup : Setup) (reader : R)
    (other_reader : S) (reader' : Checked R) (other_reader' : Checked S) (before after : Checked V)
    (other_before other_after : Checked W) (seen left : Account Origin) (other_seen other_left : Account Other)
    (result other : Result TraceEnd RunFault) (first rest first' rest' : List Entry)
    (runs : Runs remaining contents setup (fresh reader) reader' before after seen left result)
    (others : Runs remaining' contents' setup (fresh other_reader) other_reader' other_before other_after other_seen
    other_left other)
    (read : GaveSame reader' other_reader' ⊎ IsCutShort result reader' other_reader'
    ⊎ IsCutShort other other_reader' reader')
    (gains : left.history ≡ seen.history ++ (first ++ rest))
    (gains' : other_left.history ≡ other_seen.history ++ (first' ++ rest'))
    (answers : answers_of first ≡ answers_of first') where
  abbrev Goal : Type 0
  Goal = (first ≡ first') × AreOn runs.acts others.acts result other rest rest'

  fed : AreFedAlike (feeds_in runs.acts) (feeds_in others.acts)
  fed =
      elim read [
        | inl gave ↦
            let same = sym others.takes.gave.passed ∙ sym gave.octets ∙ runs.takes.gave.passed in
            let met = sym (ends_so remaining runs.takes.reading reader reader' runs.takes.stands) ∙ gave.ends
            ∙ ends_so remaining' others.takes.reading other_reader other_reader' others.takes.stands in
            one_feed runs.takes.reading others.takes.reading runs.takes.given runs.takes.kept others.takes.kept
            (feeds_in runs.acts) (feeds_in others.acts) met runs.takes.feeds (rw same at others.takes.feeds)
        | inr (inl cut) ↦ (cut_feed runs.takes others.takes cut).0
        | inr (inr cut) ↦ (cut_feed others.takes runs.takes cut).1
      ]

  pub runs_on : Goal
  runs_on =
      let (same, next) = both_go setup.config.timeout (first_stage setup) runs.acts others.acts fed first rest first'
      rest' runs.goes others.goes (gained_so seen left _ _ runs.asks gains)
      (gained_so other_seen other_left _ _ others.asks gains') answers in (
        same,
        next_on setup runs.acts others.acts result other (stops_by setup runs.acts result runs.ends)
            (stops_by setup others.acts other others.ends) rest rest' next,
      )

-- ---- the printed text

-- A writer took the whole text, or the beginning of it if it failed.
abbrev pub IsTaken : (written text : List ℕ) → Result TraceEnd RunFault → Type 0
IsTaken written text result = (written ≡ text) ⊎ ((result ≡ Err (Script WriteFailed)) × IsFrontOf written text)

pub taken : {W : Type 0} (contents : W → Option (List ℕ)) (writer : W) (after : Checked W) (text : List ℕ)
    (result : Result TraceEnd RunFault) → IsPrinted contents (fresh writer) after text
    → (has_failed after ≡ true) ↔ (result ≡ Err (Script WriteFailed)) → IsTaken (octets_of after) text result
taken = grind (arith, append_assoc, append-nil)

-- A writer whose run was cut off took the beginning of a longer journal.
cut_text : {result : Result TraceEnd RunFault} {written : List ℕ} {others : List Act} (setup : Setup)
    (acts more : List Act) → result ≡ Err (Script WriteFailed) → others ≡ acts ++ more
    → IsTaken written (journal_of setup acts) result → IsTaken written (journal_of setup others) result
cut_text setup acts more cut is (inl all) = inr (cut, rw (all, is) (journal_front setup acts more))
cut_text setup acts more cut is (inr (_, some)) =
    inr (cut, rw is (fronts_join _ _ _ some (journal_front setup acts more)))

-- Both writers took one text, or the beginning of it if their runs were cut off.
pub one_text : (setup : Setup) (acts others : List Act) (result other : Result TraceEnd RunFault)
    (written written' : List ℕ) → Meets acts others result other → IsTaken written (journal_of setup acts) result
    → IsTaken written' (journal_of setup others) other
    → (text : List ℕ) × IsTaken written text result × IsTaken written' text other
one_text setup acts others result other written written' (Both same) took took' =
    (journal_of setup others, rw same at took, took')
one_text setup acts others result other written written' (Front cut more is) took took' =
    (journal_of setup others, cut_text setup acts more cut is took, took')
one_text setup acts others result other written written' (Back cut more is) took took' =
    (journal_of setup acts, took, cut_text setup others more cut is took')
