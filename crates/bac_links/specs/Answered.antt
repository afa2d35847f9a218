-- The answers of a link; and tools that are answered alike ask alike.
use Rattle.std.specs.Prelude.{[], Bool, Err, List, map, Option, Result, ℕ, ◌++◌, ◌∷◌, ◌≡◌}
use Rattle.bac_print.specs.{Took, Checked.TakesFront, declared.checked.Checked.Checked}
use Rattle.bac_links.specs.{Asking.question_of, declared.fault.ToolFault.{ToolFault, TheVariants.WriteFailed}}
use Rattle.bac_links.specs.History.{Account, Entry, Heard, Offered, Posted, Timed, Unposted, Waited}

-- An answer of a link: what a wait received, the time, that a datagram was sent, that it could not be sent, or whether
-- an offered one was taken.
pub data LinkAnswer : Type 0 where
  Brings : (heard : Heard) → LinkAnswer
  Shows : (time : ℕ) → LinkAnswer
  Takes : LinkAnswer
  Loses : LinkAnswer
  Decides : (taken : Bool) → LinkAnswer

-- The answer in an entry.
abbrev pub answer_of : Entry → LinkAnswer
answer_of (Waited wait heard) = Brings heard
answer_of (Timed time) = Shows time
answer_of (Posted to octets) = Takes
answer_of (Unposted to octets) = Loses
answer_of (Offered to octets taken) = Decides taken

-- The answers in these entries, in order.
abbrev pub answers_of : List Entry → List LinkAnswer
answers_of = map answer_of

-- Two runs with these entries left go on alike: both ask the same next; or both are over, and ended and printed alike;
-- or one was cut off, and they printed alike.
abbrev pub GoOnAlike : {A : Type 0} → (IsCutOff : A → Type 0) → (EndAlike PrintAlike : A → A → Type 0)
    → (result other : A) → (rest other_rest : List Entry) → Type 0
GoOnAlike IsCutOff EndAlike PrintAlike result other [] [] = EndAlike result other × PrintAlike result other
GoOnAlike IsCutOff EndAlike PrintAlike result other (entry ∷ later) (other_entry ∷ other_later) =
    question_of entry ≡ question_of other_entry
GoOnAlike IsCutOff EndAlike PrintAlike result other [] other_rest = IsCutOff result × PrintAlike result other
GoOnAlike IsCutOff EndAlike PrintAlike result other rest [] = IsCutOff other × PrintAlike result other

module _ (Origin Other : Type 0) {A : Type 0} (Runs : Account Origin → Account Origin → A → Type 0)
    (Others : Account Other → Account Other → A → Type 0) (IsCutOff : A → Type 0)
    (EndAlike PrintAlike : A → A → Type 0) where
  -- Two runs, over any two links. As far as they were answered alike, they asked alike, and then they go on alike.
  abbrev pub AskAlike : Type 0
  AskAlike = (seen left : Account Origin) (other_seen other_left : Account Other) (result other : A)
      (first rest other_first other_rest : List Entry) → Runs seen left result → Others other_seen other_left other
      → left.history ≡ seen.history ++ (first ++ rest)
      → other_left.history ≡ other_seen.history ++ (other_first ++ other_rest)
      → answers_of first ≡ answers_of other_first
      → (first ≡ other_first) × GoOnAlike IsCutOff EndAlike PrintAlike result other rest other_rest

-- ---- the printed text

-- With this result a writer took the text, or the beginning of it if it failed.
abbrev pub Printed : {W A : Type 0} → (W → Option (List ℕ)) → (before after : Checked W) → (text : List ℕ)
    → Result A ToolFault → Type 0
Printed contents before after text (Err WriteFailed) = TakesFront contents before after text
Printed contents before after text result = Took contents before after text

module _ {V W A : Type 0} (contents : V → Option (List ℕ)) (before after : Checked V)
    (other_contents : W → Option (List ℕ)) (other_before other_after : Checked W) where
  -- Two runs with these results printed one text, each to its writer. So if only one writer failed, it took the
  -- beginning of the other's text.
  abbrev pub OneText : (result other : Result A ToolFault) → Type 0
  OneText result other = (text : List ℕ) × Printed contents before after text result
      × Printed other_contents other_before other_after text other
