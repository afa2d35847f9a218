-- When two runs of one script are alike.
use Rattle.std.specs.Prelude.{Err, List, Result, ℕ, ◌++◌, ◌≡◌, ◌≢◌}
use Rattle.bac_print.specs.{ends_of, octets_of, declared.checked.Checked.Checked}
use Rattle.bac_script.specs.declared.tracing.{TraceEnd.TraceEnd, TraceFault.{TraceFault, TheVariants.WriteFailed}}

-- The first octets are the beginning of the second, or all of them.
abbrev pub IsFrontOf : List ℕ → List ℕ → Type 0
IsFrontOf front whole = (rest : List ℕ) × (whole ≡ front ++ rest)

-- The readers gave the same octets, and met their end as often.
pub record GaveSame {R S : Type 0} (reader : Checked R) (other : Checked S) : Type 0 where
  pub octets : octets_of reader ≡ octets_of other
  pub ends : ends_of reader ≡ ends_of other

-- The first reader gave only the first octets of the second, and did not meet its end.
pub record GaveFront {R S : Type 0} (reader : Checked R) (other : Checked S) : Type 0 where
  pub front : IsFrontOf (octets_of reader) (octets_of other)
  pub unended : ends_of reader ≡ 0

-- The octets that a run with this result wrote of a text: all of it, or the beginning of it if the writer failed.
abbrev pub IsWrittenOf : (written text : List ℕ) → Result TraceEnd TraceFault → Type 0
IsWrittenOf written text (Err WriteFailed) = IsFrontOf written text
IsWrittenOf written text answer = written ≡ text

-- Both runs wrote one text, or the beginning of it if their writer failed. If neither failed, they returned the same.
pub record AreAlike (written : List ℕ) (answer : Result TraceEnd TraceFault) (other : List ℕ)
    (other_answer : Result TraceEnd TraceFault) : Type 0 where
  pub text : List ℕ
  pub wrote : IsWrittenOf written text answer
  pub other_wrote : IsWrittenOf other text other_answer
  pub same : answer ≢ Err WriteFailed → other_answer ≢ Err WriteFailed → answer ≡ other_answer
