-- What contracts see of a checked reader or writer.
use Rattle.std.specs.Prelude.{◌≡◌, ◌≢◌, ℕ, Bool, false, ◌&&◌, ◌||◌, ◌==◌, nat_lt, count_by}
use Rattle.std.specs.Prelude.{flat_map, fold, List, [], ◌∷◌, ◌++◌, length, take, Option, Result, Ok, Err, is_err}
use Rattle.std.specs.{Io.KnownBytes.{Appends, Consumes}, Result.result_unwrap_or}
use Rattle.bac_print.specs.{declared.checked.Checked.Checked, StreamCall.{StreamCall, ReadCall, WriteCall, FlushCall}}

-- The reader or writer within.
abbrev pub inner_of : {T : Type 0} → Checked T → T
inner_of checked = checked.inner.stream

-- The calls of the reader or writer within so far, each with its result.
abbrev pub calls_of : {T : Type 0} → Checked T → List StreamCall
calls_of checked = checked.inner.transcript.items

abbrev pub has_failed : {T : Type 0} → Checked T → Bool
has_failed checked = checked.failed

abbrev pub reads_of : {T : Type 0} → Checked T → ℕ
reads_of checked = checked.reads

-- A read gave nothing, though there was room for at least one octet, or a write of at least one octet took none.
abbrev pub passes_none : {E : Type 0} → Result ℕ E → List ℕ → Bool
passes_none (Ok count) octets = count == 0 && nat_lt 0 (length octets)
passes_none (Err e) octets = false

-- The octets that passed in a call: those that a read gave, or a write took.
abbrev pub gone : {E : Type 0} → Result ℕ E → List ℕ → List ℕ
gone result octets = take (result_unwrap_or result 0) octets

-- The octets that passed in a call. A flush passes none.
abbrev pub passed_by : StreamCall → List ℕ
passed_by (ReadCall room given) = result_unwrap_or given []
passed_by (WriteCall octets taken) = gone taken octets
passed_by (FlushCall done) = []

-- The octets that passed: what a reader gave, or what a writer took.
abbrev pub octets_of : {T : Type 0} → Checked T → List ℕ
octets_of checked = flat_map passed_by (calls_of checked)

-- The octets that passed last, after one more call: a flush does not change them.
abbrev pub last_then : List ℕ → StreamCall → List ℕ
last_then last (FlushCall done) = last
last_then last call = passed_by call

-- The octets that passed in the last read, or the last write.
abbrev pub last_of : {T : Type 0} → Checked T → List ℕ
last_of checked = fold last_then [] (calls_of checked)

-- The call is a read that gave nothing, though there was room.
abbrev pub meets_end : StreamCall → Bool
meets_end (ReadCall room (Ok given)) = length given == 0 && nat_lt 0 room
meets_end call = false

-- Whether the last read gave nothing, after one more call: only a read changes it.
abbrev pub ended_then : Bool → StreamCall → Bool
ended_then ended (ReadCall room given) = meets_end (ReadCall room given)
ended_then ended call = ended

-- The last read gave nothing, though there was room.
abbrev pub has_ended : {T : Type 0} → Checked T → Bool
has_ended checked = fold ended_then false (calls_of checked)

-- This many reads gave nothing, though there was room.
abbrev pub ends_of : {T : Type 0} → Checked T → ℕ
ends_of checked = count_by meets_end (calls_of checked)

-- A checked reader or writer with no call made yet.
abbrev pub fresh : {T : Type 0} → T → Checked T
fresh stream = record {
  inner = record { stream = stream; transcript = record { of = record {}; items = [] } };
  failed = false;
  reads = 0;
}

-- The reader gave these octets. If its remaining octets are known, these were the first of them.
pub record Gave {R : Type 0} (left : R → Option (List ℕ)) (before after : Checked R) (given : List ℕ) : Type 0 where
  pub passed : octets_of after ≡ octets_of before ++ given
  pub known : Consumes (left (inner_of before)) (left (inner_of after)) given

-- These calls are writes of at least one octet each, and no write comes after one that failed or took nothing. The
-- flags say whether the writer has failed before and after these calls.
abbrev pub OnlyWrites : Bool → List StreamCall → Bool → Type 0
OnlyWrites failed [] failed' = failed' ≡ failed
OnlyWrites failed (WriteCall octets answer ∷ later) failed' = (failed ≡ false) × (octets ≢ [])
    × OnlyWrites (is_err answer || passes_none answer octets) later failed'
OnlyWrites failed (_ ∷ later) failed' = ⊥

module _ {W : Type 0} (contents : W → Option (List ℕ)) (before after : Checked W) where
  -- The writer took these octets, and had only calls to write. If its contents are known, these octets are appended to
  -- them.
  pub record Took (taken : List ℕ) : Type 0 where
    pub passed : octets_of after ≡ octets_of before ++ taken
    pub known : Appends (contents (inner_of before)) (contents (inner_of after)) taken
    pub made : List StreamCall
    pub calls : calls_of after ≡ calls_of before ++ made
    pub asked : OnlyWrites (has_failed before) made (has_failed after)

  -- The writer took the beginning of the text.
  abbrev pub TakesFront : List ℕ → Type 0
  TakesFront text = (taken rest : List ℕ) × (text ≡ taken ++ rest) × Took taken

  -- The writer took the text, or the beginning of it if it failed.
  abbrev pub TookOrFailed : {A E : Type 0} → List ℕ → Result A E → Type 0
  TookOrFailed text (Ok done) = Took text
  TookOrFailed text (Err e) = TakesFront text
