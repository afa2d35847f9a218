-- The octets that are taken from a reader, through a chunk that holds the octets read and not yet taken.
use Rattle.std.specs.Io.KnownBytes.{IsAtEnd}
use Rattle.std.specs.Prelude.{[], false, List, max, Option, true, ℕ, ◌+◌, ◌-◌, ◌^◌, ◌≡◌, ◌≤◌, ◌⊎◌}
use Rattle.bac_print.specs.{ends_of, has_failed, reads_of, Checked.{has_ended, inner_of}}
use Rattle.bac_print.specs.declared.checked.Checked.{Checked}
use Rattle.bac_script.specs.declared.input.Reading.{Reading, TheVariants.{AtEnd, Failed, Open}}

-- The number of reads that a script may make.
abbrev pub most_reads : ℕ
most_reads = 2 ^ 32 - 1

-- No more reads were made than a script may make; if all of these were made before, none was made since.
abbrev pub ReadsNoMore : {R : Type 0} → Checked R → Checked R → Type 0
ReadsNoMore before after = reads_of after ≤ max (reads_of before) most_reads

-- The reader can be read on: no read since then gave nothing.
pub record CanReadOn {R : Type 0} (before after : Checked R) : Type 0 where
  pub sound : has_failed after ≡ false
  pub unended : ends_of after ≡ ends_of before

-- The reader has ended, and no octet is held: of the reads since then only the last gave nothing. If the reader's
-- remaining octets are known, there are none.
pub record MetEnd {R : Type 0} (remaining : R → Option (List ℕ)) (before after : Checked R) (held : List ℕ)
    : Type 0 where
  pub empty : held ≡ []
  pub sound : has_failed after ≡ false
  pub ended : has_ended after ≡ true
  pub once : ends_of after ≡ ends_of before + 1
  pub left : IsAtEnd (remaining (inner_of after))

-- The reader has failed, or its reads are spent, and no octet is held: no read since then gave nothing.
pub record CannotReadOn {R : Type 0} (before after : Checked R) (held : List ℕ) : Type 0 where
  pub empty : held ≡ []
  pub failed : (has_failed after ≡ true) ⊎ (most_reads ≤ reads_of after)
  pub unended : ends_of after ≡ ends_of before

-- The state of the reader is as `Reading` says.
abbrev pub ReaderStands : {R : Type 0} → (R → Option (List ℕ)) → Reading → Checked R → Checked R → List ℕ → Type 0
ReaderStands remaining Open before after held = CanReadOn before after
ReaderStands remaining AtEnd before after held = MetEnd remaining before after held
ReaderStands remaining Failed before after held = CannotReadOn before after held
