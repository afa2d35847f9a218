-- The noted call of a reader or a writer; and what a write does not change.
use Rattle.std.specs.Prelude.{length, take, ◌≡◌}
use Rattle.{bac_wire.specs.result_seen, bac_print.specs.declared.{checked.Checked.Checked, noted.Made.Made}}
use Rattle.bac_print.specs.StreamCall.{FlushCall, ReadCall, StreamCall, WriteCall}
use Rattle.bac_print.specs.declared.noted.Made.TheVariants as made

-- The call, with its answer, that this note describes.
abbrev pub call_of : Made → StreamCall
call_of (made.Read room answer) = ReadCall (length room.now) (result_seen (λ count. take count room.now) answer.now)
call_of (made.Write octets answer) = WriteCall octets.now answer.now
call_of (made.Flush answer) = FlushCall answer.now

-- The facts about reads are the same as before.
abbrev pub HasNotRead : {T : Type 0} → Checked T → Checked T → Type 0
HasNotRead before after = after ≡ record before { inner = after.inner; failed = after.failed }
