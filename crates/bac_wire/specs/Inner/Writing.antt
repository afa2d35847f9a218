-- The effect of a part of a writer, before the writer removes what does not fit.
use Rattle.std.specs.Prelude.{◌≡◌, ℕ, ◌+◌, ◌<◌, ◌≤◌, List, ◌++◌, length, take, Result, OnOk, OnErr}
use Rattle.bac_wire.specs.Limits.{frame_room}

-- Like `Appends`, but if there is no room, some octets may have been appended.
pub record AppendsFront {A E : Type 0} (old octets new : List ℕ) (result : Result A E) : Type 0 where
  pub ok : OnOk result (new ≡ old ++ octets)
  pub fits : OnOk result (length old + length octets ≤ frame_room)
  pub full : OnErr result (frame_room < length old + length octets)
  pub long : length old ≤ length new
  pub kept : take (length old) new ≡ old
