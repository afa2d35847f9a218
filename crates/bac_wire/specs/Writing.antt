-- The effect of a writer.
use Rattle.std.specs.Prelude.{◌≡◌, ℕ, ◌+◌, ◌<◌, ◌≤◌, List, ◌++◌, length, Result, OnOk, OnErr}
use Rattle.bac_wire.specs.Limits.{frame_room}

-- The octets are appended, or there is no room for them and nothing has changed.
pub record Appends {A E : Type 0} (old octets new : List ℕ) (result : Result A E) : Type 0 where
  pub ok : OnOk result (new ≡ old ++ octets)
  pub fits : OnOk result (length old + length octets ≤ frame_room)
  pub full : OnErr result (frame_room < length old + length octets)
  pub err : OnErr result (new ≡ old)
