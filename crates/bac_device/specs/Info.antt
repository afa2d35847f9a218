-- The identity of a device.
use Rattle.std.specs.Prelude.{◌<◌, ◌≤◌, length, List, ℕ}
use Rattle.bac_device.specs.Limits.{longest_name, no_instance}

-- The instance of the device's object, and its name.
pub record Info : Type 0 where
  pub instance : ℕ
  pub name : List ℕ

-- A possible identity: an instance that an object can have, and a name of one to 64 octets.
pub record IsInfo (info : Info) : Type 0 where
  pub numbered : info.instance < no_instance
  pub named : 1 ≤ length info.name
  pub short : length info.name ≤ longest_name
