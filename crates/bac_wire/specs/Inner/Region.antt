-- One step over items: after counted octets, or after one item.
use Rattle.std.specs.Prelude.{◌++◌, ◌≡◌, ◌≤◌, drop, length, List, ℕ}
use Rattle.bac_wire.specs.Region.{IsItem}

-- The rest is the octets after this many octets.
pub record CountsBehind (count : ℕ) (octets rest : List ℕ) : Type 0 where
  pub room : count ≤ length octets
  pub rest_is : rest ≡ drop count octets

-- The octets are an item, and then this rest.
pub record LeavesBehind (depth : ℕ) (octets rest : List ℕ) : Type 0 where
  pub front : List ℕ
  pub item : IsItem depth front
  pub whole : octets ≡ front ++ rest
