-- The state of a point after writes: the sixteen places of its priority array, and its present value (clause 19.2).
use Rattle.std.specs.{List.{AllByRecursion, last_or}, Option.{ok_or, option_and_then, option_flatten}}
use Rattle.std.specs.Prelude.{[], Bool, Err, false, filter, find, if◌then◌else◌, is_some, List, map, None, not, Ok}
use Rattle.std.specs.Prelude.{Option, Result, slice_get, slice_set, Some, unwrap_or, ℕ, ◌&&◌, ◌-◌, ◌==◌, ◌||◌, ◌∷◌, ◌≡◌}
use Rattle.bac_wire.specs.Identifier.{Identifier}
use Rattle.bac_device.specs.declared.failure.Failure.{Failure, TheVariants.{OutOfRange, WrongType}}
use Rattle.bac_device.specs.{Kind.{allows, is_commandable, one_value, place_in}, Point.{Description, same_object}}
use Rattle.bac_pdu.specs.{◌>>=◌}

-- A write of a present value that was accepted; the value None is NULL.
pub record Write : Type 0 where
  pub object : Identifier
  pub priority : ℕ
  pub value : Option ℕ

-- Whether the write is to the object at the priority.
abbrev pub is_to : Identifier → ℕ → Write → Bool
is_to object priority write = same_object object write.object && (priority == write.priority)

-- The value of the last write to the object at the priority; NULL if there was no such write.
unfoldable pub place : List Write → Identifier → ℕ → Option ℕ
place writes object priority =
    option_and_then (λ write. write.value) (last_or None (filter (is_to object priority) writes))

-- None of the writes is to the object.
abbrev pub NoneTo : Identifier → List Write → Type 0
NoneTo object writes = AllByRecursion (λ write. same_object object write.object ≡ false) writes

-- The sixteen priorities: 1 is the most urgent.
abbrev pub priorities : List ℕ
priorities = 1 ∷ 2 ∷ 3 ∷ 4 ∷ 5 ∷ 6 ∷ 7 ∷ 8 ∷ 9 ∷ 10 ∷ 11 ∷ 12 ∷ 13 ∷ 14 ∷ 15 ∷ 16 ∷ []

-- A point, and its places from priority 1 to 16.
pub record Standing : Type 0 where
  pub point : Description
  pub places : List (Option ℕ)

-- A point after these writes.
unfoldable pub standing_after : List Write → Description → Standing
standing_after writes point = record { point = point; places = map (place writes point.object) priorities }

-- The number of the present value: the first place that is not NULL, else the value that the point started with.
abbrev pub present : Standing → ℕ
present standing = unwrap_or (option_flatten (find is_some standing.places)) standing.point.start

-- ---- the value in a place, and one write

-- The value in the place of this priority. `None` if the point has no such place.
unfoldable pub place_at : Standing → ℕ → Option (Option ℕ)
place_at standing priority =
    if not (is_commandable standing.point.kind.role) || priority == 0 then None
    else slice_get standing.places (priority - 1)

-- The number, if the point allows it; NULL is always allowed.
abbrev pub in_range : Description → Option ℕ → Result (Option ℕ) Failure
in_range point None = Ok None
in_range point (Some n) = if allows point.kind.family point.extra n then Ok (Some n) else Err OutOfRange

-- The number that the octets put in a place of the point, or NULL. The octets must be one value, which is NULL or of
-- the point's type and in its range.
unfoldable pub written_value : Description → List ℕ → Result (Option ℕ) Failure
written_value point octets =
    ok_or (option_and_then (place_in point.kind.family) (one_value octets)) WrongType >>= in_range point

-- The point, with this value in the place of this priority.
abbrev pub with_place : Standing → ℕ → Option ℕ → Standing
with_place standing priority value = record standing { places = slice_set standing.places (priority - 1) value }

-- The point after one more write, which may be to another point.
abbrev pub put : Write → Standing → Standing
put write standing =
    if same_object standing.point.object write.object then with_place standing write.priority write.value else standing
