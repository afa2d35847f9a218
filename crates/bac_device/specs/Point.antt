-- A point of the device: an object with a present value.
use Rattle.std.specs.Prelude.{Bool, if◌then◌else◌, length, List, nat_le, nat_lt, None, Option, Some, ℕ, ◌&&◌, ◌==◌}
use Rattle.bac_wire.specs.{identifier, ◌>>=◌, Identifier.Identifier}
use Rattle.bac_device.specs.{declared.{kind.Kind.Kind, point.Point.Point}, Kind.{allows, allows_extra, kind_of}}
use Rattle.bac_device.specs.Limits.{longest_name, no_instance}

-- The description of a point to add.
pub record Given : Type 0 where
  pub object : Identifier
  pub name : List ℕ
  pub start : ℕ
  pub extra : ℕ

-- A `Point` of the code as a description.
abbrev pub given : Point → Given
given point = record { object = identifier point.id; name = point.name.now; start = point.start; extra = point.extra }

-- A point that a device can have.
pub record Description : Type 0 where
  pub kind : Kind
  pub object : Identifier
  pub name : List ℕ
  pub start : ℕ
  pub extra : ℕ

-- Whether two identifiers have the same type and instance.
abbrev pub same_object : Identifier → Identifier → Bool
same_object a b = (a.kind == b.kind) && (a.instance == b.instance)

-- Whether a point of this kind can have this description: its name has one to 64 octets, its instance is one that an
-- object can have, and its kind allows `extra` and `start`.
abbrev pub is_described : Kind → Given → Bool
is_described kind point =
    nat_lt 0 (length point.name) && nat_le (length point.name) longest_name
    && nat_lt point.object.instance no_instance
    && allows_extra kind.family kind.role point.extra && allows kind.family point.extra point.start

-- The point of this kind that is given.
abbrev pub described : Kind → Given → Description
described kind point =
    record { kind = kind; object = point.object; name = point.name; start = point.start; extra = point.extra }

-- The described point, if its object type is one of a point, and a point of that kind can have the description.
unfoldable pub description_of : Given → Option Description
description_of point = do
  kind ← kind_of point.object.kind
  if is_described kind point then Some (described kind point) else None
