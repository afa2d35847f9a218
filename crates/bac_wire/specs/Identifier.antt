-- An object's identifier: its type and its instance (ANSI/ASHRAE 135, 20.2.14).
use Rattle.std.specs.Prelude.{◌%◌, ◌*◌, ◌+◌, ◌/◌, ◌<◌, ◌^◌, ℕ}
use Rattle.bac_wire.specs.declared.object_id.ObjectId.{ObjectId}

-- An identifier as two numbers.
pub record Identifier : Type 0 where
  pub kind : ℕ
  pub instance : ℕ

-- The two numbers of an `ObjectId`.
abbrev pub identifier : ObjectId → Identifier
identifier id = record { kind = id.kind; instance = id.instance }

-- The identifiers that exist: ten bits of type and 22 of instance.
pub record IsIdentifier (id : Identifier) : Type 0 where
  pub kind : id.kind < 1024
  pub instance : id.instance < 2 ^ 22

-- The number of an identifier on the wire: the type in the high bits, the instance in the low 22.
abbrev pub number_of : Identifier → ℕ
number_of id = id.kind * 2 ^ 22 + id.instance

-- The identifier in a number of 32 bits.
abbrev pub identifier_of : ℕ → Identifier
identifier_of n = record { kind = n / 2 ^ 22; instance = n % 2 ^ 22 }
