-- The bodies of ReadProperty, its answer and WriteProperty: their parameters in their order (clauses 15.5, 15.9 and
-- 21).
use Rattle.std.specs.{List.flat_map, Option.{option_map, option_to_list}}
use Rattle.std.specs.Prelude.{[], IfSome, List, Option, ℕ, ◌++◌, ◌∷◌, ◌≤◌}
use Rattle.bac_wire.specs.{identifier, plain_tag, SpellsAll, declared.object_id.ObjectId.ObjectId}
use Rattle.bac_wire.specs.{Identifier.Identifier, Region.{closing_tag, opening_tag}}
use Rattle.bac_pdu.specs.declared.property.{Ack.Ack, ReadRequest.ReadRequest, WriteRequest.WriteRequest}
use Rattle.bac_pdu.specs.Parameter.{numbered, object, Parameter, plain_parameter, SpellsParameter, value}

-- A property of an object, or an element of it.
pub record Reference : Type 0 where
  pub object : Identifier
  pub property : ℕ
  pub index : Option ℕ

-- The contents of a ReadProperty-ACK: a property, and its value.
pub record ReadAck : Type 0 where
  pub reference : Reference
  pub value : List ℕ

-- The contents of a WriteProperty: a property, its new value, and the priority of the write.
pub record Order : Type 0 where
  pub reference : Reference
  pub value : List ℕ
  pub priority : Option ℕ

-- ---- the records of the code as those of these definitions

-- A property with its object, number and index.
abbrev pub named : ObjectId → ℕ → Option ℕ → Reference
named id number element = record { object = identifier id; property = number; index = element }

-- A `ReadRequest` of the code as a reference.
abbrev pub reference : ReadRequest → Reference
reference r = named r.object r.property r.index

-- An `Ack` of the code as a ReadAck.
abbrev pub ack_seen : Ack → ReadAck
ack_seen a = record { reference = named a.object a.property a.index; value = a.value.now }

-- A `WriteRequest` of the code as an order.
abbrev pub order : WriteRequest → Order
order w = record { reference = named w.object w.property w.index; value = w.value.now; priority = w.priority }

-- ---- the parameters in their order

-- The object, the property under tag 1 and, if it is an element, its index under tag 2.
abbrev pub reference_parameters : Reference → List Parameter
reference_parameters r = object r.object ∷ numbered 1 r.property ∷ option_to_list (option_map (numbered 2) r.index)

-- The parameters of a ReadProperty-ACK.
abbrev pub ack_parameters : ReadAck → List Parameter
ack_parameters a = reference_parameters a.reference ++ value a.value ∷ []

-- The parameters of a WriteProperty.
abbrev pub order_parameters : Order → List Parameter
order_parameters o =
    reference_parameters o.reference ++ value o.value ∷ option_to_list (option_map (numbered 4) o.priority)

-- ---- the bodies

-- The body of a ReadProperty.
abbrev pub IsReadBody : List ℕ → Reference → Type 0
IsReadBody body r = SpellsAll SpellsParameter body (reference_parameters r)

-- The body of a ReadProperty-ACK.
abbrev pub IsAckBody : List ℕ → ReadAck → Type 0
IsAckBody body a = SpellsAll SpellsParameter body (ack_parameters a)

-- The priorities of a write: 1 is the most urgent (clause 19.2).
abbrev pub IsPriority : ℕ → Type 0
IsPriority n = (1 ≤ n) × (n ≤ 16)

-- The body of a WriteProperty: its parameters, with a priority of 1 to 16, or none.
pub record IsWriteBody (body : List ℕ) (o : Order) : Type 0 where
  pub spelled : SpellsAll SpellsParameter body (order_parameters o)
  pub urgent : IfSome o.priority IsPriority

-- ---- the form that is written

-- The body that is written for a ReadProperty.
abbrev pub read_octets : Reference → List ℕ
read_octets r = flat_map plain_parameter (reference_parameters r)

-- The body that is written for a ReadProperty-ACK.
abbrev pub ack_octets : ReadAck → List ℕ
ack_octets a = flat_map plain_parameter (ack_parameters a)

-- The body that is written for a WriteProperty.
abbrev pub write_octets : Order → List ℕ
write_octets o = flat_map plain_parameter (order_parameters o)

-- The octets before the value in the body of a ReadProperty-ACK: the parameters, and an opening tag 3.
abbrev pub ack_front : Reference → List ℕ
ack_front r = read_octets r ++ plain_tag (opening_tag 3)

-- The octets after the value: a closing tag 3.
abbrev pub ack_end : List ℕ
ack_end = plain_tag (closing_tag 3)
