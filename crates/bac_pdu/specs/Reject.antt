-- Why the body of a confirmed request is rejected (clause 18.9; this project chooses which reason a body gets).
use Rattle.std.specs.Prelude.{[], IfErr, IfOk, IfSome, List, Ok, Result, ℕ, ◌∷◌, ◌≡◌, ◌≢◌, ◌⊎◌}
use Rattle.bac_wire.specs.{SpellsAll, Front.Begins, Identifier.Identifier}
use Rattle.bac_pdu.specs.declared.reject.RejectReason.{RejectReason, TheVariants.{InvalidTag, MissingParameter}}
use Rattle.bac_pdu.specs.declared.reject.RejectReason.TheVariants.{OutOfRange, TooMany, UnknownService}
use Rattle.bac_pdu.specs.Parameter.{object, SpellsParameter}
use Rattle.bac_pdu.specs.Property.{IsPriority, IsReadBody, IsWriteBody, Order, order_parameters, Reference}

-- The number of the reason in a Reject (clause 18.9).
abbrev pub reason_number : RejectReason → ℕ
reason_number InvalidTag = 4
reason_number MissingParameter = 5
reason_number OutOfRange = 6
reason_number TooMany = 7
reason_number UnknownService = 9

-- The body has more octets than it should: a whole body, and more after it.
abbrev pub HasMore : {A : Type 0} → (List ℕ → A → Type 0) → List ℕ → Type 0
HasMore {A} IsWhole body = (x : A) × (rest : List ℕ) × Begins IsWhole body x rest × (rest ≢ [])

-- The body is empty, or only an object.
abbrev pub LacksReference : List ℕ → Type 0
LacksReference body = (body ≡ []) ⊎ ((id : Identifier) × SpellsAll SpellsParameter body (object id ∷ []))

-- The faults of the body of a ReadProperty, by reason: it has more octets than it should; no property is named; or
-- anything else. The two other reasons never apply.
abbrev pub ReadFault : List ℕ → RejectReason → Type 0
ReadFault body TooMany = HasMore IsReadBody body
ReadFault body MissingParameter = LacksReference body
ReadFault body InvalidTag = Unit {0}
ReadFault body _ = ⊥

-- The faults of the body of a WriteProperty, by reason: a priority that does not exist; more octets than it should
-- have; no property or no value; or anything else. `UnknownService` never applies.
abbrev pub WriteFault : List ℕ → RejectReason → Type 0
WriteFault body OutOfRange = (o : Order) × SpellsAll SpellsParameter body (order_parameters o)
    × (IfSome o.priority IsPriority → ⊥)
WriteFault body TooMany = HasMore IsWriteBody body
WriteFault body MissingParameter = LacksReference body ⊎ ((r : Reference) × IsReadBody body r)
WriteFault body InvalidTag = Unit {0}
WriteFault body UnknownService = ⊥

-- This is the first reason in the list that applies.
abbrev pub IsFirst : {A : Type 0} → (A → Type 0) → List A → A → Type 0
IsFirst Applies [] x = ⊥
IsFirst Applies (y ∷ ys) x = (Applies y × (x ≡ y)) ⊎ ((Applies y → ⊥) × IsFirst Applies ys x)

-- The outcome is the record in the body, or the reason to reject it: the first that applies, in this order.
pub record IsOutcome {A : Type 0} (IsWhole : List ℕ → A → Type 0) (HasFault : List ℕ → RejectReason → Type 0)
    (body : List ℕ) (outcome : Result A RejectReason) : Type 0 where
  pub whole : IfOk outcome (IsWhole body)
  pub all : (x : A) → IsWhole body x → outcome ≡ Ok x
  pub rejected : IfErr outcome (IsFirst (HasFault body) (OutOfRange ∷ TooMany ∷ MissingParameter ∷ InvalidTag ∷ []))
