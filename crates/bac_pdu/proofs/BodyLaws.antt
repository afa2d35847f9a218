-- Reading bodies: the result is what the relation of the service says, or the first fault.
use Rattle.std.proofs.Common.{[], ap, append-nil, append_assoc, arith, Bool, cond, Err, false, flat_map, IfSome, inl}
use Rattle.std.proofs.Common.{inr, length, length-append, List, None, Ok, ok_or, Option, refl, Result, Some, subst, sym}
use Rattle.std.proofs.{Common.{true, ℕ, ◌++◌, ◌↔◌, ◌∙◌, ◌∷◌, ◌≡◌, ◌≤◌, ◌⊎◌}, lemmas.Bool.false_from_ne_true}
use Rattle.std.{proofs.lemmas.{Bool.iff_false, Option.none-some}, specs.{List.AllByRecursion, Result.result_ok}}
use Rattle.bac_wire.proofs.ItemLaws.{enclosed_no_number, enclosed_reader, IsStep, no_number, no_object, no_octets}
use Rattle.bac_wire.{proofs.ItemLaws.{number_reader, object_reader}, specs.behind_opening}
use Rattle.bac_wire.specs.{enclosed_at, number_at, object_at, SpellsAll, Front.{Begins, IsReader, SpellsTo}}
use Rattle.bac_pdu.specs.{ack_of, InvalidTag, is_priority, IsAckBody, IsFirst, IsOutcome, IsPriority, IsReadBody}
use Rattle.bac_pdu.specs.{IsWriteBody, LacksReference, MissingParameter, numbered, object as object_parameter}
use Rattle.bac_pdu.specs.{optional_at, or_none, Order, order_parameters, OutOfRange, read_of, ReadAck, ReadFault}
use Rattle.bac_pdu.specs.{Reference, reference_at, reference_parameters, RejectReason, SpellsParameter, TooMany}
use Rattle.bac_pdu.specs.{unless_missing, value, whole_of, write_of, WriteFault, ◌>>=◌}
use Rattle.bac_pdu.specs.{declared.reject.RejectReason.TheVariants.UnknownService, Inner.optional, Parameter.Parameter}

-- ---- one spelling after the other

module _ {A : Type 0} (Spells : List ℕ → A → Type 0) where
  pub then_to : (octets mid rest : List ℕ) (xs ys : List A) → SpellsTo Spells octets xs mid
      → SpellsTo Spells mid ys rest → SpellsTo Spells octets (xs ++ ys) rest
  then_to _ _ rest [] ys s t = subst (λ (w : List ℕ). SpellsTo Spells w ys rest) (sym s) t
  then_to _ _ _ (x ∷ xs) ys (next, first, later) t = (next, first, then_to next _ _ xs _ later t)

  pub split_to : (octets rest : List ℕ) (xs ys : List A) → SpellsTo Spells octets (xs ++ ys) rest
      → (mid : List ℕ) × SpellsTo Spells octets xs mid × SpellsTo Spells mid ys rest
  split_to octets _ [] ys s = (octets, refl, s)
  split_to _ _ (x ∷ xs) ys (next, first, later) =
      let (mid, others, behind) = split_to next _ xs _ later in (mid, (next, first, others), behind)

  -- the spellings at the front are one list, and the rest follows
  pub to_front : (octets rest : List ℕ) (xs : List A) → SpellsTo Spells octets xs rest
      → (front : List ℕ) × SpellsAll Spells front xs × (octets ≡ front ++ rest)
  to_front _ _ [] s = ([], refl, s)
  to_front _ _ (x ∷ xs) (next, first, later) =
      let (front, others, whole) = to_front next _ xs later in (
        first.front ++ front,
        (front, record { front = first.front; spelled = first.spelled; whole = refl }, others),
        first.whole ∙ ap (λ (w : List ℕ). first.front ++ w) whole ∙ sym (append_assoc _ front _),
      )

  pub from_front : (octets front rest : List ℕ) (xs : List A)
      → octets ≡ front ++ rest → SpellsAll Spells front xs → SpellsTo Spells octets xs rest
  from_front _ _ rest [] e s = e ∙ ap (λ (w : List ℕ). w ++ rest) s
  from_front _ front rest (x ∷ xs) e (next, first, later) =
      grind (arith, append_assoc, from_front (next ++ rest) next _ xs refl later)

-- ---- a whole body

-- the record that was read, if nothing is left
pub whole_ended : {A : Type 0} (x y : A) (rest : List ℕ) → whole_of x rest ≡ Some y → (rest ≡ []) × (x ≡ y)
whole_ended = grind (arith, none-some)

-- ---- what is written

module _ {A : Type 0} (Spells : List ℕ → A → Type 0) (plain : A → List ℕ) (Is : A → Type 0)
    (spell : (x : A) → Is x → Spells (plain x) x) where
  -- the spellings of the list, and then the rest
  pub all_spell : (xs : List A) (rest : List ℕ) → AllByRecursion Is xs
      → SpellsTo Spells (flat_map plain xs ++ rest) xs rest
  all_spell [] _ h = refl
  all_spell (x ∷ xs) rest (is, are) = grind (arith, append_assoc, all_spell xs rest are)

  -- the written octets of a list spell it
  pub whole_spell : (xs : List A) → AllByRecursion Is xs → SpellsAll Spells (flat_map plain xs) xs
  whole_spell xs h = subst (λ (w : List ℕ). SpellsTo Spells w xs []) (append-nil _) (all_spell _ [] h)

-- ---- reading a parameter of ReadProperty or WriteProperty finds what its relation says

-- a reader for one kind of thing, as a step of a reader for several kinds
pub reader_step : {A P : Type 0} {Spells : List ℕ → P → Type 0} {Kind : List ℕ → A → Type 0}
    {at : List ℕ → Option (A × List ℕ)} (made : A → P) → IsReader Kind at
    → ((front : List ℕ) (x : A) → Kind front x → Spells front (made x))
    → ((front : List ℕ) (x : A) → Spells front (made x) → Kind front x) → IsStep Spells made at
reader_step {at} _ reader to from = record {
  takes = λ octets x rest e. let t = reader.takes _ x _ e in
      record { front = t.front; spelled = to _ x t.spelled; whole = t.whole };
  again = λ octets x rest b. ap at b.whole ∙ reader.again _ x _ (from _ x b.spelled);
}

pub object_step : IsStep SpellsParameter object_parameter (object_at 0)
object_step = reader_step _ (object_reader 0) (λ front x s. s) (λ front x s. s)

pub numbered_step : (number : ℕ) → IsStep SpellsParameter (numbered number) (number_at number)
numbered_step _ = reader_step _ (number_reader _) (λ front x s. s) (λ front x s. s)

pub value_step : IsStep SpellsParameter value (enclosed_at 3)
value_step = reader_step _ (enclosed_reader 3) (λ front x s. s) (λ front x s. s)

-- ---- a number that may be absent

module _ (number : ℕ) (made : ℕ → Parameter) (step : IsStep SpellsParameter made (number_at number)) where
  optional_begins_at : (octets : List ℕ) (read : Option (ℕ × List ℕ)) → number_at number octets ≡ read
      → (let (i, rest) = or_none octets read in SpellsTo SpellsParameter octets (optional made i) rest)
  optional_begins_at = grind arith

  -- a number that may be absent is spelled at the front if it was read
  pub optional_begins : (octets : List ℕ)
      → (let (i, rest) = optional_at number octets in SpellsTo SpellsParameter octets (optional made i) rest)
  optional_begins _ = optional_begins_at _ _ refl

  pub optional_read : (octets : List ℕ) (i : Option ℕ) (rest : List ℕ)
      → SpellsTo SpellsParameter octets (optional made i) rest
      → (i ≡ None → number_at number rest ≡ None) → optional_at number octets ≡ (i, rest)
  optional_read _ None _ s none = rw (ap (number_at _) s ∙ none refl) (cc)
  optional_read _ (Some n) _ (_, first, last) none = rw (step.again _ n _ first) (cc)

-- ---- results

pub and_then_ok : {A B : Type 0} (r : Result A RejectReason) (f : A → Result B RejectReason) (y : B)
    → (r >>= f) ≡ Ok y → (x : A) × (r ≡ Ok x) × (f x ≡ Ok y)
and_then_ok = grind arith

pub and_then_err : {A B : Type 0} (r : Result A RejectReason) (f : A → Result B RejectReason) (reason : RejectReason)
    → (r >>= f) ≡ Err reason → (r ≡ Err reason) ⊎ ((x : A) × (r ≡ Ok x) × (f x ≡ Err reason))
and_then_err = grind arith

pub needs_ok : {A : Type 0} (octets : List ℕ) (found : Option A) (x : A) → (octets ≡ [] → found ≡ None) → found ≡ Some x
    → unless_missing octets found ≡ Ok x
needs_ok = grind (arith, none-some)

-- the result of a step, if octets are left
pub step_ok : {A P : Type 0} {Spells : List ℕ → P → Type 0} {made : A → P} {at : List ℕ → Option (A × List ℕ)}
    → IsStep Spells made at
    → at [] ≡ None → (octets : List ℕ) (x : A) (rest : List ℕ) → Begins Spells octets (made x) rest
    → unless_missing octets (at octets) ≡ Ok (x, rest)
step_ok {at} step none _ x rest b = needs_ok _ _ (x, rest) (λ e. ap at e ∙ none) (step.again _ x _ b)

pub needs_takes : {A : Type 0} (octets : List ℕ) (found : Option A) (x : A) → unless_missing octets found ≡ Ok x
    → found ≡ Some x
needs_takes = grind arith

pub needs_fails : {A : Type 0} (octets : List ℕ) (found : Option A) (reason : RejectReason)
    → unless_missing octets found ≡ Err reason
    → ((reason ≡ MissingParameter) × (octets ≡ [])) ⊎ ((reason ≡ InvalidTag) × (found ≡ None) × (octets ≡ [] → ⊥))
needs_fails = grind arith

-- the result, if no octet is left
abbrev pub ended : {A : Type 0} → A → List ℕ → Result A RejectReason
ended x rest = ok_or (whole_of x rest) TooMany

pub ended_ok : {A : Type 0} (x y : A) (rest : List ℕ) → ended x rest ≡ Ok y → (rest ≡ []) × (x ≡ y)
ended_ok = grind arith

pub ended_err : {A : Type 0} (x : A) (rest : List ℕ) (reason : RejectReason) → ended x rest ≡ Err reason
    → (reason ≡ TooMany) × (rest ≡ [] → ⊥)
ended_err = grind arith

-- ---- the outcome of a body

-- a function that reads a body: it accepts exactly the whole ones; if it fails, the body has that fault and no earlier
-- one
pub record IsJudge {A : Type 0} (IsWhole : List ℕ → A → Type 0) (HasFault : List ℕ → RejectReason → Type 0)
    (of : List ℕ → Result A RejectReason) : Type 0 where
  pub takes : (body : List ℕ) (x : A) → of body ≡ Ok x → IsWhole body x
  pub again : (body : List ℕ) (x : A) → IsWhole body x → of body ≡ Ok x
  pub fault : (body : List ℕ) (reason : RejectReason) → of body ≡ Err reason → HasFault body reason
  pub range : (body : List ℕ) → HasFault body OutOfRange → of body ≡ Err OutOfRange
  pub late : (body : List ℕ) (reason : RejectReason) → HasFault body TooMany → of body ≡ Err reason → (reason ≡ TooMany)
      ⊎ (reason ≡ OutOfRange)
  pub missing : (body : List ℕ) → HasFault body MissingParameter → of body ≡ Err MissingParameter
  pub invalid : (body : List ℕ) → HasFault body InvalidTag
  pub unknown : (body : List ℕ) → HasFault body UnknownService → ⊥

-- the reason is the first that applies, in this order
abbrev IsRejectReason : (List ℕ → RejectReason → Type 0) → List ℕ → RejectReason → Type 0
IsRejectReason HasFault body reason =
    IsFirst (HasFault body) (OutOfRange ∷ TooMany ∷ MissingParameter ∷ InvalidTag ∷ []) reason

one_reason : {A : Type 0} (r : Result A RejectReason) (a b : RejectReason) → r ≡ Err a → r ≡ Err b → a ≡ b
one_reason = grind arith

module _ {A : Type 0} {IsWhole : List ℕ → A → Type 0} {HasFault : List ℕ → RejectReason → Type 0}
    {of : List ℕ → Result A RejectReason} (judge : IsJudge IsWhole HasFault of) (body : List ℕ) where
  rejected : (reason : RejectReason) → of body ≡ Err reason → IsRejectReason HasFault body reason
  rejected = grind (arith, one_reason)

  -- the result of reading is the outcome
  outcome_found : (o : Result A RejectReason) → of body ≡ o → IsOutcome IsWhole HasFault body o
  outcome_found = grind (arith, rejected)

  outcome_read : (read o : Result A RejectReason) → of body ≡ read → IsOutcome IsWhole HasFault body o → read ≡ o
  outcome_read _ (Ok x) e is = sym e ∙ judge.again _ x is.whole
  outcome_read (Ok y) (Err reason) e is = let two = is.all y (judge.takes _ y e) in absurd cc
  outcome_read (Err other) (Err reason) e is = grind (arith, rejected)

  -- a body has one outcome
  pub outcome_is : (o : Result A RejectReason) → (of body ≡ o) ↔ IsOutcome IsWhole HasFault body o
  outcome_is o = (outcome_found o, outcome_read _ o refl)

-- ---- the reference

pub reference_takes : (body : List ℕ) (r : Reference) (rest : List ℕ) → reference_at body ≡ Ok (r, rest)
    → SpellsTo SpellsParameter body (reference_parameters r) rest
unfolding reference_at
reference_takes body r rest e =
    let ((object, behind), object_read, more) = and_then_ok _ _ _ e in
    let ((property, after), property_read, made) = and_then_ok _ _ _ more in
    let (index, last) = optional_at 2 after in
    let same : ◌≡◌ {A = Reference × List ℕ} (record { object = object; property = property; index = index }, last)
    (r, rest) = cc in
    let first = object_step.takes body _ _ (needs_takes body _ (object, behind) object_read) in
    let second = (numbered_step 1).takes _ _ after (needs_takes behind _ (property, after) property_read) in
    subst (λ ((r, rest) : Reference × List ℕ). SpellsTo SpellsParameter body (reference_parameters r) rest) same
    (behind, first, (after, second, optional_begins 2 _ (numbered_step 2) after))

-- after a reference no more octets are left than the body has
pub reference_no_longer : (body rest : List ℕ) (r : Reference) → Ok (r, rest) ≡ reference_at body
    → length rest ≤ length body
reference_no_longer body rest r e =
    let front = to_front _ _ _ (reference_parameters r) (reference_takes body r rest (sym e)) in
    grind (arith, length-append)

pub reference_again : (body : List ℕ) (r : Reference) (rest : List ℕ)
    → SpellsTo SpellsParameter body (reference_parameters r) rest
    → (r.index ≡ None → number_at 2 rest ≡ None) → reference_at body ≡ Ok (r, rest)
unfolding reference_at
reference_again _ r _ (_, object, (_, property, index)) none =
    let read = step_ok (numbered_step 1) (no_number 1) _ _ _ property in
    rw (step_ok object_step (no_object 0) _ _ _ object, read, optional_read _ _ (numbered_step 2) _ _ _ index none) refl

pub reference_lacks : (body : List ℕ) → LacksReference body → reference_at body ≡ Err MissingParameter
unfolding reference_at
reference_lacks _ lacks = elim lacks [
  | inl empty ↦ rw empty refl
  | inr (_, (_, object, alone)) ↦ rw (step_ok object_step (no_object 0) _ _ _ object, alone) refl
]

pub reference_fails : (body : List ℕ) (reason : RejectReason) → reference_at body ≡ Err reason
    → ((reason ≡ MissingParameter) × LacksReference body) ⊎ (reason ≡ InvalidTag)
unfolding reference_at
reference_fails body _ e =
    elim (and_then_err _ _ _ e) [
      | inl first ↦ elim (needs_fails body (object_at 0 body) _ first)
          [ inl (missing, empty) ↦ inl (missing, inl empty) | inr (invalid, _, _) ↦ inr invalid ]
      | inr ((object, behind), read, more) ↦ elim (and_then_err _ _ _ more) [
        | inl second ↦ elim (needs_fails behind (number_at 1 behind) _ second) [
          | inl (missing, empty) ↦
              inl (missing, inr (object, (behind, object_step.takes _ _ _ (needs_takes _ _ _ read), empty)))
          | inr (invalid, _, _) ↦ inr invalid
        ]
        | inr b ↦ absurd cc
      ]
    ]

-- ---- ReadProperty

pub read_again : (body : List ℕ) (r : Reference) → IsReadBody body r → read_of body ≡ Ok r
unfolding read_of
read_again _ r s = rw (reference_again _ r [] s (λ none. no_number 2)) refl

read_fault : (body : List ℕ) (reason : RejectReason) → read_of body ≡ Err reason → ReadFault body reason
unfolding read_of
read_fault body _ e =
    elim (and_then_err _ _ _ e) [
      | inl first ↦ elim (reference_fails body _ first)
          [ inl (missing, lacks) ↦ rw missing lacks | inr invalid ↦ rw invalid tt ]
      | inr ((r, rest), read, ended) ↦
          let (too_many, left) = ended_err _ _ _ ended in
          let (front, spelled, whole) = to_front _ _ _ (reference_parameters _) (reference_takes _ _ _ read) in
          rw too_many (r, rest, record { front = front; spelled = spelled; whole = whole }, left)
    ]

read_judge : IsJudge IsReadBody ReadFault read_of
unfolding read_of reference_at
read_judge = record {
  takes = λ body r e.
      let (_, read, ended) = and_then_ok _ _ _ e in
      let (all, same) = ended_ok _ _ _ ended in
      subst (IsReadBody _) same (rw all at (reference_takes _ _ _ read));
  again = read_again;
  fault = read_fault;
  range = λ body. absurd;
  late = λ body reason (_, _, b, _) e.
      let (_, object, (_, property, _)) = from_front _ _ _ _ (reference_parameters _) b.whole b.spelled in
      let (too_many, _) = ended_err _ _ _ (rw (
        step_ok object_step (no_object 0) _ _ _ object,
        step_ok (numbered_step 1) (no_number 1) _ _ _ property,
      ) at e) in
      inl too_many;
  missing = λ body lacks. rw (reference_lacks _ lacks) refl;
  invalid = λ body. tt;
  unknown = λ body h. h;
}

pub read_is : (body : List ℕ) (o : Result Reference RejectReason)
    → (read_of body ≡ o) ↔ IsOutcome IsReadBody ReadFault body o
read_is = outcome_is read_judge

-- ---- a reference and a value

pub value_takes : (body x v rest last : List ℕ) (r : Reference) (others : List Parameter)
    → reference_at body ≡ Ok (r, x)
    → enclosed_at 3 x ≡ Some (v, rest) → SpellsTo SpellsParameter rest others last
    → SpellsTo SpellsParameter body (reference_parameters r ++ value v ∷ others) last
value_takes _ x v rest _ r _ e f s =
    then_to _ _ x _ (reference_parameters r) _ (reference_takes _ r x e) (rest, value_step.takes x v _ f, s)

pub value_again : (body v last : List ℕ) (r : Reference) (others : List Parameter)
    → SpellsTo SpellsParameter body (reference_parameters r ++ value v ∷ others) last
    → (x : List ℕ) × (rest : List ℕ) × (reference_at body ≡ Ok (r, x)) × Begins SpellsParameter x (value v) rest
    × SpellsTo SpellsParameter rest others last
value_again _ v _ r _ s =
    let (behind, named, (rest, b, more)) = split_to _ _ _ (reference_parameters r) _ s in
    let read = reference_again _ r _ named (λ none. enclosed_no_number 2 3 _ _ v _ b.spelled b.whole) in
    (behind, rest, read, b, more)

-- ---- ReadProperty-ACK

ok_found : {A : Type 0} (r : Result A RejectReason) (x : A) → result_ok r ≡ Some x → r ≡ Ok x
ok_found = grind arith

pub no_value : enclosed_at 3 [] ≡ None
unfolding enclosed_at behind_opening
no_value = rw no_octets refl

-- a value that was read is not missing
pub value_there : (octets : List ℕ) (x : List ℕ × List ℕ) → enclosed_at 3 octets ≡ Some x
    → unless_missing octets (enclosed_at 3 octets) ≡ Ok x
value_there _ x = needs_ok _ _ x (λ empty. ap (enclosed_at 3) empty ∙ no_value)

-- the result of reading an answer is what the relation says
pub ack_is : (body : List ℕ) (a : ReadAck) → (ack_of body ≡ Some a) ↔ IsAckBody body a
unfolding ack_of
ack_is _ a = (
  λ e.
      let (_, named, more) = and_then_ok _ _ _ (ok_found _ _ e) in
      let (_, valued, ended) = and_then_ok _ _ _ more in
      let (all, same) = ended_ok _ _ _ ended in
      rw (← same) (value_takes _ _ _ _ [] _ [] named (needs_takes _ _ _ valued) all),
  λ s.
      let (_, _, named, valued, all) = value_again _ _ [] _ [] s in
      rw (named, step_ok value_step no_value _ _ _ valued, all) refl,
)

-- ---- WriteProperty

write_again_at : (body : List ℕ) (o : Order) → SpellsAll SpellsParameter body (order_parameters o)
    → write_of body ≡ cond (is_priority o.priority) (Ok o) (Err OutOfRange)
unfolding write_of
write_again_at _ o s =
    let (_, _, named, valued, last) = value_again _ _ [] _ _ s in
    let read = optional_read _ _ (numbered_step 4) _ _ [] last (λ none. no_number 4) in
    rw (named, step_ok value_step no_value _ _ _ valued, read) refl

priority_is : (p : Option ℕ) → (is_priority p ≡ true) ↔ IfSome p IsPriority
priority_is = grind arith

pub write_again : (body : List ℕ) (o : Order) → IsWriteBody body o → write_of body ≡ Ok o
write_again _ o s = write_again_at _ _ s.spelled ∙ rw ((priority_is _).1 s.urgent) refl

-- ---- the steps of reading

abbrev write_end : Reference → List ℕ → Option ℕ → Result Order RejectReason
write_end r v p = cond (is_priority p) (Ok (record { reference = r; value = v; priority = p })) (Err OutOfRange)

abbrev write_behind : Reference → List ℕ × List ℕ → Result Order RejectReason
write_behind r (v, rest) = let (priority, last) = optional_at 4 rest in ended priority last >>= write_end r v

in_range : (b : Bool) (o x : Order) → cond b (Ok o) (Err OutOfRange) ≡ Ok x → (b ≡ true) × (o ≡ x)
in_range = grind arith

out_of_range : (b : Bool) (o : Order) (reason : RejectReason) → cond b (Ok o) (Err OutOfRange) ≡ Err reason
    → (b ≡ false) × (reason ≡ OutOfRange)
out_of_range = grind arith

-- the order that was read, if nothing follows the priority
order_takes : (body x v rest : List ℕ) (r : Reference) (p : Option ℕ) → reference_at body ≡ Ok (r, x)
    → unless_missing x (enclosed_at 3 x) ≡ Ok (v, rest)
    → (let (priority, last) = optional_at 4 rest in ended priority last ≡ Ok p)
    → SpellsAll SpellsParameter body (reference_parameters r ++ value v ∷ optional (numbered 4) p)
order_takes _ x v rest r p named valued e =
    let (priority, last) = optional_at 4 rest in
    let (all, same) = ended_ok priority p last e in
    value_takes _ x v _ [] r _ named (needs_takes x _ (v, rest) valued)
    (rw (all, same) at (optional_begins 4 _ (numbered_step 4) rest))

write_takes : (body : List ℕ) (o : Order) → write_of body ≡ Ok o → IsWriteBody body o
unfolding write_of
write_takes _ o e =
    let (_, named, more) = and_then_ok _ _ o e in
    let (_, valued, last) = and_then_ok _ _ o more in
    let (priority, ended, made) = and_then_ok _ _ o last in
    let (good, same) = in_range _ _ o made in
    rw (← same) (record { spelled = order_takes _ _ _ _ _ _ named valued ended; urgent = (priority_is _).0 good })

-- ---- the faults

-- more octets follow the body
write_more : (body x v rest : List ℕ) (r : Reference) → reference_at body ≡ Ok (r, x)
    → unless_missing x (enclosed_at 3 x) ≡ Ok (v, rest)
    → (let (_, last) = optional_at 4 rest in last ≡ [] → ⊥) → WriteFault body TooMany
write_more _ x v rest r named valued left =
    let (front, spelled, whole) = to_front _ _ _ (reference_parameters r ++ value v ∷ [])
    (value_takes _ x v _ _ r [] named (needs_takes x _ (v, rest) valued) refl) in
    let some : rest ≡ [] → ⊥ = grind (arith, no_number) in (
      record { reference = r; value = v; priority = None },
      rest,
      record { front = front; spelled = record { spelled = spelled; urgent = tt }; whole = whole },
      some,
    )

write_fault : (body : List ℕ) (reason : RejectReason) → write_of body ≡ Err reason → WriteFault body reason
unfolding write_of
write_fault body reason e =
    elim (and_then_err (reference_at body) _ reason e) [
      | inl first ↦ elim (reference_fails body reason first)
          [ inl (missing, lacks) ↦ rw missing (inl lacks) | inr invalid ↦ rw invalid tt ]
      | inr ((r, x), named, more) ↦ elim (and_then_err _ (write_behind r) reason more) [
        | inl second ↦ elim (needs_fails x _ reason second) [
          | inl (missing, empty) ↦ rw missing (grind (arith, reference_takes))
          | inr (invalid, _, _) ↦ rw invalid tt
        ]
        | inr ((v, rest), valued, end) ↦ let (priority, last) = optional_at 4 rest in
            elim (and_then_err _ _ reason end) [
              | inl third ↦ let (too_many, left) = ended_err priority last reason third in
                  rw too_many (write_more body x v rest r named valued left)
              | inr (p, ended, made) ↦
                  let o : Order = record { reference = r; value = v; priority = p } in
                  let (bad, out) = out_of_range (is_priority p) o reason made in
                  rw out (o, order_takes body x v rest r p named valued ended, iff_false (priority_is p) bad)
            ]
      ]
    ]

write_late : (body : List ℕ) (reason : RejectReason) → WriteFault body TooMany → write_of body ≡ Err reason
    → (reason ≡ TooMany) ⊎ (reason ≡ OutOfRange)
unfolding write_of
write_late _ _ (o, rest, b, _) e =
    let (_, after, named, valued, _) = value_again _ _ rest _ _
    (from_front _ _ _ rest (order_parameters o) b.whole b.spelled.spelled) in
    let (priority, last) = optional_at 4 after in
    elim (and_then_err _ _ _ (rw (named, step_ok value_step no_value _ _ _ valued) at e)) [
      | inl third ↦ let (too_many, _) = ended_err priority last _ third in inl too_many
      | inr (_, _, made) ↦ let (_, out) = out_of_range _ _ _ made in inr out
    ]

write_judge : IsJudge IsWriteBody WriteFault write_of
unfolding write_of
write_judge = record {
  takes = write_takes;
  again = write_again;
  fault = write_fault;
  range = λ body (_, spelled, bad).
      write_again_at _ _ spelled ∙ rw (false_from_ne_true _ (λ good. bad ((priority_is _).0 good))) refl;
  late = write_late;
  missing = λ body h. elim h [
    | inl lacks ↦ rw (reference_lacks _ lacks) refl
    | inr (_, named) ↦ rw (reference_again _ _ [] named (λ none. no_number 2)) refl
  ];
  invalid = λ body. tt;
  unknown = λ body h. h;
}

pub write_is : (body : List ℕ) (o : Result Order RejectReason)
    → (write_of body ≡ o) ↔ IsOutcome IsWriteBody WriteFault body o
write_is = outcome_is write_judge
