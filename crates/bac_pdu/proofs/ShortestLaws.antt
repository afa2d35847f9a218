-- Writing bodies: the written octets spell the body, no spelling has fewer octets, and they are read back.
use Rattle.std.proofs.Common.{[], ap, append-nil, append_assoc, arith, Err, flat_map, IfSome, length, length-append}
use Rattle.std.proofs.Common.{List, Ok, Option, refl, Result, slice_index_or, Some, subst, sym, ℕ, ◌*◌, ◌++◌, ◌+◌, ◌<◌}
use Rattle.std.{proofs.{Common.{◌^◌, ◌∙◌, ◌∷◌, ◌≡◌, ◌≤◌}, lemmas.Grind.common_steps}, specs.List.AllByRecursion}
use Rattle.byteorder.specs.{Endian.big_bytes, Numbers.big_from-lt}
use Rattle.bac_wire.proofs.DatumLaws.{ahead, octet_count_least, plain_spells}
use Rattle.bac_wire.proofs.{ItemLaws.{enclosed_spells, number_spells, object_spells}, TagLaws.{behind, tag_least}}
use Rattle.bac_wire.specs.{Appends, enumerated, IsRegion, IsShortest, number_octets, object_octets, plain, plain_tag}
use Rattle.bac_wire.specs.{Spells, SpellsAll, unsigned, Datum.{Datum, IsDatum}, Front.{AreOctets, SpellsTo}}
use Rattle.bac_wire.specs.{Identifier.Identifier, Parameter.context_octets}
use Rattle.bac_wire.specs.Parameter.{context_tag, enclosed_octets, SpellsContext, SpellsEnclosed, SpellsIn}
use Rattle.bac_wire.specs.{Region.{closing_tag, opening_tag}, Tag.plain_number}
use Rattle.bac_pdu.proofs.BodyLaws.{ack_is, all_spell, read_again, whole_spell, write_again}
use Rattle.bac_pdu.proofs.DiscoveryLaws.{error_is, introduction_is, who_is_is}
use Rattle.bac_pdu.specs.{ack_end, ack_front, ack_octets, ack_of, ack_parameters, error_octets, error_of, i_am_octets}
use Rattle.bac_pdu.specs.{Introduction, introduction_of, introduction_values, IsAckBody, IsErrorBody, IsIAmBody}
use Rattle.bac_pdu.specs.{IsParameter, IsPriority, IsReadBody, IsWhoIsBody, IsWriteBody, numbered, Order}
use Rattle.bac_pdu.specs.{order_parameters, plain_parameter, read_octets, read_of, ReadAck, Reference}
use Rattle.bac_pdu.specs.{reference_parameters, SpellsParameter, who_is_octets, who_is_of, WhoIs, write_octets}
use Rattle.bac_pdu.specs.{write_of, Inner.{HasLimits, optional, optional_octets}, Parameter.Parameter}
use Rattle.bac_wire.specs.Datum as values
use Rattle.bac_pdu.specs.declared.discovery.WhoIs.TheVariants as limits

pub short_context : (number : ℕ) (contents : List ℕ) → number < 15 → length contents < 5
    → context_octets number contents ≡ (16 * number + (8 + length contents)) ∷ contents
unfolding plain_tag
short_context = grind arith

-- four octets
pub four_context : (number : ℕ) (contents : List ℕ) → number < 15 → length contents ≡ 4
    → (16 * number + 12) ∷ slice_index_or contents 0 0 ∷ slice_index_or contents 1 0 ∷ slice_index_or contents 2 0
    ∷ slice_index_or contents 3 0 ∷ [] ≡ context_octets number contents
four_context = grind (arith, common_steps, short_context)

-- a number in one octet
pub one_number : (number n : ℕ) → number < 15 → n < 256 → number_octets number n ≡ (16 * number + 9) ∷ n ∷ []
one_number = grind (arith, short_context)

pub opening_octet : (number : ℕ) → number < 15 → plain_tag (opening_tag number) ≡ (16 * number + 14) ∷ []
unfolding plain_tag
opening_octet = grind arith

pub closing_octet : (number : ℕ) → number < 15 → plain_tag (closing_tag number) ≡ (16 * number + 15) ∷ []
unfolding plain_tag
closing_octet = grind arith

-- ---- the longest body of a ReadProperty

tag_short : (number count : ℕ) → length (plain_tag (context_tag number count)) ≤ 7
unfolding plain_tag
tag_short = grind arith

context_short : (number : ℕ) (contents : List ℕ) → length contents ≤ 8 → length (context_octets number contents) ≤ 15
context_short = grind (arith, length-append, tag_short)

number_short : (number n : ℕ) → length (number_octets number n) ≤ 15
number_short _ n = context_short _ _ (search arith)

index_short : (i : Option ℕ) → length (flat_map plain_parameter (optional (numbered 2) i)) ≤ 15
unfolding plain_parameter
index_short = grind (arith, length-append, number_short)

pub read_octets_short : (r : Reference) → length (read_octets r) ≤ 45
unfolding plain_parameter
read_octets_short = grind (arith, length-append, context_short, index_short)

-- In an empty frame there is room for the body, so it is appended whole.
pub read_alone : {A E : Type 0} (result : Result A E) (before after : List ℕ) (r : Reference) → before ≡ []
    → Appends before (read_octets r) after result → after ≡ read_octets r
read_alone (Ok x) _ _ r none appended = appended.ok ∙ ap (λ (octets : List ℕ). octets ++ read_octets r) none
read_alone (Err e) _ _ r none appended = grind (arith, read_octets_short)

-- ---- the parameters of a body, in their order

plain_append : (ps qs : List Parameter)
    → flat_map plain_parameter (ps ++ qs) ≡ flat_map plain_parameter ps ++ flat_map plain_parameter qs
plain_append [] qs = refl
plain_append (p ∷ ps) qs = cc (plain_append ps _, append_assoc _ _ _)

pub optional_plain : (made : ℕ → Parameter) (number : ℕ) → ((n : ℕ) → plain_parameter (made n) ≡ number_octets number n)
    → (i : Option ℕ)
    → flat_map plain_parameter (optional made i) ≡ optional_octets number i
optional_plain = grind (arith, append-nil)

pub ack_written : (a : ReadAck) → read_octets a.reference ++ enclosed_octets 3 a.value ≡ ack_octets a
unfolding plain_parameter
ack_written a = sym (cc (plain_append _ _, append-nil _))

pub write_written : (o : Order)
    → read_octets o.reference ++ (enclosed_octets 3 o.value ++ optional_octets 4 o.priority) ≡ write_octets o
unfolding plain_parameter
write_written o = sym (cc (plain_append _ _, optional_plain _ 4 (λ n. refl) _))

-- ---- a parameter

-- the tag of a short content has no length octets
short_tag : (number count : ℕ) → count < 5
    → length (plain_tag (context_tag number count)) ≡ 1 + length (plain_number number)
unfolding plain_tag
short_tag _ _ short = search arith

context_least : (number : ℕ) (octets contents least : List ℕ) → AreOctets octets → SpellsContext number octets contents
    → length contents < 5
    → length least ≤ length contents → length (context_octets number least) ≤ length octets
context_least = grind (arith, ahead, short_tag, length-append)

number_shortest : (number n : ℕ) (octets : List ℕ) → AreOctets octets → SpellsIn enumerated number octets n
    → length (number_octets number n) ≤ length octets
number_shortest _ n _ fit s =
    let inner = behind s.context.front _ (search arith) in
    let (low, _, is) = s.stands in
    let le = octet_count_least _ n low (rw is (big_from-lt 0 _ _ inner)) in
    context_least _ _ _ _ fit s.context (omega arith) (search arith)

object_shortest : (number : ℕ) (id : Identifier) (octets : List ℕ) → AreOctets octets
    → SpellsIn values.object number octets id → length (object_octets number id) ≤ length octets
object_shortest _ id _ fit s = context_least _ _ _ (big_bytes 4 _) fit s.context (omega arith) (search arith)

enclosed_shortest : (number : ℕ) (region octets : List ℕ) → AreOctets octets → SpellsEnclosed number octets region
    → length (enclosed_octets number region) ≤ length octets
enclosed_shortest number region _ fit s =
    let o = s.opened in
    let fits = subst AreOctets o.whole fit in
    let opening = tag_least _ _ (ahead _ _ fits) o.spelled in
    let closing = tag_least _ _ (behind region _ (behind o.front _ fits)) s.closed in
    grind (arith, length-append)

parameter_shortest : (p : Parameter) → IsParameter p → IsShortest SpellsParameter (plain_parameter p) p
unfolding plain_parameter
parameter_shortest =
    grind (arith, object_spells, object_shortest, number_spells, number_shortest, enclosed_spells, enclosed_shortest)

-- ---- one after the other

-- each thing in a list is written in the fewest octets, and so is the list
module _ {A : Type 0} (Spells : List ℕ → A → Type 0) (plain : A → List ℕ) (Is : A → Type 0)
    (each : (x : A) → Is x → IsShortest Spells (plain x) x) where
  all_least : (xs : List A) (octets rest : List ℕ) → AllByRecursion Is xs → AreOctets octets
      → SpellsTo Spells octets xs rest
      → length (flat_map plain xs) + length rest ≤ length octets
  all_least [] _ _ h fit s = omega (arith, ap length s)
  all_least (x ∷ xs) _ _ (is, are) fit (_, front, more) =
      let fits = subst AreOctets front.whole fit in
      let first = (each x is).shortest _ (ahead _ _ fits) front.spelled in
      let others = all_least xs _ _ are (behind _ _ fits) more in
      grind (arith, length-append)

  all_shortest : (xs : List A) → AllByRecursion Is xs → IsShortest (SpellsAll Spells) (flat_map plain xs) xs
  all_shortest = grind (arith, whole_spell, all_least)

parameters_shortest : (ps : List Parameter) → AllByRecursion IsParameter ps
    → IsShortest (SpellsAll SpellsParameter) (flat_map plain_parameter ps) ps
parameters_shortest = all_shortest _ _ _ parameter_shortest

-- the value is written in the fewest octets
abbrev pub IsLeast : Datum → Type 0
IsLeast datum = IsShortest Spells (plain datum) datum

-- ---- the bodies

pub read_shortest : (r : Reference) → AllByRecursion IsParameter (reference_parameters r)
    → IsShortest IsReadBody (read_octets r) r
read_shortest r h =
    let all = parameters_shortest (reference_parameters r) h in
    record { spelled = all.spelled; shortest = all.shortest }

pub read_back : (r : Reference) → AllByRecursion IsParameter (reference_parameters r) → read_of (read_octets r) ≡ Ok r
read_back r h = read_again _ r (read_shortest r h).spelled

pub ack_shortest : (a : ReadAck) → AllByRecursion IsParameter (ack_parameters a) → IsShortest IsAckBody (ack_octets a) a
ack_shortest a h =
    let all = parameters_shortest (ack_parameters a) h in
    record { spelled = all.spelled; shortest = all.shortest }

pub ack_back : (a : ReadAck) → AllByRecursion IsParameter (ack_parameters a) → ack_of (ack_octets a) ≡ Some a
ack_back a h = (ack_is _ a).1 (ack_shortest a h).spelled

pub write_shortest : (o : Order) → AllByRecursion IsParameter (order_parameters o) → IfSome o.priority IsPriority
    → IsShortest IsWriteBody (write_octets o) o
write_shortest o h urgent =
    let all = parameters_shortest (order_parameters o) h in
    record {
      spelled = record { spelled = all.spelled; urgent = urgent };
      shortest = λ other fit s. all.shortest _ fit s.spelled;
    }

pub write_back : (o : Order) → AllByRecursion IsParameter (order_parameters o) → IfSome o.priority IsPriority
    → write_of (write_octets o) ≡ Ok o
write_back o h urgent = grind (arith, write_again, write_shortest)

pub who_is_shortest : (w : WhoIs) → HasLimits w → IsShortest IsWhoIsBody (who_is_octets w) w
unfolding plain_parameter
who_is_shortest limits.All h = record { spelled = refl; shortest = λ other fit s. omega arith }
who_is_shortest (limits.Range low high) (l, h) =
    let all = parameters_shortest (numbered 0 _ ∷ numbered 1 _ ∷ []) ((omega arith, l), ((omega arith, h), tt)) in
    rw (← append-nil (number_octets 1 _)) (record { spelled = all.spelled; shortest = all.shortest })

pub limits_back : (w : WhoIs) → HasLimits w → who_is_of (who_is_octets w) ≡ Some w
limits_back w h = grind (arith, who_is_is, who_is_shortest)

pub who_is_back : (low high : ℕ) → low < 2 ^ 32 → high < 2 ^ 32
    → who_is_of (who_is_octets (limits.Range low high)) ≡ Some (limits.Range low high)
who_is_back _ _ l h = limits_back _ (l, h)

pub i_am_shortest : (i : Introduction) → i.device.kind ≡ 8 → IsLeast (values.object i.device)
    → IsLeast (unsigned i.max_apdu)
    → IsLeast (enumerated i.segmentation) → IsLeast (unsigned i.vendor) → IsShortest IsIAmBody (i_am_octets i) i
i_am_shortest i device a b c d =
    let all = all_shortest _ plain _ (λ x is. is) (introduction_values i) (a, (b, (c, (d, tt)))) in
    record {
      spelled = record { device = device; spelled = all.spelled };
      shortest = λ other fit s. all.shortest other fit s.spelled;
    }

pub i_am_is_back : (i : Introduction) → IsShortest IsIAmBody (i_am_octets i) i
    → introduction_of (i_am_octets i) ≡ Some i
i_am_is_back i written = (introduction_is _ i).1 written.spelled

pub introduction_back : (i : Introduction) → i.device.kind ≡ 8 → AllByRecursion IsDatum (introduction_values i)
    → introduction_of (i_am_octets i) ≡ Some i
introduction_back i device h = (introduction_is _ i).1 (grind (arith, whole_spell, plain_spells))

pub error_shortest : (class code : ℕ) → IsLeast (enumerated class) → IsLeast (enumerated code)
    → IsShortest IsErrorBody (error_octets class code) (class, code)
error_shortest class code a b = record {
  spelled = (
    [],
    grind (arith, whole_spell),
  );
  shortest = λ other fit (rest, s). let all =
      all_least _ plain _ (λ x is. is) (enumerated class ∷ enumerated code ∷ []) other rest (a, (b, tt)) fit s in
      omega arith;
}

-- a written Error is read back, whatever follows
pub error_is_back : (class code : ℕ) (rest : List ℕ) → Spells (plain (enumerated class)) (enumerated class)
    → Spells (plain (enumerated code)) (enumerated code)
    → error_of (error_octets class code ++ rest) ≡ Some (class, code)
error_is_back class code rest s t = (error_is _ (class, code)).1
    (rest, all_spell _ _ (λ x. Spells (plain x) x) (λ x s. s) (enumerated _ ∷ enumerated _ ∷ []) _ (s, (t, tt)))

pub error_back : (class code : ℕ) (rest : List ℕ) → AllByRecursion IsDatum (enumerated class ∷ enumerated code ∷ [])
    → error_of (error_octets class code ++ rest) ≡ Some (class, code)
error_back = grind (arith, error_is_back, plain_spells)

-- ---- the parameters of a request

all_append : {A : Type 0} (Is : A → Type 0) (xs ys : List A) → AllByRecursion Is xs → AllByRecursion Is ys
    → AllByRecursion Is (xs ++ ys)
all_append Is [] ys h k = k
all_append Is (x ∷ xs) ys (is, are) k = (is, all_append _ xs _ are k)

pub ack_known : (a : ReadAck) → AllByRecursion IsParameter (reference_parameters a.reference) → IsRegion 32 a.value
    → AllByRecursion IsParameter (ack_parameters a)
ack_known a named region = grind (arith, all_append)

urgent_is : (p : Option ℕ) → IfSome p IsPriority → IfSome p (λ n. n < 2 ^ 32)
urgent_is = grind arith

pub order_known : (o : Order) → AllByRecursion IsParameter (reference_parameters o.reference) → IsRegion 32 o.value
    → IfSome o.priority IsPriority → AllByRecursion IsParameter (order_parameters o)
order_known = grind (arith, all_append, urgent_is)

-- the written octets of an order spell it
pub order_is_written : (o : Order) → AllByRecursion IsParameter (reference_parameters o.reference) → IsRegion 32 o.value
    → IfSome o.priority IsPriority → IsShortest IsWriteBody (write_octets o) o
order_is_written o named region urgent = grind (arith, write_shortest, order_known)

-- ---- the body of a ReadProperty-ACK in its parts

-- an answer is the octets before its value, the value, and the octets after it
pub ack_parts : (a : ReadAck) → ack_octets a ≡ (ack_front a.reference ++ a.value) ++ ack_end
ack_parts = grind (arith, ack_written, append_assoc)

pub length_ack : (a : ReadAck)
    → length (ack_octets a) ≡ length (ack_front a.reference) + (length a.value + length ack_end)
length_ack = grind (arith, ack_parts, length-append)
