-- Reading the body of a Who-Is, an I-Am or an Error finds what its relation says.
use Rattle.std.proofs.{Common.{[], List, Option, refl, Some, subst, ℕ, ◌↔◌, ◌∷◌, ◌≡◌}, lemmas.Bool.{eq-eqb, eqb-true}}
use Rattle.bac_wire.proofs.ItemLaws.{enumerated_step, IsStep, object_step, unsigned_step}
use Rattle.bac_wire.{proofs.TagLaws.{bind_some, only_if}, specs.{Spells, ◌>>=◌, Datum.Datum, Front.Begins}}
use Rattle.bac_pdu.{proofs.BodyLaws.{numbered_step, whole_ended}, specs.error_of}
use Rattle.bac_pdu.specs.{Introduction, introduction_of, IsErrorBody, IsIAmBody, IsWhoIsBody, who_is_of, WhoIs}
use Rattle.bac_pdu.specs.declared.discovery.WhoIs.TheVariants as limits

-- ---- Who-Is

who_is_takes : (body : List ℕ) (w : WhoIs) → who_is_of body ≡ Some w → IsWhoIsBody body w
unfolding who_is_of
who_is_takes [] w e = let same : limits.All ≡ w = cc in subst (IsWhoIsBody []) same refl
who_is_takes (x ∷ xs) w e =
    let ((_, behind), low, more) = bind_some _ _ _ e in
    let ((_, rest), high, whole) = bind_some _ _ _ more in
    let (all, same) = whole_ended (limits.Range _ _) w _ whole in
    subst (IsWhoIsBody _) same
    (behind, (numbered_step 0).takes _ _ _ low, (rest, (numbered_step 1).takes _ _ _ high, all))

who_is_again : (body : List ℕ) (w : WhoIs) → IsWhoIsBody body w → who_is_of body ≡ Some w
unfolding who_is_of
who_is_again _ limits.All s = cc
who_is_again [] (limits.Range low high) s = cc
who_is_again (x ∷ xs) (limits.Range low high) (_, first, (_, second, all)) =
    rw ((numbered_step 0).again _ _ _ first, (numbered_step 1).again _ _ _ second, all) refl

pub who_is_is : (body : List ℕ) (w : WhoIs) → (who_is_of body ≡ Some w) ↔ IsWhoIsBody body w
who_is_is _ w = (who_is_takes _ w, who_is_again _ w)

-- ---- I-Am and errors

then_takes : {A B : Type 0} {made : A → Datum} {at : List ℕ → Option (A × List ℕ)} → IsStep Spells made at
    → (octets : List ℕ) (f : A × List ℕ → Option B) (y : B) → (at octets >>= f) ≡ Some y
    → (x : A) × (rest : List ℕ) × Begins Spells octets (made x) rest × (f (x, rest) ≡ Some y)
then_takes step _ f y e =
    let ((x, rest), read, more) = bind_some _ _ _ e in (x, rest, step.takes _ _ _ read, more)

introduction_takes : (body : List ℕ) (i : Introduction) → introduction_of body ≡ Some i → IsIAmBody body i
unfolding introduction_of
introduction_takes _ i e =
    let (_, a, device, more) = then_takes object_step _ _ _ e in
    let (_, b, size, more) = then_takes unsigned_step _ _ _ more in
    let (_, c, segments, more) = then_takes enumerated_step _ _ _ more in
    let (_, d, vendor, more) = then_takes unsigned_step _ _ _ more in
    let (eight, whole) = only_if _ more in
    let (all, same) = whole_ended _ i _ whole in
    subst (IsIAmBody _) same (record {
      device = eqb-true _ 8 eight;
      spelled = (a, device, (b, size, (c, segments, (d, vendor, all))));
    })

pub introduction_is : (body : List ℕ) (i : Introduction) → (introduction_of body ≡ Some i) ↔ IsIAmBody body i
unfolding introduction_of
introduction_is _ i = (
  introduction_takes _ i,
  λ s.
      let (_, device, (_, size, (_, segments, (_, vendor, all)))) = s.spelled in
      rw (object_step.again _ _ _ device, unsigned_step.again _ _ _ size, enumerated_step.again _ _ _ segments)
      (rw (unsigned_step.again _ _ _ vendor, eq-eqb _ 8 s.device, all) refl),
)

error_again : (body : List ℕ) (x : ℕ × ℕ) → IsErrorBody body x → error_of body ≡ Some x
unfolding error_of
error_again _ x (_, (_, class, (_, code, _))) =
    rw (enumerated_step.again _ _ _ class, enumerated_step.again _ _ _ code) refl

pub error_is : (body : List ℕ) (x : ℕ × ℕ) → (error_of body ≡ Some x) ↔ IsErrorBody body x
unfolding error_of
error_is _ x = (
  λ e.
      let (class, behind, class_read, more) = then_takes enumerated_step _ _ _ e in
      let (code, rest, code_read, made) = then_takes enumerated_step _ _ _ more in
      let same : ◌≡◌ {A = ℕ × ℕ} (class, code) x = cc made in
      subst (IsErrorBody _) same (rest, (behind, class_read, (rest, code_read, refl))),
  error_again _ x,
)
