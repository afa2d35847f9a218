-- The body of the words is written by the laws of bodies, and is read as one value that other words do not have.
use Rattle.std.proofs.Common.{[], ap, arith, codes, Err, List, Ok, Result, Some, subst, sym, ℕ, ◌∷◌, ◌≡◌}
use Rattle.std.specs.Fmt.{digits}
use Rattle.hex.specs.Hex.{decode_pairs, encode_with}
use Rattle.bac_wire.specs.{behind_closing, behind_items, behind_opening, contents_of, context_at, enclosed_at}
use Rattle.bac_wire.specs.{length_at, long_length_at, number_at, object_at, plain, plain_tag, region_at, shape_at}
use Rattle.bac_wire.specs.{tag_at, tag_number_at, value_at, values_of, values_within, Datum.Datum, Inner.Datum.tagged}
use Rattle.bac_pdu.{proofs.BodyLaws.write_again, specs.{Order, plain_parameter, write_of}}
use Rattle.bac_pdu.specs.{declared.reject.RejectReason.RejectReason, PropertyReading.reference_at}
use Rattle.bac_text.proofs.WordLaws.{bodies_written}
use Rattle.bac_text.specs.{value_under, values_in}
use Rattle.bac_text.proofs.examples.examples_of_writes.Goals as goal

pub returns-clause-written : goal.returns-clause-written
unfolding digits decode_pairs encode_with value_under plain tagged plain_tag plain_parameter
returns-clause-written c = bodies_written _ _ _ _ _ _ (grind arith) (omega arith) tt (grind arith) (grind arith)

-- The values in the body, compared with those of other words.
other : (values : List Datum) → values_in (codes "3" ∷ codes "-6" ∷ []) ≡ Ok values
    → values_of (0x31 ∷ 0xfb ∷ []) ≡ Some values → ⊥
unfolding digits value_under tag_number_at long_length_at length_at shape_at tag_at contents_of value_at values_within
other values said read = grind arith

abbrev region_in : Result Order RejectReason → List ℕ
region_in (Ok order) = order.value
region_in (Err reason) = []

pub returns-clause-other : goal.returns-clause-other
unfolding tag_number_at long_length_at length_at shape_at tag_at contents_of value_at behind_closing behind_items
    region_at context_at number_at object_at behind_opening enclosed_at reference_at write_of
returns-clause-other c = λ h.
    let region = ap region_in (write_again _ _ h.ordered.spelled) in
    other h.values h.said (subst (λ r. values_of r ≡ Some h.values) (sym region) h.read)
