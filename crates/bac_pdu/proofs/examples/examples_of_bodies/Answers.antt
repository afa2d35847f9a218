-- The contents of a body are computed once the definitions that read it are opened.
use Rattle.std.proofs.Common.{[], arith, Err, List, Ok, refl, ℕ, ◌++◌, ◌∷◌}
use Rattle.bac_wire.{proofs.ItemLaws.whole_is, specs.{behind_closing, behind_items, behind_opening, contents_of}}
use Rattle.bac_wire.specs.{context_at, enclosed_at, kind_at, length_at, long_length_at, number_at, object_at, plain_tag}
use Rattle.bac_wire.specs.{region_at, shape_at, tag_at, tag_number_at, value_at}
use Rattle.bac_pdu.proofs.{BodyLaws.{ack_is, read_is, write_is}, DiscoveryLaws.{error_is, introduction_is, who_is_is}}
use Rattle.bac_pdu.specs.{ack_of, error_of, introduction_of, OutOfRange, plain_parameter, Range, read_of, reference_at}
use Rattle.bac_pdu.specs.{TooMany, who_is_of, write_of, Inner.{i_am_1234, present_octets, present_value, release}}
use Rattle.bac_pdu.proofs.examples.examples_of_bodies.Goals as goal

-- the value NULL in a body, and a write of it
null : List ℕ
null = 0x3e ∷ 0x00 ∷ 0x3f ∷ []

release_octets : ℕ → List ℕ
release_octets priority = present_octets ++ (0x3e ∷ 0x00 ∷ 0x3f ∷ 0x49 ∷ priority ∷ [])

pub returns : goal.returns
unfolding plain_tag tag_number_at long_length_at length_at shape_at tag_at contents_of value_at behind_closing
    behind_items region_at context_at number_at object_at kind_at behind_opening enclosed_at plain_parameter
    reference_at read_of write_of ack_of who_is_of introduction_of error_of null release_octets
returns c = record {
  read = ((read_is present_octets (Ok present_value)).0 refl).whole;
  read_more = λ s.
      let e = ((read_is (present_octets ++ 0x00 ∷ []) (Err TooMany)).0 refl).all present_value s in grind arith;
  ack = (ack_is (present_octets ++ null) _).0 refl;
  other_ack = λ s.
      let e = (ack_is (present_octets ++ null) (record { reference = present_value; value = [] })).1 s in grind arith;
  write = ((write_is (release_octets 16) (Ok (release 16))).0 refl).whole;
  other_write = λ s.
      let e = ((write_is (release_octets 16) (Ok (release 16))).0 refl).all (release 15) s in grind arith;
  no_write = λ s. let e = ((write_is (release_octets 17) (Err OutOfRange)).0 refl).all (release 17) s in grind arith;
  first = grind arith;
  sixteenth = grind arith;
  zeroth = λ h. grind arith;
  seventeenth = λ h. grind arith;
  all = refl;
  not_all = λ s. grind arith;
  range = (who_is_is _ (Range 1 2)).0 refl;
  other_range = λ s. let e = (who_is_is _ (Range 2 1)).1 s in grind arith;
  i_am = (introduction_is _ _).0 refl;
  no_device = λ s. let kind = s.device in grind arith;
  other_instance = λ s. let e = (introduction_is i_am_1234 _).1 s in grind arith;
  other_size = λ s. let e = (introduction_is i_am_1234 _).1 s in grind arith;
  segmented = λ s. let e = (introduction_is i_am_1234 _).1 s in grind arith;
  other_vendor = λ s. let e = (introduction_is i_am_1234 _).1 s in grind arith;
  error = (error_is (0x91 ∷ 0x02 ∷ 0x91 ∷ 0x20 ∷ 0x00 ∷ []) (2, 32)).0 refl;
  other_error = λ s. let e = (error_is (0x91 ∷ 0x02 ∷ 0x91 ∷ 0x20 ∷ []) (32, 2)).1 s in grind arith;
  missing = (read_is _ _).0 refl;
  other_reason = λ o. let e = (read_is _ _).1 o in grind arith;
  whole_rejected = λ o. let e = (read_is present_octets _).1 o in grind arith;
  other_outcome = λ o. let e = (read_is present_octets _).1 o in grind arith;
  out_of_range = (write_is _ _).0 refl;
  not_missing = λ o. let e = (write_is _ _).1 o in grind arith;
  greatest = grind arith;
  no_tag = λ h. grind arith;
  no_number = λ h. grind arith;
  left_open = λ r. let e = (whole_is 32 _).1 r in grind arith;
  before = refl;
  behind = refl;
}
