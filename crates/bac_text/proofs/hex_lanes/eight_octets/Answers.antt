-- Each of the eight lanes is the octet of its two digits.
use Rattle.std.proofs.{Common.{[], get_or, refl, ℕ, ◌∷◌}, lemmas.{List.FromFn.fill_by_all, Simd.length-chunk}}
use Rattle.bac_text.{proofs.octet_is, specs.Inner.octets_by_lanes}
use lib.Lanes.{chunk}
use Rattle.bac_text.proofs.hex_lanes.eight_octets.Goals as goal

pub returns : goal.returns
unfolding octets_by_lanes
returns c =
    let v = chunk c.args.at 16 c.args.digits.now in
    let x = λ (k : ℕ). get_or v k 0 in
    rw (fill_by_all x v 16 0 (length-chunk c.args.at 16 _ c.requires) (λ k h. refl)) (λ i.
    octet_is (x 0) (x 1) i ∷ octet_is (x 2) (x 3) i ∷ octet_is (x 4) (x 5) i ∷ octet_is (x 6) (x 7) i ∷
    octet_is (x 8) (x 9) i ∷ octet_is (x 10) (x 11) i ∷ octet_is (x 12) (x 13) i ∷ octet_is (x 14) (x 15) i ∷ [])
