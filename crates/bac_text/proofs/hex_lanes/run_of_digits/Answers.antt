-- A run ends exactly where there is no digit.
use Rattle.std.proofs.{Common.arith, lemmas.Simd.length-chunk}
use Rattle.bac_text.proofs.{other_is, other_lanes, run_in}
use lib.Lanes.{chunk}
use Rattle.bac_text.proofs.hex_lanes.run_of_digits.Goals as goal

pub returns : goal.returns
returns c =
    let digits = c.args.digits.now in
    let v = chunk c.args.at 16 digits in
    let long = length-chunk _ 16 digits c.requires in
    run_in _ digits c.args.at 16 _ _ c.requires (omega arith) c.first_set.ensures _ (other_lanes v long)
    (λ k. other_is _ (c.type_inv.digits k).fits)
