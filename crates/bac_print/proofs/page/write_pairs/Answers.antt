-- The digits of one more octet are written after the others.
use Rattle.std.proofs.Common.{ap, arith, List, slice_index, ℕ, ◌%◌, ◌*◌, ◌+◌, ◌/◌, ◌∙◌}
use Rattle.hex.{proofs.Pairs.{encode_done, encode_step}, specs.Hex.lower_digits}
use Rattle.bac_print.proofs.{pair_of}
use Rattle.bac_print.proofs.page.write_pairs.Goals as goal

pub loop-at-preserved : goal.loop-at-preserved
loop-at-preserved c =
    let octet : ℕ = c.from-pair.result in
    let (high, low) = pair_of octet (omega arith) in
    encode_step lower_digits c.args.octets.now c.loop-at.digits c.loop-at.at _ _ (omega arith) (omega arith)
    (ap (λ (pairs : List ℕ). slice_index pairs (2 * octet)) c.requires.pairs ∙ high
    ∙ ap (λ (k : ℕ). slice_index lower_digits (k / 16)) c.from-pair.ensures)
    (ap (λ (pairs : List ℕ). slice_index pairs (2 * octet + 1)) c.requires.pairs ∙ low
    ∙ ap (λ (k : ℕ). slice_index lower_digits (k % 16)) c.from-pair.ensures)
    c.loop-at.invariant

pub returns : goal.returns
returns c = encode_done lower_digits _ _ c.loop-at.at (omega arith) (omega arith) c.loop-at.invariant
