-- A load may repeat some octets; the octets before it and in it are all that were read.
use Rattle.std.proofs.{Common.{ap, arith, drop, sym, take, take_all, ℕ, ◌*◌, ◌∙◌, ◌≤◌}, lemmas.Simd.length-put_chunk}
use Rattle.bac_text.{proofs.{all_before, digits_read, digits_refused, read_on}, specs.Inner.octets_by_lanes}
use Rattle.bac_text.proofs.hex_lanes.octets_from.Goals as goal

pub loop-start-init : goal.loop-start-init
unfolding octets_by_lanes
loop-start-init c = grind arith

pub returns-then-run_of_digits-lt-DIGITS : goal.returns-then-run_of_digits-lt-DIGITS
returns-then-run_of_digits-lt-DIGITS c = grind (arith, digits_refused)

pub loop-start-preserved : goal.loop-start-preserved
loop-start-preserved c =
    let s = c.loop-start.invariant in
    let at = c.min-at.result in
    let before : at ≤ c.loop-start.start = omega arith in
    let run = c.run_of_digits.ensures in
    let put = length-put_chunk at c.loop-start.octets (octets_by_lanes (take 16 (drop (2 * at) c.args.digits.now))) in
    rw c.eight_octets.ensures (record {
      read = read_on _ _ at c.loop-start.start before s.within (omega arith) s.size s.read;
      digits = λ k h. all_before _ _ _ _ 16 _ (omega arith) s.digits run k (omega arith);
      within = omega arith;
      size = s.size ∙ ap (λ (n : ℕ). 2 * n) (sym put);
    })

pub returns : goal.returns
returns c = grind (arith, take_all, digits_read)
