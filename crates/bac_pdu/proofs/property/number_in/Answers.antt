-- At most four octets spell a number below 2^32.
use Rattle.std.proofs.{Common.{arith, length, ◌^◌, ◌≤◌}, Math.Nat.pow-le-pow_right}
use Rattle.byteorder.specs.Numbers.{big_from-lt}
use Rattle.bac_pdu.proofs.property.number_in.Goals as goal

pub overflow_cast-result : goal.overflow_cast-result
overflow_cast-result c =
    let below = big_from-lt 0 (length c.args.contents.now) c.args.contents.now
    (λ k. omega (arith, c.type_inv.contents k)) in
    let short : length c.args.contents.now ≤ 4 = omega arith in
    let more : 256 ^ length c.args.contents.now ≤ 256 ^ 4 = pow-le-pow_right (omega arith) short in
    omega arith
