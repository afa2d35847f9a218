-- A number of this many octets is below 256 to that power.
use Rattle.std.proofs.{Common.{arith, length, ◌^◌, ◌≤◌}, Math.Nat.pow-le-pow_right}
use Rattle.byteorder.specs.Numbers.{big_from-lt}
use Rattle.bac_wire.proofs.value.unsigned_of.Goals as goal

pub returns-clause-fits : goal.returns-clause-fits
returns-clause-fits c =
    let below = big_from-lt 0 (length c.args.contents.now) c.args.contents.now
    (λ k. omega (arith, c.type_inv.contents k)) in
    let more : 256 ^ length c.args.contents.now ≤ 256 ^ c.args.most = grind (arith, pow-le-pow_right) in
    omega arith
