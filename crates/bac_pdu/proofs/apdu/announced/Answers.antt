-- The sixteen codes: those above five announce as much as five does.
use Rattle.std.proofs.{Common.{arith, bit_and, ◌%◌, ◌≡◌}, lemmas.Nat.and_mask}
use Rattle.bac_pdu.proofs.{announced_other}
use Rattle.bac_pdu.proofs.apdu.announced.Goals as goal

pub returns-in_default : goal.returns-in_default
returns-in_default c =
    let same : bit_and c.args.code 15 ≡ c.args.code % 16 = and_mask _ 4 in
    grind (arith, announced_other)
