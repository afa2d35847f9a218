-- The datagram always fits, since a Who-Is is short.
use Rattle.std.proofs.Common.{arith, length, length-append, None, refl, ℕ}
use Rattle.std.proofs.Common.{◌≡◌, ◌≤◌}
use Rattle.bac_wire.specs.{number_octets, plain_tag}
use Rattle.bac_pdu.proofs.ShortestLaws.{read_octets_short}
use Rattle.bac_pdu.specs.{plain_parameter, declared.discovery.WhoIs.WhoIs, Discovery.who_is_octets}
use Rattle.bac_pdu.specs.declared.discovery.WhoIs.TheVariants as limits
use Rattle.bac_run.proofs.own.who_is.Goals as goal

-- A property number has as many octets as a limit.
limit_short : (n : ℕ) → length (number_octets 1 n) ≤ 45
unfolding plain_parameter
limit_short n =
    let short = read_octets_short (record { object = record { kind = 0; instance = 0 }; property = n; index = None }) in
    grind (arith, short, length-append)

-- The body of a Who-Is is short.
who_is_short : (who : WhoIs) → length (who_is_octets who) ≤ 90
unfolding plain_tag
who_is_short limits.All = omega arith
who_is_short (limits.Range low high) =
    let same : length (number_octets 0 low) ≡ length (number_octets 1 low) = refl in
    grind (arith, length-append, same, limit_short low, limit_short high)

pub returns-in-None : goal.returns-in-None
returns-in-None c = grind (arith, who_is_short c.args.who)

pub returns-in-Some : goal.returns-in-Some
returns-in-Some c = grind (arith, who_is_short c.args.who)
