-- The datagram always fits, since a Who-Is is short.
use Rattle.std.proofs.Common.{[], arith, Err, length, length-append, None, Ok, OnErr, OnOk, refl, Result, ℕ}
use Rattle.std.proofs.Common.{◌++◌, ◌<◌, ◌≡◌, ◌≤◌}
use Rattle.{bac_wire.specs.{number_octets, object_octets, plain_tag}, bac_pdu.proofs.ShortestLaws.read_octets_short}
use Rattle.{bac_pdu.specs.{plain_parameter, Discovery.who_is_octets}, bac_links.specs.WhoIs}
use Rattle.bac_pdu.specs.declared.discovery.WhoIs.TheVariants as limits
use Rattle.bac_links.proofs.search.who_is.Goals as goal

has_room : {T E : Type 0} (result : Result T E) (P : Type 0) (most octets : ℕ) → OnOk result P
    → OnErr result (most < octets) → octets ≤ most → P
has_room (Ok x) P _ _ ok _ le = ok
has_room (Err e) P _ _ ok full le = absurd (omega (arith, full))

-- A property number has as many octets as a limit.
limit_short : (n : ℕ) → length (number_octets 1 n) ≤ 45
unfolding plain_parameter
limit_short n =
    let object = object_octets 0 (record { kind = 0; instance = 0 }) in
    let short = read_octets_short (record { object = record { kind = 0; instance = 0 }; property = n; index = None }) in
    omega (arith, short, length-append object (number_octets 1 n ++ []), length-append (number_octets 1 n) [])

-- The body of a Who-Is is short.
who_is_short : (who : WhoIs) → length (who_is_octets who) ≤ 90
unfolding plain_tag
who_is_short limits.All = omega arith
who_is_short (limits.Range low high) =
    let same : length (number_octets 0 low) ≡ length (number_octets 1 low) = refl in
    omega (arith, limit_short low, same, limit_short high, length-append (number_octets 0 low) (number_octets 1 high))

pub returns : goal.returns
returns c = grind (arith, who_is_short, has_room)
