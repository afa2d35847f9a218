-- The datagram that asks for devices.
use Rattle.std.specs.Prelude.{false, List, ℕ}
use Rattle.bac_pdu.specs.{laid_out, Station, unconfirmed, wrapped, declared.discovery.WhoIs.WhoIs}
use Rattle.bac_pdu.specs.Discovery.{who_is_octets}

-- A Who-Is (8) to this peer (clause 16.10).
abbrev pub who_is_datagram : Station → WhoIs → List ℕ
who_is_datagram to who = wrapped to.route false (laid_out (unconfirmed 8 (who_is_octets who)))
