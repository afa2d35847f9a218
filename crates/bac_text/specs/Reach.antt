-- The receivers of a Who-Is, as contracts see them.
use Rattle.std.specs.Prelude.{Option, ℕ}
use Rattle.{bac_pdu.specs.{Station, station}, bac_text.specs.declared.peers.Reach.Reach}

-- A `Reach` of the code as a value: the station and the network.
abbrev pub reach_seen : Reach → Station × Option ℕ
reach_seen reach = (station reach.to, reach.network)
