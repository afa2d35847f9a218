-- The address of a client's socket.
use Rattle.std.specs.Prelude.{None}
use Rattle.bac_pdu.specs.declared.peer.Peer.{Peer}

-- Every address of this machine, and any free port.
abbrev pub anywhere : Peer
anywhere = record { ip = 0; port = 0; route = None }
