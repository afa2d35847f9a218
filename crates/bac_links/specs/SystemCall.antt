-- The calls of the system.
use Rattle.std.specs.Prelude.{ℕ, Bool, List, Option, Result}
use Rattle.std.specs.declared.{time.Duration.Duration, io.ErrorKind.ErrorKind, net.socket_addr.SocketAddr.SocketAddr}

-- One call of the system, with its answer: to bind a socket at this address; to limit the waits of receives, or make
-- them return at once, and whether that succeeded; to send octets to an address, and how many were sent, unless the
-- send was refused; to receive a datagram, and its octets and sender, or the error; and to read the time since the
-- socket was made, unless the clock failed.
pub data SystemCall : Type 0 where
  Bind : (at : SocketAddr) → SystemCall
  Limit : (nanos : ℕ) (done : Bool) → SystemCall
  AtOnce : (on : Bool) (done : Bool) → SystemCall
  SendTo : (octets : List ℕ) (to : SocketAddr) (sent : Option ℕ) → SystemCall
  Receive : (room : ℕ) (came : Result (List ℕ × SocketAddr) ErrorKind) → SystemCall
  Elapsed : (passed : Option Duration) → SystemCall
