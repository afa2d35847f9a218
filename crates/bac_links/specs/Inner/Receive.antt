-- The result of one receive of a socket, in the types of the code.
use Rattle.std.specs.declared.{io.ErrorKind.ErrorKind, net.socket_addr.SocketAddr.SocketAddr}
use Rattle.std.specs.Prelude.{[], Err, List, None, Ok, Option, Result, Some, ℕ, ⊤, ◌++◌, ◌+◌, ◌∷◌, ◌≡◌}
use Rattle.bac_pdu.specs.{station}
use Rattle.bac_links.specs.declared.{link.LinkFault.LinkFault, udp.{Brought.Brought, OnRefusal.OnRefusal}}
use Rattle.bac_links.specs.{History.{Arrived, Failure, Heard, Silence}, Limits.longest_datagram, Socket.{brings, Looks}}
use Rattle.bac_links.specs.SystemCall.{Receive, SystemCall}
use Rattle.bac_links.specs.declared.udp.Brought.TheVariants as one

-- The result of a receive, with the octets that are in the datagram then.
abbrev pub brought : Result Brought LinkFault → List ℕ → Option Heard
brought (Ok (one.Datagram peer)) octets = Some (Arrived (station peer) octets)
brought (Ok one.Silence) octets = Some Silence
brought (Ok one.Unheard) octets = None
brought (Err fault) octets = Some Failure

-- One receive from the system, with this result.
pub record ReceivesOnce (refused : OnRefusal) (brought : Option Heard) (calls : List SystemCall) : Type 0 where
  pub came : Result (List ℕ × SocketAddr) ErrorKind
  pub brought_is : brought ≡ brings refused came
  pub asked : calls ≡ Receive (longest_datagram + 1) came ∷ []

-- If a datagram was received, its peer has no route.
abbrev pub IsPlain : Brought → Type 0
IsPlain (one.Datagram peer) = peer.route ≡ None
IsPlain one.Silence = ⊤
IsPlain one.Unheard = ⊤

-- Unless a datagram was received, the octets are unchanged.
abbrev pub KeepsUnheard : Result Brought LinkFault → (before after : List ℕ) → Type 0
KeepsUnheard (Ok (one.Datagram peer)) before after = ⊤
KeepsUnheard result before after = after ≡ before

-- The first calls of a wait: with the calls of the remaining receives they are the calls of the whole wait.
pub record HasLooked (refused : OnRefusal) (times left : ℕ) (calls : List SystemCall) : Type 0 where
  pub goes : (heard : Heard) (rest : List SystemCall) → Looks refused left heard rest
      → Looks refused times heard (calls ++ rest)
