-- The calls of a link on its socket and clock, and what follows from their answers.
use Rattle.std.specs.declared.io.ErrorKind.{ErrorKind}
use Rattle.std.specs.declared.io.ErrorKind.TheVariants.{ConnectionRefused, ConnectionReset, HostUnreachable}
use Rattle.std.specs.declared.io.ErrorKind.TheVariants.{Interrupted, NetworkUnreachable, TimedOut, WouldBlock}
use Rattle.std.specs.declared.{net.socket_addr.SocketAddr.{SocketAddr, TheVariants.{V4, V6}}, time.Duration.Duration}
use Rattle.std.specs.{Duration.as_nanos, Net.{Addr.{ipv4_bits, IsIpv4OfBits}, Socket.{v4_ip, v4_port}}}
use Rattle.std.specs.Option.{option_map, option_map_or}
use Rattle.std.specs.Prelude.{[], Bool, Err, false, if◌then◌else◌, length, List, min, nat_le, None, Ok, Option, Result}
use Rattle.std.specs.Prelude.{Some, suc, true, zero, ℕ, ◌*◌, ◌++◌, ◌+◌, ◌-◌, ◌/◌, ◌==◌, ◌^◌, ◌||◌, ◌∷◌, ◌≡◌, ◌≢◌, ◌⊎◌}
use Rattle.bac_pdu.specs.{Station, station, declared.peer.Peer.Peer}
use Rattle.bac_links.specs.declared.udp.{OnRefusal.{OnRefusal, TheVariants.{Fails, IsLost}}, Patience.Patience}
use Rattle.bac_links.specs.History.{Account, Arrived, Entry, Failure, Heard, Offered, Posted, Silence, Timed, Unposted}
use Rattle.bac_links.specs.{History.Waited, Limits.longest_datagram}
use Rattle.bac_links.specs.SystemCall.{AtOnce, Bind, Elapsed, Limit, Receive, SendTo, SystemCall}

-- The calls of the system that this log gained have this property.
pub record Logs (Are : List SystemCall → Type 0) (before after : List SystemCall) : Type 0 where
  pub calls : List SystemCall
  pub logged : after ≡ before ++ calls
  pub are : Are calls

-- ---- addresses

-- The IPv4 address and the port of the peer.
abbrev pub IsAddressOf : Station → SocketAddr → Type 0
IsAddressOf peer (V4 address) = IsIpv4OfBits (v4_ip address) peer.ip × (v4_port address ≡ peer.port)
IsAddressOf peer (V6 address) = ⊥

-- The peer at an IPv4 address.
abbrev pub peer_at : SocketAddr → Option Peer
peer_at (V4 address) = Some (record { ip = ipv4_bits (v4_ip address); port = v4_port address; route = None })
peer_at (V6 address) = None

-- The calls are one: for a socket at the address of this peer.
pub record Binds (at : Peer) (calls : List SystemCall) : Type 0 where
  pub address : SocketAddr
  pub of_peer : IsAddressOf (station at) address
  pub asked : calls ≡ Bind address ∷ []

-- There is at most one call: for a socket at the address of this peer.
abbrev pub BindsAtMost : Peer → List SystemCall → Type 0
BindsAtMost at calls = (calls ≡ []) ⊎ Binds at calls

-- ---- the time

-- The time of a link: the whole milliseconds that have passed by its clock since it was made, up to the greatest
-- number. If the clock failed, the time does not change.
abbrev pub time_by : Option Duration → ℕ → ℕ
time_by (Some passed) before = min (as_nanos passed / 1_000_000) (2 ^ 64 - 1)
time_by None before = before

-- The clock was read once, and gave this time.
pub record Times (before now : ℕ) (calls : List SystemCall) : Type 0 where
  pub passed : Option Duration
  pub time : now ≡ time_by passed before
  pub asked : calls ≡ Elapsed passed ∷ []

-- ---- a send

abbrev pub is_lost : OnRefusal → Bool
is_lost Fails = false
is_lost IsLost = true

-- These octets were sent to the address of the peer in one call, and no other call was made. The send is good if all of
-- them were sent, or if refused datagrams count as lost.
pub record Sends (refused : OnRefusal) (to : Station) (octets : List ℕ) (good : Bool) (calls : List SystemCall)
    : Type 0 where
  pub address : SocketAddr
  pub sent : Option ℕ
  pub of_peer : IsAddressOf to address
  pub asked : calls ≡ SendTo octets address sent ∷ []
  pub good_is : good ≡ (option_map_or (λ n. n == length octets) sent false || is_lost refused)

-- ---- a wait

-- The peer that these octets came from, unless they are too many.
abbrev pub heard_from : SocketAddr → List ℕ → Option Peer
heard_from address octets = if nat_le (length octets) longest_datagram then peer_at address else None

-- A receive with this error counts as silence: its time was over, or it reports that an earlier datagram did not reach
-- its peer, and such a datagram counts as lost.
abbrev pub is_quiet : OnRefusal → ErrorKind → Bool
is_quiet refused WouldBlock = true
is_quiet refused TimedOut = true
is_quiet refused Interrupted = true
is_quiet refused ConnectionRefused = is_lost refused
is_quiet refused ConnectionReset = is_lost refused
is_quiet refused HostUnreachable = is_lost refused
is_quiet refused NetworkUnreachable = is_lost refused
is_quiet refused kind = false

-- The result of a receive with this answer: the datagram, silence or a failure; None if a datagram is skipped.
abbrev pub brings : OnRefusal → Result (List ℕ × SocketAddr) ErrorKind → Option Heard
brings refused (Ok (octets, from)) = option_map (λ peer. Arrived (station peer) octets) (heard_from from octets)
brings refused (Err kind) = Some (if is_quiet refused kind then Silence else Failure)

-- The first receive gave the result and was the last call; or it gave none, and further calls gave the result.
abbrev pub Ends : Option Heard → (Heard → List SystemCall → Type 0) → Heard → List SystemCall → Type 0
Ends (Some first) More heard calls = (heard ≡ first) × (calls ≡ [])
Ends None More heard calls = More heard calls

-- The receives of a wait, each with room for one octet more than the longest datagram. After a datagram that is skipped
-- there is another receive, up to this many; if all are skipped, the result is silence.
abbrev pub Looks : OnRefusal → (times : ℕ) → Heard → List SystemCall → Type 0
Looks refused zero heard calls = (heard ≡ Silence) × (calls ≡ [])
Looks refused (suc times) heard calls = (came : Result (List ℕ × SocketAddr) ErrorKind) × (rest : List SystemCall)
    × (calls ≡ Receive (longest_datagram + 1) came ∷ rest)
    × Ends (brings refused came) (Looks refused times) heard rest

-- The greatest number of receives in a wait of this many milliseconds.
abbrev pub most_looks : (wait : ℕ) → ℕ
most_looks wait = if wait == 0 then 256 else 4

-- The receives of a new socket wait without a limit.
abbrev pub endless : Patience
endless = record { limit_ms = 0; at_once = false }

-- How the receives of a socket must wait for a wait of this many milliseconds: not at all if it is 0.
abbrev pub patience_for : Patience → (wait : ℕ) → Patience
patience_for patience wait =
    if wait == 0 then record patience { at_once = true } else record { limit_ms = wait; at_once = false }

-- The calls that make the receives of a socket return at once, or wait: none if they do already.
abbrev pub modes : (before wanted : Bool) → (done : Bool) → List SystemCall
modes true true done = []
modes false false done = []
modes before wanted done = AtOnce wanted done ∷ []

-- The calls that set the limit of a socket's receives to this wait, in milliseconds: none if that is the limit already.
abbrev pub limits : (waits wait : ℕ) → (done : Bool) → List SystemCall
limits waits wait done = if wait == waits then [] else Limit (wait * 1_000_000) done ∷ []

-- The calls that make receives wait in the wanted way: all succeeded, or the last one failed.
abbrev pub Sets : (before wanted : Patience) → (done : Bool) → List SystemCall → Type 0
Sets before wanted true calls =
    calls ≡ modes before.at_once wanted.at_once true ++ limits before.limit_ms wanted.limit_ms true
Sets before wanted false calls =
    ((before.at_once ≢ wanted.at_once) × (calls ≡ AtOnce wanted.at_once false ∷ []))
    ⊎ ((wanted.limit_ms ≢ before.limit_ms) × (calls ≡ modes before.at_once wanted.at_once true
    ++ Limit (wanted.limit_ms * 1_000_000) false ∷ []))

-- The calls of a wait that could be set: the way of waiting was set, and the receives had this result.
pub record Receives (refused : OnRefusal) (patience : Patience) (wait : ℕ) (heard : Heard) (calls : List SystemCall)
    : Type 0 where
  pub setting : List SystemCall
  pub looking : List SystemCall
  pub sets : Sets patience (patience_for patience wait) true setting
  pub looks : Looks refused (most_looks wait) heard looking
  pub asked : calls ≡ setting ++ looking

-- The way of waiting could not be set, and the result is a failure.
pub record IsUnset (patience : Patience) (wait : ℕ) (heard : Heard) (calls : List SystemCall) : Type 0 where
  pub failed : heard ≡ Failure
  pub sets : Sets patience (patience_for patience wait) false calls

-- The calls of a wait of this many milliseconds with this result, if receives waited in this way before.
abbrev pub Waits : OnRefusal → Patience → (wait : ℕ) → Heard → List SystemCall → Type 0
Waits refused patience wait heard calls =
    Receives refused patience wait heard calls ⊎ IsUnset patience wait heard calls

-- ---- a whole history

-- How the socket's receives wait after an entry, and the time then. After a failure there is no further wait.
abbrev pub patience_after : Patience → Entry → Patience
patience_after patience (Waited wait heard) = patience_for patience wait
patience_after patience _ = patience

abbrev pub time_behind : ℕ → Entry → ℕ
time_behind time (Timed now) = now
time_behind time _ = time

module _ (refused : OnRefusal) where
  -- The calls for one entry, from how receives wait and the time before it. An offered datagram that the system refused
  -- was not taken, even if refused datagrams count as lost.
  abbrev pub CallsFor : Patience → (time : ℕ) → Entry → List SystemCall → Type 0
  CallsFor patience time (Waited wait heard) = Waits refused patience wait heard
  CallsFor patience time (Timed now) = Times time now
  CallsFor patience time (Posted to octets) = Sends refused to octets true
  CallsFor patience time (Unposted to octets) = Sends refused to octets false
  CallsFor patience time (Offered to octets taken) = Sends Fails to octets taken

  -- These are the calls for the first entry, then those for the next, and so on, and no others.
  abbrev pub AreCallsFor : Patience → (time : ℕ) → List Entry → List SystemCall → Type 0
  AreCallsFor patience time [] calls = calls ≡ []
  AreCallsFor patience time (entry ∷ later) calls =
      (first : List SystemCall) × (rest : List SystemCall) × (calls ≡ first ++ rest)
      × CallsFor patience time entry first
      × AreCallsFor (patience_after patience entry) (time_behind time entry) later rest

-- The parts from which a link over a socket was made: how a refused datagram is treated, and the calls that the socket
-- had made before.
pub record OverSocket : Type 0 where
  pub refused : OnRefusal
  pub calls : List SystemCall

-- The account of a link over a socket that had made these calls.
abbrev pub account_over : OnRefusal → (calls : List SystemCall) → List Entry → Account OverSocket
account_over refused calls history = record { made = record { refused = refused; calls = calls }; history = history }

-- After the calls that the socket had made before, its log has those for the entries of the history, and no others.
abbrev pub LogsHistory : Account OverSocket → (log : List SystemCall) → Type 0
LogsHistory account = Logs (AreCallsFor account.made.refused endless 0 account.history) account.made.calls
