-- Entries, clocks, results, links and calls for the examples.
use Rattle.std.specs.declared.net.socket_addr.SocketAddr.{SocketAddr, TheVariants.V4}
use Rattle.std.specs.Prelude.{[], Err, false, List, None, Ok, Option, replicate, Result, Some, true, ℕ, ◌*◌, ◌∷◌, ◌≡◌}
use Rattle.bac_pdu.specs.{Station, declared.{discovery.WhoIs.TheVariants.All, peer.Peer.Peer}}
use Rattle.{bac_tsm.specs.{Ask, Event, Tick}, bac_device.specs.{device_after, DeviceState}}
use Rattle.bac_text.specs.declared.jobs.{Call.Call, Search.Search}
use Rattle.bac_links.specs.declared.exit.Exit.{Exit, TheVariants.{Bad, Good}}
use Rattle.bac_links.specs.declared.fault.ToolFault.{ToolFault, TheVariants.{SendFailed, WriteFailed}}
use Rattle.bac_links.specs.declared.memory.Kept.{Kept, TheVariants.Quiet}
use Rattle.bac_links.specs.History.{Account, Arrived, Entry, Failure, Posted, Silence, Timed, Unposted, Waited}
use Rattle.bac_links.specs.{Memory.account_of, Played.Scene, Search.who_is_to, SystemCall.{Receive, SystemCall}}
use Rattle.bac_links.specs.declared.udp.Patience.{Patience}

-- 127.0.0.1, port 47808.
abbrev pub desk : Station
desk = record { ip = 0x7f000001; port = 47808; route = None }

-- A clock by which each wait takes 50 milliseconds.
abbrev pub steady : ℕ → ℕ
steady waits = 50 * waits

-- The ends of a tool: a good one, a bad one, and the faults of a send and of a write.
abbrev pub good : Result Exit ToolFault
good = Ok Good

abbrev pub bad : Result Exit ToolFault
bad = Ok Bad

abbrev pub unsent : Result Exit ToolFault
unsent = Err SendFailed

abbrev pub unwritten : Result Exit ToolFault
unwritten = Err WriteFailed

-- The results of a receive: nobody, or a fault.
abbrev pub nobody : Result (Option Peer) ToolFault
nobody = Ok None

abbrev pub broken : Result (Option Peer) ToolFault
broken = Err SendFailed

-- A link in memory with this history, whose first wait is silent and sets the time to 5.
abbrev pub quiet_link : List Entry → Account (List Scene)
quiet_link = account_of (record { heard = Silence; time = Some 5 } ∷ [])

-- The step of this scene.
abbrev pub one_step : List (Kept ℕ)
one_step = Quiet 5 ∷ []

-- The system was not called.
abbrev pub IsNothing : List SystemCall → Type 0
IsNothing calls = calls ≡ []

-- The seen state of a link with this history.
abbrev pub asked_so : List Entry → Account ℕ
asked_so history = record { made = 0; history = history }

-- ---- a call, a search and a server

-- The desk as a peer of the code.
abbrev pub to_desk : Peer
to_desk = record { ip = 0x7f000001; port = 47808; route = None }

-- A WriteProperty to the desk with an empty body, which is sent once, and its datagram; and the SimpleACK.
abbrev pub call : Call
call = record { to = to_desk; timeout = 3000; retries = 0; port = 0; body = record { items = [] } }

abbrev pub write : List ℕ
write = 0x81 ∷ 0x0a ∷ 0x00 ∷ 0x0a ∷ 0x01 ∷ 0x04 ∷ 0x00 ∷ 0x05 ∷ 0x01 ∷ 0x0f ∷ []

abbrev pub is_done : List ℕ
is_done = 0x81 ∷ 0x0a ∷ 0x00 ∷ 0x09 ∷ 0x01 ∷ 0x00 ∷ 0x20 ∷ 0x01 ∷ 0x0f ∷ []

-- The history of the call if it is answered, and if it cannot be sent.
abbrev pub answered : List Entry
answered = Timed 0 ∷ Posted desk write ∷ Waited 50 (Arrived desk is_done) ∷ []

abbrev pub lost : List Entry
lost = Timed 0 ∷ Unposted desk write ∷ []

-- Events with one request, and with the request twice.
abbrev pub once_asked : List Event
once_asked = Tick 0 ∷ Ask desk 15 [] ∷ []

abbrev pub twice_asked : List Event
twice_asked = Tick 0 ∷ Ask desk 15 [] ∷ Ask desk 15 [] ∷ []

-- A search for all devices at the desk, whose Who-Is could not be sent.
abbrev pub search : Search
search = record { to = to_desk; timeout = 3000; port = 0; who = All }

abbrev pub unsearched : List Entry
unsearched = Timed 0 ∷ Unposted desk (who_is_to search) ∷ []

-- A device without points, with this instance.
abbrev pub device : ℕ → DeviceState
device instance = device_after (record { instance = instance; name = [] }) [] []

-- The first wait of a server fails.
abbrev pub deaf : List Entry
deaf = Waited 1000 Failure ∷ []

-- ---- sockets

-- 127.0.0.1 at this port.
abbrev pub local : ℕ → SocketAddr
local port = V4 (record { ip = record { octets = 127 ∷ 0 ∷ 0 ∷ 1 ∷ [] }; port = port })

-- Receives that wait at most 50 milliseconds; and receives that return at once, with the same limit for waits.
abbrev pub waiting : Patience
waiting = record { limit_ms = 50; at_once = false }

abbrev pub looking : Patience
looking = record { limit_ms = 50; at_once = true }

-- The octets of a datagram that is too long, as far as there is room for them.
abbrev pub too_long : List ℕ
too_long = replicate 2048 0

-- A receive of this datagram.
abbrev pub long_came : SystemCall
long_came = Receive 2048 (Ok (too_long, local 47808))

-- ---- two tools

-- A tool is never cut off; and two results are the same.
abbrev pub NoCut : ℕ → Type 0
NoCut result = ⊥

abbrev pub Same : ℕ → ℕ → Type 0
Same result other = result ≡ other

-- A tool that reads the time once, and ends with it; and one that ends with another number.
pub record AsksTime (seen left : Account ℕ) (result : ℕ) : Type 0 where
  pub none : seen.history ≡ []
  pub one : left.history ≡ Timed result ∷ []

pub record AsksInVain (seen left : Account ℕ) (result : ℕ) : Type 0 where
  pub none : seen.history ≡ []
  pub time : ℕ
  pub one : left.history ≡ Timed time ∷ []
  pub other : result ≡ 0

-- A tool that sends an empty datagram to the desk, and ends with this result.
pub record SendsOnly (seen left : Account ℕ) (result : ℕ) : Type 0 where
  pub none : seen.history ≡ []
  pub one : left.history ≡ Posted desk [] ∷ []
