-- The answers and the sends of a link in memory, from its scenes and its history.
use Rattle.std.specs.Prelude.{[], List, min, Option, true, unwrap_or, ℕ, ⊤, ◌++◌, ◌+◌, ◌-◌, ◌^◌, ◌∷◌, ◌≡◌}
use Rattle.{bac_pdu.specs.Station, bac_links.specs.History.{Entry, Heard, Offered, Posted, Silence, Timed, Waited}}

-- One receive of a link in memory, and the time after it. A receive that fails does not change the time.
pub record Scene : Type 0 where
  pub heard : Heard
  pub time : Option ℕ

-- The state of a link in memory: the scenes that are left, and its time.
pub record ToPlay : Type 0 where
  pub scenes : List Scene
  pub time : ℕ

-- At first all scenes are left, and the time is 0.
abbrev pub at_first : List Scene → ToPlay
at_first scenes = record { scenes = scenes; time = 0 }

-- The next wait plays the next scene, or is silent once there is none.
abbrev pub heard_next : List Scene → Heard
heard_next [] = Silence
heard_next (scene ∷ later) = scene.heard

-- A wait takes one scene. Once there is none, the wait is added to the time, up to the greatest time.
abbrev pub behind_wait : (wait : ℕ) → List Scene → (time : ℕ) → ToPlay
behind_wait wait [] time = record { scenes = []; time = min (time + wait) (2 ^ 64 - 1) }
behind_wait wait (scene ∷ later) time = record { scenes = later; time = unwrap_or scene.time time }

-- The state of the link after an entry: only a wait changes it.
abbrev pub behind : ToPlay → Entry → ToPlay
behind stage (Waited wait heard) = behind_wait wait stage.scenes stage.time
behind stage _ = stage

-- A wait plays the next scene, and a time is that of the state.
abbrev pub IsPlayed : ToPlay → Entry → Type 0
IsPlayed stage (Waited wait heard) = heard ≡ heard_next stage.scenes
IsPlayed stage (Timed time) = time ≡ stage.time
IsPlayed stage _ = ⊤

-- Each of these entries agrees with the scenes, one after another.
abbrev pub ArePlayed : ToPlay → List Entry → Type 0
ArePlayed stage [] = ⊤
ArePlayed stage (entry ∷ later) = IsPlayed stage entry × ArePlayed (behind stage entry) later

-- A datagram that was sent, and when.
pub record Sending : Type 0 where
  pub time : ℕ
  pub to : Station
  pub octets : List ℕ

-- The send in an entry, at this time.
abbrev pub sending_in : (time : ℕ) → Entry → List Sending
sending_in time (Posted to octets) = record { time = time; to = to; octets = octets } ∷ []
sending_in time (Offered to octets true) = record { time = time; to = to; octets = octets } ∷ []
sending_in time _ = []

-- The sends in these entries, in order.
abbrev pub sendings : ToPlay → List Entry → List Sending
sendings stage [] = []
sendings stage (entry ∷ later) = sending_in stage.time entry ++ sendings (behind stage entry) later
