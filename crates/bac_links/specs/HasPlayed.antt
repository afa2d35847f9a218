-- The state of a link in memory after all its calls.
use Rattle.std.specs.Prelude.{◌≡◌, ℕ, List, [], ◌∷◌, drop}
use Rattle.bac_links.specs.{History.Entry, Played.{Scene, ToPlay, at_first, behind, ArePlayed, Sending, sendings}}

abbrev pub behind_all : ToPlay → List Entry → ToPlay
behind_all stage [] = stage
behind_all stage (entry ∷ later) = behind_all (behind stage entry) later

-- A link in memory with these scenes has this history, this number of the next scene, this time, and these sends.
pub record HasPlayed (scenes : List Scene) (history : List Entry) (next time : ℕ) (sent : List Sending) : Type 0 where
  pub played : ArePlayed (at_first scenes) history
  pub stage : behind_all (at_first scenes) history ≡ record { scenes = drop next scenes; time = time }
  pub sendings : sent ≡ sendings (at_first scenes) history
