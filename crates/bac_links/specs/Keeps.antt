-- The state of a link over a socket after all its calls.
use Rattle.std.specs.Prelude.{◌≡◌, ℕ, Bool, false, List, [], ◌∷◌}
use Rattle.bac_links.specs.{SystemCall.SystemCall, History.Entry}
use Rattle.bac_links.specs.declared.udp.{OnRefusal.OnRefusal, Patience.Patience}
use Rattle.bac_links.specs.Socket.{AreCallsFor, endless, Logs, patience_after, time_behind}

-- How receives wait after these entries, and the time then.
abbrev pub patience_after_all : Patience → List Entry → Patience
patience_after_all patience [] = patience
patience_after_all patience (entry ∷ later) = patience_after_all (patience_after patience entry) later

abbrev pub time_behind_all : ℕ → List Entry → ℕ
time_behind_all time [] = time
time_behind_all time (entry ∷ later) = time_behind_all (time_behind time entry) later

-- The log has the calls for the history. The link has the time, and, unless it has failed, how its receives wait.
pub record Keeps (refused : OnRefusal) (before log : List SystemCall) (history : List Entry)
    (patience : Patience) (time : ℕ) (failed : Bool) : Type 0 where
  pub logged : Logs (AreCallsFor refused endless 0 history) before log
  pub limited : failed ≡ false → patience ≡ patience_after_all endless history
  pub timed : time ≡ time_behind_all 0 history
