-- How many requests are open while a run goes on, and at its end.
use Rattle.std.specs.Prelude.{[], Err, List, Ok, Result, ℕ, ⊤, ◌<◌, ◌∷◌, ◌≡◌}
use Rattle.bac_tsm.specs.Client.{Client}
use Rattle.bac_script.specs.declared.tracing.TraceFault.TheVariants.{WriteFailed}
use Rattle.bac_run.specs.Course.{open_in}
use Rattle.bac_run.specs.declared.fault.RunFault.{RunFault, TheVariants.{Link, Script}}
use Rattle.bac_run.specs.Journal.{Act, Asked, Took, turn_at}

-- At an act that makes a request or takes a line, fewer requests than this are open.
abbrev pub HasRoom : ℕ → Client → Act → Type 0
HasRoom window client (Took line) = open_in client < window
HasRoom window client (Asked line event) = open_in client < window
HasRoom window client act = ⊤

-- So it is at each of these acts of a client.
abbrev pub IsWithin : ℕ → Client → List Act → Type 0
IsWithin window client [] = ⊤
IsWithin window client (act ∷ later) = HasRoom window client act × IsWithin window (turn_at client act).after later

-- If a run stops with this fault, no request is open, unless the fault is one that may come while requests are open.
abbrev pub IsOverAt : RunFault → Client → Type 0
IsOverAt (Link fault) client = Unit {0}
IsOverAt (Script WriteFailed) client = Unit {0}
IsOverAt (Script fault) client = open_in client ≡ 0

-- If a run ends with this result, no request is open, unless it is a fault that may come while requests are open.
abbrev pub IsOver : {A : Type 0} → Result A RunFault → Client → Type 0
IsOver (Ok x) client = open_in client ≡ 0
IsOver (Err fault) client = IsOverAt fault client
