-- The invariant of the open requests of a client.
use Rattle.std.specs.{List.All, Prelude.{◌<◌, ◌≤◌, List, ℕ}}
use Rattle.bac_tsm.specs.Machine.{Waiting}

-- Each ticket is below the next one, and each request was last sent at the present clock or before.
abbrev pub IsTimely : ℕ → ℕ → List Waiting → Type 0
IsTimely clock next_ticket ws = All (λ w. w.request.ticket < next_ticket) ws × All (λ w. w.last_sent ≤ clock) ws
