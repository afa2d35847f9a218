-- The ticket of an entry, and a step of a run.
use Rattle.std.specs.Prelude.{ℕ, ◌++◌, map}
use Rattle.bac_tsm.specs.declared.due.DueEntry.{DueEntry, TheVariants.{Resend, TimedOut as Expired}}
use Rattle.bac_tsm.specs.Machine.{Stepped, Run}

-- The ticket that an entry of a tick names.
abbrev pub ticket_of : DueEntry → ℕ
ticket_of (Resend ticket) = ticket
ticket_of (Expired ticket) = ticket

-- One step at position i, and then the rest of the run.
abbrev pub followed_by : ℕ → Stepped → Run → Run
followed_by i one rest = record { notes = map (λ note. (i, note)) one.notes ++ rest.notes; after = rest.after }
