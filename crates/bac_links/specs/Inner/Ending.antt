-- The end of a request, as a value.
use Rattle.std.specs.Prelude.{None, Option, Some}
use Rattle.{bac_tsm.specs.{Outcome, outcome_seen}, bac_links.specs.declared.call.Ending.Ending}
use Rattle.bac_links.specs.declared.call.Ending.TheVariants as lent

-- The end of a request, with the octets that it borrows: the outcome of an answer, or none for a timeout.
abbrev pub ending_seen : Ending → Option Outcome
ending_seen (lent.Answered outcome) = Some (outcome_seen outcome)
ending_seen lent.TimedOut = None
