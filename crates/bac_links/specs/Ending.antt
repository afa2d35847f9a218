-- The text of the end of a call's request, and the exit then.
use Rattle.std.specs.Option.{option_map_or}
use Rattle.std.specs.Prelude.{[], codes, if◌then◌else◌, is_some, List, None, Option, Some, ℕ, ◌++◌, ◌∷◌}
use Rattle.{bac_pdu.specs.{ack_of, ReadAck}, bac_tsm.specs.{Outcome, Simple, Events.Complex}}
use Rattle.bac_print.specs.{Outcomes.outcome_text, Values.region_text}
use Rattle.bac_links.specs.declared.call.Purpose.{Purpose, TheVariants.{Reading, Writing}}
use Rattle.bac_links.specs.declared.exit.Exit.{Exit, TheVariants.{Bad, Good}}

-- The text of the end of a request: for a read the value; `bad-ack` if the acknowledgement can't be read, or is for
-- another service; otherwise the outcome, such as `ok` for a write.
abbrev pub ending_text : Purpose → Option Outcome → List ℕ
ending_text Reading (Some (Complex body)) =
    option_map_or (λ (ack : ReadAck). region_text ack.value) (ack_of body) (codes "bad-ack")
ending_text Reading (Some Simple) = codes "bad-ack"
ending_text Writing (Some (Complex body)) = codes "bad-ack"
ending_text purpose (Some outcome) = outcome_text outcome
ending_text purpose None = codes "timeout"

-- The line that is printed for the end of a request.
abbrev pub ending_line : Purpose → Option Outcome → List ℕ
ending_line purpose ending = ending_text purpose ending ++ 10 ∷ []

-- The exit is good if a value was read, or a write was made.
abbrev pub exit_of : Purpose → Option Outcome → Exit
exit_of Reading (Some (Complex body)) = if is_some (ack_of body) then Good else Bad
exit_of Writing (Some Simple) = Good
exit_of purpose ending = Bad
