-- How a request ended, as it is printed.
use Rattle.std.specs.Prelude.{codes, decimal, List, ℕ, ◌++◌, ◌∷◌}
use Rattle.bac_tsm.specs.{Outcome, Simple, Events.{Aborted, BadError, Complex, Failed, Rejected, Segmented}}
use Rattle.bac_print.specs.Values.{ack_text}

-- How a request ended.
abbrev pub outcome_text : Outcome → List ℕ
outcome_text Simple = codes "ok"
outcome_text (Complex body) = ack_text body
outcome_text Segmented = codes "segmented"
outcome_text (Failed class code) = codes "error " ++ (decimal class ++ 32 ∷ decimal code)
outcome_text BadError = codes "bad-error"
outcome_text (Rejected reason) = codes "reject " ++ decimal reason
outcome_text (Aborted reason) = codes "abort " ++ decimal reason
