-- How an Error ends a request.
use Rattle.std.specs.{Option.option_map_or, Prelude.{Option, ℕ}}
use Rattle.bac_tsm.specs.Events.{BadError, Failed, Outcome}

-- The outcome of an Error: by the class and the code that its body begins with.
abbrev pub error_outcome : Option (ℕ × ℕ) → Outcome
error_outcome read = option_map_or (λ (class, code). Failed class code) read BadError
