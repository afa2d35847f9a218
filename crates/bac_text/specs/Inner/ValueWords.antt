-- A value that is appended to others.
use Rattle.std.specs.Prelude.{Err, if◌then◌else◌, length, List, nat_le, None, Ok, Option, Result, Some, ℕ, ◌++◌}
use Rattle.bac_wire.specs.{frame_room, plain, Datum.Datum}
use Rattle.bac_text.specs.declared.value_words.ValueFault.{ValueFault, TheVariants.{Bad, TooLong}}

-- Octets, if they are at most this many; otherwise the fault.
abbrev pub at_most : {E : Type 0} → E → ℕ → List ℕ → Result (List ℕ) E
at_most fault most octets = if nat_le (length octets) most then Ok octets else Err fault

-- Octets and then the shortest spelling of the value of a pair, if a frame has room for both.
abbrev pub appended : List ℕ → Option Datum → Result (List ℕ) ValueFault
appended octets (Some value) = at_most TooLong frame_room (octets ++ plain value)
appended octets None = Err Bad
