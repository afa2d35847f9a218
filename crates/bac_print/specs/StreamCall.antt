-- One call of a reader or a writer, with its result.
use Rattle.std.specs.{Prelude.{ℕ, List, Result}, declared.io.Error.Error}

-- A read into room for this many octets, and the octets that it gave; a write of these octets, and how many of them
-- were taken; a flush. Each call may have failed with this error instead.
pub data StreamCall : Type 0 where
  ReadCall : (room : ℕ) (given : Result (List ℕ) Error) → StreamCall
  WriteCall : (octets : List ℕ) (taken : Result ℕ Error) → StreamCall
  FlushCall : (done : Result (Unit {0}) Error) → StreamCall
