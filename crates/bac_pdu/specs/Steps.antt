-- One step after another, each of which can fail.
use Rattle.std.specs.Prelude.{Result, Ok, Err}

-- The next step if this one succeeded, and its failure if it did not.
infixl 10 ◌>>=◌
abbrev pub ◌>>=◌ : {A B E : Type 0} → Result A E → (A → Result B E) → Result B E
(Ok x) >>= f = f x
(Err failure) >>= f = Err failure
