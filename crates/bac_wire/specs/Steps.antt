-- One step after another, each of which may find nothing; and a view of a result.
use Rattle.std.specs.Prelude.{Option, Some, None, Result, Ok, Err}

-- The next step, if this one found something.
infixl 10 ◌>>=◌
abbrev pub ◌>>=◌ : {A B : Type 0} → Option A → (A → Option B) → Option B
None >>= f = None
(Some x) >>= f = f x

-- The result, with `view` of its value.
abbrev pub result_seen : {A B E : Type 0} → (A → B) → Result A E → Result B E
result_seen view (Ok x) = Ok (view x)
result_seen view (Err e) = Err e
