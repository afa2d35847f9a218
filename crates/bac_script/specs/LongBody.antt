-- A body that is too long to be sent.
use Rattle.std.specs.Prelude.{[], Bool, Err, false, length, List, nat_lt, Ok, Result, ℕ}
use Rattle.bac_pdu.specs.{longest_body}

abbrev pub octets_or_none : Result (List ℕ) ℕ → List ℕ
octets_or_none (Ok body) = body
octets_or_none (Err n) = []

-- The body has more octets than a client sends.
abbrev pub is_long : Result (List ℕ) ℕ → Bool
is_long (Ok body) = nat_lt longest_body (length body)
is_long (Err n) = false
