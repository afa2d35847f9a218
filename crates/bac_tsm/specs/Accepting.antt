-- The invoke id of a new request, or why the request is refused.
use Rattle.std.specs.{List.list_any, Prelude.{if◌then◌else◌, length, List, nat_eq, nat_le, nat_lt, None, not, Option}}
use Rattle.std.specs.Prelude.{Some, unwrap_or, ℕ, ◌%◌, ◌+◌, ◌-◌, ◌^◌}
use Rattle.bac_pdu.specs.{longest_body}
use Rattle.bac_tsm.specs.declared.client.SubmitFault.{SubmitFault, TheVariants.{TableFull, TicketsSpent, TooLong}}
use Rattle.bac_tsm.specs.Positions.{first_within}

-- The invoke id of a new request: the first free one in the cycle of 256 after the last one. No open request has it
-- (clause 20.1.2.6).
unfoldable pub next_invoke_id : ℕ → List ℕ → ℕ
next_invoke_id last taken =
    (last + unwrap_or (first_within (λ d. not (list_any (nat_eq ((last + d) % 256)) taken)) 1 256) 0) % 256

-- The first reason to refuse a request with this body, from the limit of open requests, their number and the next
-- ticket.
unfoldable pub refusal_of : ℕ → List ℕ → ℕ → ℕ → Option SubmitFault
refusal_of most_open body open_count ticket =
    if nat_lt longest_body (length body) then Some TooLong
    else if nat_le most_open open_count then Some TableFull
    else if nat_lt ticket (2 ^ 64 - 1) then None else Some TicketsSpent
