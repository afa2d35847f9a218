-- The limits of links and tools. The code has constants with the same numbers.
use Rattle.std.specs.Prelude.{ℕ, min}

-- The octets of the longest datagram that a link receives.
abbrev pub longest_datagram : ℕ
longest_datagram = 2047

-- How long a turn of a call or a search with this timeout waits, in milliseconds: at most 50.
abbrev pub turn_wait : ℕ → ℕ
turn_wait timeout = min timeout 50

-- How long a server waits for a datagram, in milliseconds.
abbrev pub serve_wait : ℕ
serve_wait = 1000

-- The number of turns after which a tool gives up.
abbrev pub most_turns : ℕ
most_turns = 65536
