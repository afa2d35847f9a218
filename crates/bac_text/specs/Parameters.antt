-- The parameters of a request, from words.
use Rattle.std.specs.Prelude.{ℕ, ◌-◌, ◌^◌, ◌==◌, List, Option, Some, None, option_map, bytes_eq, codes, if◌then◌else◌}
use Rattle.bac_text.specs.Words.{number_up_to}

-- The priority with this number; 0 means none.
abbrev pub priority_from : ℕ → Option ℕ
priority_from n = if n == 0 then None else Some n

-- The INDEX of a WriteProperty request in a word; -1 means none.
abbrev pub write_index_of : List ℕ → Option (Option ℕ)
write_index_of word = if bytes_eq word (codes "-1") then Some None else option_map Some (number_up_to (2 ^ 32 - 1) word)
