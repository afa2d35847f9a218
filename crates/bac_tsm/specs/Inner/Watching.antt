-- Notes as a watcher gets them.
use Rattle.std.specs.Prelude.{List, map, ℕ}
use Rattle.bac_tsm.specs.Events.{Note}

-- These notes, at this position.
abbrev pub noted_at : ℕ → List Note → List (ℕ × Note)
noted_at at notes = map (λ note. (at, note)) notes
