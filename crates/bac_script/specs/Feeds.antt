-- Line feeds.
use Rattle.std.specs.{Prelude.{◌≢◌, ℕ, List}, List.AllByRecursion}

-- None of these is a line feed.
abbrev pub HasNoFeed : List ℕ → Type 0
HasNoFeed = AllByRecursion (λ octet. octet ≢ 10)
