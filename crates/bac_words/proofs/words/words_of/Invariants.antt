use Rattle.std.{proofs.Common.{map, take, ◌++◌, ◌≡◌}, specs.String.string_bytes}
use Rattle.bac_words.proofs.words.words_of.Given as goal

abbrev pub invariant-loop-word : goal.invariant-loop-word
invariant-loop-word l =
    map (λ word. word.now) l.words.items ≡ map (λ word. word.now) l.initial.words.items
    ++ map string_bytes (take l.word-index l.rest)
