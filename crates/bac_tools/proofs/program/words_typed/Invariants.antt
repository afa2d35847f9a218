use Rattle.std.proofs.Common.{◌++◌, ◌≡◌}
use Rattle.bac_tools.proofs.program.words_typed.Given as goal

abbrev pub invariant-loop-word : goal.invariant-loop-word
invariant-loop-word l = l.words.items ++ l.word-iterator.rest.items ≡ l.initial.word-iterator.rest.items
