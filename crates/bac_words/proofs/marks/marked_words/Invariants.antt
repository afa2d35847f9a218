use Rattle.std.{proofs.Common.{◌++◌, ◌≡◌, map, take}, specs.Cow.cow_str_bytes}
use Rattle.{clap.specs.Walk.texts, bac_words.specs.marked}
use Rattle.bac_words.proofs.marks.marked_words.Given as goal

abbrev pub invariant-loop-word : goal.invariant-loop-word
invariant-loop-word l =
    map cow_str_bytes l.seen.items ≡ map cow_str_bytes l.initial.seen.items
    ++ map marked (texts (take l.word-index l.arguments))
