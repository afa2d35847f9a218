-- The result for a whole command line.
use Rattle.std.specs.Prelude.{◌≡◌, ◌≢◌, List, [], Some, Result, option_map, ⊤}
use Rattle.clap.specs.{Words.{Text, fault_of, subcommand_of}, Kinds.IsAmong, Values.kind_of}
use Rattle.clap.specs.declared.error.kind.ErrorKind.TheVariants as kind
use Rattle.bac_words.specs.declared.{faults.UsageFault.{UsageFault, TheVariants.{Help, Memory, Words}}, job.Job.Job}
use Rattle.bac_words.specs.{Command.bactool, Job.order_of, Marks.marked_words}

-- `clap` accepts the words, and the result is the job of the tool that they name, or its fault.
pub record Answers (words : List Text) (answer : Result Job UsageFault) : Type 0 where
  pub taken : fault_of bactool (marked_words words) ≡ []
  pub answer_is : option_map order_of (subcommand_of bactool (marked_words words)) ≡ Some answer

-- `clap` asks for help or refuses the words, with this error; or memory ran out.
abbrev pub IsRefusal : List Text → UsageFault → Type 0
IsRefusal words Memory = ⊤
IsRefusal words (Help e) = (kind_of e ≡ kind.DisplayHelp)
    × IsAmong (kind_of e) (fault_of bactool (marked_words words))
IsRefusal words (Words e) = (kind_of e ≢ kind.DisplayHelp)
    × IsAmong (kind_of e) (fault_of bactool (marked_words words))
IsRefusal words _ = ⊥
