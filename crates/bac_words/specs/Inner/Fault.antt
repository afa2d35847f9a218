-- The fault for an error of `clap`.
use Rattle.clap.specs.{Values.kind_of, declared.error.{Error.Error, kind.ErrorKind.ErrorKind}}
use Rattle.clap.specs.declared.error.kind.ErrorKind.TheVariants as kind
use Rattle.bac_words.specs.declared.faults.UsageFault.{UsageFault, TheVariants.{Help, Memory, Words}}

abbrev pub fault_by : ErrorKind → Error → UsageFault
fault_by kind.OutOfMemory e = Memory
fault_by kind.DisplayHelp e = Help e
fault_by _ e = Words e

-- Memory ran out, help was asked for, or `clap` refuses the words.
abbrev pub fault_from : Error → UsageFault
fault_from e = fault_by (kind_of e) e
