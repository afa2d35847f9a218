-- The fault that the program reports for wrong words, and its message.
use Rattle.std.specs.Prelude.{◌++◌, codes, decimal}
use Rattle.bac_text.specs.declared.pairs.PairFault.{PairFault}
use Rattle.bac_text.specs.declared.pairs.PairFault.TheVariants as pair
use Rattle.bac_words.specs.declared.faults.UsageFault.{UsageFault, TheVariants.{Help, Words, Memory, BadMac, BadIndex}}
use Rattle.bac_words.specs.{declared.faults.UsageFault.TheVariants.{BadValue, BodyTooLong}, Telling.{Told, Text, Line}}

-- The fault that the program reports for a bad pair.
abbrev pub usage_of : PairFault → UsageFault
usage_of (pair.Bad n) = BadValue n
usage_of pair.TooLong = BodyTooLong

-- The message of a fault of usage.
abbrev pub usage_told : UsageFault → Told
usage_told (Help message) = Text message
usage_told (Words message) = Text message
usage_told Memory = Line (codes "out of memory")
usage_told BadMac = Line (codes "bad mac")
usage_told BadIndex = Line (codes "bad index")
usage_told (BadValue number) = Line (codes "bad value " ++ decimal number)
usage_told BodyTooLong = Line (codes "body too long")
