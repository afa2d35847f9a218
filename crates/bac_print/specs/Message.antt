-- The message of a fault.
use Rattle.std.specs.Prelude.{ℕ, List, ◌++◌, decimal}
use Rattle.bac_print.specs.declared.message.FaultMessage.{FaultMessage, TheVariants.{Text, Numbered}}

abbrev pub message_text : FaultMessage → List ℕ
message_text (Text text) = text.now
message_text (Numbered before number after) = before.now ++ (decimal number ++ after.now)
