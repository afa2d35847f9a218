-- The message of a fault.
use Rattle.std.specs.Prelude.{List, None, Option, Some, ℕ}
use Rattle.{clap.specs.declared.error.Error.Error, bac_print.specs.message_text}
use Rattle.bac_words.specs.declared.telling.Telling.{Telling}
use Rattle.bac_words.specs.declared.telling.Telling.TheVariants as telling

-- A text of `clap`, or one of this program.
pub data Told : Type 0 where
  Text : (message : Error) → Told
  Line : (text : List ℕ) → Told

-- The message that contracts see of a `Telling`.
abbrev pub told_by : Telling → Told
told_by (telling.Text message) = Text message.now
told_by (telling.Line message) = Line (message_text message)

-- The octets of a message. Those of a text of `clap` are not specified.
abbrev pub telling_octets : Telling → Option (List ℕ)
telling_octets (telling.Text message) = None
telling_octets (telling.Line message) = Some (message_text message)
