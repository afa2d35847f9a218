-- An application tag with its contents, as parts of a writer append it (ANSI/ASHRAE 135, 20.2.1).
use Rattle.std.specs.Prelude.{ℕ, List, ◌++◌, length}
use Rattle.bac_wire.specs.{declared.tag.Shape.TheVariants.App, Tag.plain_tag}

-- An application tag with this number, and its contents.
unfoldable pub tagged : ℕ → List ℕ → List ℕ
tagged number contents = plain_tag (record { number = number; shape = App (length contents) }) ++ contents
