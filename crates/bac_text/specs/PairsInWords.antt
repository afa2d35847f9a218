-- The order in the words of a property's value, in the standard's words.
use Rattle.std.specs.Prelude.{List, Ok, Option, Some, ℕ, ◌≡◌}
use Rattle.bac_wire.specs.{IsShortest, Spells, SpellsAll, values_of, Datum.Datum, Identifier.Identifier}
use Rattle.{bac_pdu.specs.Property.IsWriteBody, bac_text.specs.Pairs.{order_of, values_in}}

module _ (object : Identifier) (property : ℕ) (index priority : Option ℕ) (words : List (List ℕ)) where
  -- A body orders a region as the value of the property, in the fewest octets. The region is the spellings of the
  -- words' values, one after another, and is read as these values.
  pub record IsWritten (body : List ℕ) : Type 0 where
    pub values : List Datum
    pub region : List ℕ
    pub said : values_in words ≡ Ok values
    pub spelled : SpellsAll Spells region values
    pub read : values_of region ≡ Some values
    pub ordered : IsShortest IsWriteBody body (order_of object property index priority region)
