pub mod Limits
pub mod Steps
pub mod Copies
pub mod Writing
pub mod Front
pub mod Tag
pub mod TagReading
pub mod Identifier
pub mod Datum
pub mod DatumReading
pub mod Region
pub mod ItemReading
pub mod Parameter
pub mod ParameterReading
pub mod Inner
unfoldable pub use Limits.*
unfoldable pub use Steps.*
unfoldable pub use Copies.*
unfoldable pub use Writing.*
unfoldable pub use Front.*
unfoldable pub use Tag.*
unfoldable pub use TagReading.*
unfoldable pub use Identifier.*
unfoldable pub use Datum.*
unfoldable pub use DatumReading.*
unfoldable pub use Region.*
unfoldable pub use ItemReading.*
unfoldable pub use Parameter.*
unfoldable pub use ParameterReading.*
pub use Rattle.bac_wire.specs.{Copies.{EqualsBy, MakesCopies}, Datum.{bit_string, boolean, char_string, datum}}
pub use Rattle.bac_wire.specs.Datum.{enumerated, IsSound, null, object, octet_string, real, signed, Spells, unsigned}
pub use Rattle.bac_wire.specs.{DatumReading.values_of, declared.tag.Shape.{Shape, TheVariants.{App, Opening}}}
pub use Rattle.bac_wire.specs.{Front.{IsShortest, SpellsAll}, Identifier.{identifier, IsIdentifier}, Limits.frame_room}
pub use Rattle.bac_wire.specs.Parameter.{number_octets, object_octets}
pub use Rattle.bac_wire.specs.{Region.IsRegion, Steps.{result_seen, ◌>>=◌}, Writing.Appends}
unfoldable pub use Rattle.bac_wire.specs.{Datum.plain, DatumReading.{contents_of, value_at, values_within}}
unfoldable pub use Rattle.bac_wire.specs.ItemReading.{behind_closing, behind_items, region_at}
unfoldable pub use Rattle.bac_wire.specs.ParameterReading.{behind_opening, context_at, enclosed_at, kind_at, number_at}
unfoldable pub use Rattle.bac_wire.specs.{ParameterReading.object_at, Tag.plain_tag}
unfoldable pub use Rattle.bac_wire.specs.TagReading.{length_at, long_length_at, shape_at, tag_at, tag_number_at}
