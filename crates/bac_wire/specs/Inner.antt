-- Definitions that only private clauses use. No promise of this crate rests on them.
pub mod Writing
pub mod Front
pub mod Datum
pub mod Region
pub mod Examples
pub mod Work
unfoldable pub use Writing.*
unfoldable pub use Front.*
unfoldable pub use Datum.*
unfoldable pub use Region.*
unfoldable pub use Examples.*
unfoldable pub use Work.*
