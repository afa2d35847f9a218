-- Definitions that only private clauses use. No promise of this crate rests on them.
pub mod Numbers
pub mod Commands
pub mod Examples
unfoldable pub use Numbers.*
unfoldable pub use Commands.*
