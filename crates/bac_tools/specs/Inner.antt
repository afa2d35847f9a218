-- Definitions that only private clauses use. No promise of this crate rests on them.
pub mod Examples
pub mod Program
unfoldable pub use Examples.*
unfoldable pub use Program.*
