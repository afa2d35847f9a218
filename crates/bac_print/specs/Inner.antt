-- Definitions that only private clauses use. No promise of this crate rests on them.
pub mod Checked
pub mod Values
pub mod Page
pub mod Examples
unfoldable pub use Checked.*
unfoldable pub use Values.*
unfoldable pub use Page.*
unfoldable pub use Examples.*
