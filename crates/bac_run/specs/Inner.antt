-- Definitions that only private contracts use. No promise of this crate rests on them.
pub mod Own
pub mod Went
pub mod OnPage
pub mod Examples
unfoldable pub use Own.*
unfoldable pub use Went.*
unfoldable pub use OnPage.*
unfoldable pub use Examples.*
