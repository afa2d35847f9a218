-- Definitions that only private contracts use. No promise of this crate rests on them.
pub mod Input
pub mod Line
pub mod Running
pub mod Tracing
pub mod Examples
unfoldable pub use Input.*
unfoldable pub use Line.*
unfoldable pub use Running.*
unfoldable pub use Tracing.*
unfoldable pub use Examples.*
