-- Definitions that only private clauses use. No promise of this crate rests on them.
pub mod Fault
pub mod Job
pub mod Examples
unfoldable pub use Fault.*
unfoldable pub use Job.*
unfoldable pub use Examples.*
