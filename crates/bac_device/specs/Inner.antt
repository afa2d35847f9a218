-- Definitions that only private clauses use. No promise of this crate rests on them.
pub mod Places
pub mod Property
pub mod Reply
pub mod Demo
pub mod Examples
unfoldable pub use Places.*
unfoldable pub use Property.*
unfoldable pub use Reply.*
unfoldable pub use Demo.*
unfoldable pub use Examples.*
