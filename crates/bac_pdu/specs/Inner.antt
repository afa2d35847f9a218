-- Definitions that only private clauses use. No promise of this crate rests on them.
pub mod Header
pub mod Datagram
pub mod Parameter
pub mod Discovery
pub mod Examples
unfoldable pub use Header.*
unfoldable pub use Datagram.*
unfoldable pub use Parameter.*
unfoldable pub use Discovery.*
unfoldable pub use Examples.*
