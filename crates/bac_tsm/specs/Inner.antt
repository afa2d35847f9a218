-- Definitions that only private contracts use. No promise of this crate rests on them.
pub mod Answers
pub mod Client
pub mod Machine
pub mod Seen
pub mod Waiting
pub mod Watching
pub mod Table
pub mod Examples
unfoldable pub use Answers.*
unfoldable pub use Client.*
unfoldable pub use Machine.*
unfoldable pub use Seen.*
unfoldable pub use Waiting.*
unfoldable pub use Watching.*
unfoldable pub use Table.*
unfoldable pub use Examples.*
