-- Definitions that only private clauses use. No promise of this crate rests on them.
pub mod Words
pub mod Search
pub mod Leading
pub mod HexLanes
pub mod Address
pub mod ValueWords
pub mod Pairs
pub mod Examples
unfoldable pub use Words.*
unfoldable pub use Search.*
unfoldable pub use Leading.*
unfoldable pub use HexLanes.*
unfoldable pub use Address.*
unfoldable pub use ValueWords.*
unfoldable pub use Pairs.*
unfoldable pub use Examples.*
