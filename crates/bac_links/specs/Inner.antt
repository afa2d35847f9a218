-- Definitions that only private contracts use. No promise of this crate rests on them.
pub mod Note
pub mod Ending
pub mod CallSteps
pub mod Search
pub mod SearchSteps
pub mod ServeSteps
pub mod Examples
pub mod Receive
unfoldable pub use Note.*
unfoldable pub use Ending.*
unfoldable pub use CallSteps.*
unfoldable pub use Search.*
unfoldable pub use SearchSteps.*
unfoldable pub use ServeSteps.*
unfoldable pub use Examples.*
unfoldable pub use Receive.*
