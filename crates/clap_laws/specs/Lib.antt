pub mod Passes
pub mod Numbers
pub mod Commands
pub mod Entering
pub mod Inner
unfoldable pub use Passes.*
unfoldable pub use Numbers.*
unfoldable pub use Commands.*
unfoldable pub use Entering.*
