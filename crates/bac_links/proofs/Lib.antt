mod LinkLaws
mod CallTurns
pub mod Listening
pub mod CallLaws
pub use LinkLaws.*
pub use CallTurns.*
pub use Listening.*
pub use CallLaws.*
