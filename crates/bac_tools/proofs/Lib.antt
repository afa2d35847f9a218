pub mod RunLaws
pub mod Alike
mod Worked
pub use RunLaws.*
pub use Alike.*
