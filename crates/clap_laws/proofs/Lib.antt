pub mod Parsed
pub use Parsed.*
