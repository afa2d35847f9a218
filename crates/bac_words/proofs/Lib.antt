pub mod Tools
pub use Tools.*
