pub mod Answering
pub mod StateLaws
pub mod Computed
pub use Answering.*
pub use StateLaws.*
