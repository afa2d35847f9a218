pub mod Printed
pub mod Texts
mod NoFeed
mod Walks
pub use NoFeed.*
pub use Printed.*
