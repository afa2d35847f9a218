pub mod DatagramLaws
pub mod BodyLaws
pub mod DiscoveryLaws
pub mod ShortestLaws
pub use DatagramLaws.*
pub use BodyLaws.*
pub use DiscoveryLaws.*
pub use ShortestLaws.*
