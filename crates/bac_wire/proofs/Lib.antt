pub mod TagLaws
pub mod DatumLaws
pub mod ItemLaws
pub mod Walks
pub mod Computed
pub use TagLaws.*
pub use DatumLaws.*
pub use ItemLaws.*
