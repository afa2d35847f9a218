pub mod DigitLaws
pub mod WordLaws
pub use DigitLaws.*
pub use WordLaws.*
