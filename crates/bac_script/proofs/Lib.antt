pub mod Courses
pub mod Computed
pub mod ReadBack
pub mod Replayed
pub use Courses.*
pub use Courses.Chunks.*
