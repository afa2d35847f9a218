mod Calls
mod Computed
pub mod Laws
mod WholeRun
mod TableTick
pub use Calls.*
pub use WholeRun.*
pub use WholeRun.RequestLife.*
pub use TableTick.*
pub use TableTick.TableLaws.*
