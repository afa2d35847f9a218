pub mod Feeds
pub mod Limits
pub mod Input
pub mod NextLine
pub mod Line
pub mod LongBody
pub mod LineSeen
pub mod Text
pub mod Running
pub mod Script
pub mod Tracing
pub mod Alike
pub mod Inner
unfoldable pub use Feeds.*
unfoldable pub use Limits.*
unfoldable pub use Input.*
unfoldable pub use NextLine.*
unfoldable pub use Line.*
unfoldable pub use LongBody.*
unfoldable pub use LineSeen.*
unfoldable pub use Text.*
unfoldable pub use Running.*
unfoldable pub use Script.*
unfoldable pub use Tracing.*
unfoldable pub use Alike.*
pub use Rattle.bac_script.specs.Alike.{GaveSame, IsFrontOf}
pub use Rattle.bac_script.specs.declared.input.Reading.{Reading, TheVariants.{AtEnd, Failed, Open}}
pub use Rattle.bac_script.specs.declared.{line.LineFault.LineFault, tracing.{TraceEnd.TraceEnd, TraceFault.TraceFault}}
pub use Rattle.bac_script.specs.declared.tracing.TraceFault.TheVariants.{BadLine, LineTooLong, ReadFailed, WriteFailed}
pub use Rattle.bac_script.specs.{Input.ReaderStands, Line.{Blank, Happens, Remark, Said, said, Settings}, Script.lines}
pub use Rattle.bac_print.specs.declared.{checked.Checked.Checked, page.Page.Page}
