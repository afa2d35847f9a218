pub mod Fault
pub mod Journal
pub mod Own
pub mod Input
pub mod Course
pub mod Effects
pub mod Run
pub mod Replay
pub mod Inner
unfoldable pub use Fault.*
unfoldable pub use Journal.*
unfoldable pub use Own.*
unfoldable pub use Input.*
unfoldable pub use Course.*
unfoldable pub use Effects.*
unfoldable pub use Run.*
unfoldable pub use Replay.*
pub use Rattle.bac_tsm.specs.{new_client}
pub use Rattle.bac_links.specs.declared.fault.ToolFault.TheVariants.{ReceiveFailed, SendFailed, TurnsSpent}
pub use Rattle.bac_script.specs.declared.input.Reading.{Reading, TheVariants.{AtEnd, Failed, Open}}
pub use Rattle.bac_script.specs.declared.{line.LineFault.LineFault, tracing.TraceEnd.TraceEnd}
pub use Rattle.bac_script.specs.declared.tracing.TraceFault.{TraceFault, TheVariants.{BadLine, LineTooLong, ReadFailed}}
pub use Rattle.bac_print.specs.declared.{checked.Checked.Checked, page.Page.Page}
pub use Rattle.bac_run.specs.declared.{fault.RunFault.{RunFault, TheVariants.{Link, Script}}, setup.Setup.Setup}
pub use Rattle.bac_run.specs.declared.turns.Until.TheVariants.{ClockAt, FewOpen, TimeTold}
