pub mod Binding
pub mod Statuses
pub mod Report
pub mod Telling
pub mod Outside
pub mod Runs
pub mod Program
pub mod Calls
pub mod Alike
pub mod Inner
unfoldable pub use Binding.*
unfoldable pub use Statuses.*
unfoldable pub use Report.*
unfoldable pub use Telling.*
unfoldable pub use Outside.*
unfoldable pub use Runs.*
unfoldable pub use Program.*
unfoldable pub use Calls.*
unfoldable pub use Alike.*
pub use Rattle.bac_words.specs.declared.faults.UsageFault.{UsageFault, TheVariants.{Help, Memory}}
pub use Rattle.bac_words.specs.declared.job.{Batch.Batch, Job.{Job, TheVariants.{Run, Trace, Use}}}
pub use Rattle.bac_words.specs.declared.job.Tool.{Tool, TheVariants.{Device, Read, WhoIs, Write}}
pub use Rattle.bac_links.specs.declared.{call.Purpose.TheVariants.{Reading, Writing}, exit.Exit.Exit}
pub use Rattle.bac_links.specs.declared.fault.ToolFault.{ToolFault, TheVariants.{ReceiveFailed, WriteFailed}}
pub use Rattle.bac_links.specs.declared.udp.OnRefusal.TheVariants.{IsLost}
pub use Rattle.bac_script.specs.declared.tracing.{TraceEnd.TraceEnd, TraceFault.TraceFault}
pub use Rattle.bac_print.specs.declared.checked.Checked.{Checked}
pub use Rattle.bac_tools.specs.declared.{program.Ran.Ran, report.Fault.TheVariants.Usage}
pub use Rattle.bac_run.specs.declared.{fault.RunFault.{RunFault, TheVariants.{Link, Script}}, setup.Setup.Setup}
