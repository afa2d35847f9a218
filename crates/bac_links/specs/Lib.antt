pub mod Limits
pub mod SystemCall
pub mod History
pub mod Asking
pub mod Answered
pub mod Played
pub mod HasPlayed
pub mod Memory
pub mod Socket
pub mod Keeps
pub mod Log
pub mod Fault
pub mod Handed
pub mod Ending
pub mod Call
pub mod Search
pub mod Sent
pub mod Serve
pub mod Progress
pub mod Inner
unfoldable pub use Limits.*
unfoldable pub use SystemCall.*
unfoldable pub use History.*
unfoldable pub use Asking.*
unfoldable pub use Answered.*
unfoldable pub use Played.*
unfoldable pub use HasPlayed.*
unfoldable pub use Memory.*
unfoldable pub use Socket.*
unfoldable pub use Keeps.*
unfoldable pub use Log.*
unfoldable pub use Fault.*
unfoldable pub use Handed.*
unfoldable pub use Ending.*
unfoldable pub use Call.*
unfoldable pub use Search.*
unfoldable pub use Sent.*
unfoldable pub use Serve.*
unfoldable pub use Progress.*
pub use Rattle.bac_links.specs.{Answered.answers_of, Call.Tells, declared.call.Purpose.{Purpose, TheVariants.Writing}}
pub use Rattle.bac_links.specs.declared.{exit.Exit.{Exit, TheVariants.{Bad, Good}}, fault.ToolFault.ToolFault}
pub use Rattle.bac_links.specs.declared.fault.ToolFault.TheVariants.{ReceiveFailed, SendFailed, TurnsSpent, WriteFailed}
pub use Rattle.bac_links.specs.{declared.udp.OnRefusal.TheVariants.Fails, History.{Account, Arrived, Entry, Failure}}
pub use Rattle.bac_links.specs.History.{GainsAll, Heard, Offered, Posted, Silence, Timed, Unposted, Waited}
pub use Rattle.bac_links.specs.{Limits.most_turns, Socket.{Binds, BindsAtMost}, SystemCall.Bind}
pub use Rattle.bac_print.specs.declared.checked.Checked.{Checked}
pub use Rattle.bac_pdu.specs.declared.discovery.WhoIs.{WhoIs}
