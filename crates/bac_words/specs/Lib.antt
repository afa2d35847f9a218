pub mod Called
pub mod Command
pub mod Telling
pub mod Fault
pub mod Marks
pub mod Job
pub mod Line
pub mod Inner
unfoldable pub use Called.*
unfoldable pub use Command.*
unfoldable pub use Telling.*
unfoldable pub use Fault.*
unfoldable pub use Marks.*
unfoldable pub use Job.*
unfoldable pub use Line.*
pub use Rattle.bac_words.specs.Called.{words_called}
pub use Rattle.{bac_words.specs.Line.{Answers, IsRefusal}, bac_pdu.specs.declared.peer.Peer.Peer}
