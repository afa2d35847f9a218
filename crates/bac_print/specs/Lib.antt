pub mod StreamCall
pub mod Checked
pub mod Page
pub mod PeerTexts
pub mod Values
pub mod Outcomes
pub mod Inner
pub mod Message
unfoldable pub use StreamCall.*
unfoldable pub use Checked.*
unfoldable pub use Page.*
unfoldable pub use PeerTexts.*
unfoldable pub use Values.*
unfoldable pub use Outcomes.*
unfoldable pub use Message.*
pub use Rattle.bac_print.specs.Checked.{ends_of, fresh, Gave, has_failed, last_of, octets_of, reads_of, Took}
pub use Rattle.bac_print.specs.{Message.message_text, Page.{folded_line, held, Prints, room_of, writer_of, Writes}}
pub use Rattle.bac_print.specs.PeerTexts.{peer_text}
