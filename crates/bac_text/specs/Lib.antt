pub mod Limits
pub mod Words
pub mod Search
pub mod Address
pub mod Reach
pub mod ValueWords
pub mod Parameters
pub mod Pairs
pub mod PairsInWords
pub mod Inner
unfoldable pub use Limits.*
unfoldable pub use Words.*
unfoldable pub use Search.*
unfoldable pub use Address.*
unfoldable pub use Reach.*
unfoldable pub use ValueWords.*
unfoldable pub use Parameters.*
unfoldable pub use Pairs.*
unfoldable pub use PairsInWords.*
pub use Rattle.bac_text.specs.{Address.plain_peer_of, declared.pairs.PairFault.TheVariants.{Bad, TooLong}}
pub use Rattle.bac_text.specs.{Limits.longest_line, Pairs.whole_body_of, Words.words_of}
