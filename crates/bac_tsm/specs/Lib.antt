pub mod Limits
pub mod Events
pub mod Positions
pub mod Accepting
pub mod Requests
pub mod Lookahead
pub mod Machine
pub mod Laws
pub mod Answers
pub mod AnswersInWords
pub mod Client
pub mod Seen
pub mod Watching
pub mod Rule
pub mod Waiting
pub mod Table
pub mod Progress
pub mod Inner
unfoldable pub use Limits.*
unfoldable pub use Events.*
unfoldable pub use Positions.*
unfoldable pub use Accepting.*
unfoldable pub use Requests.*
unfoldable pub use Lookahead.*
unfoldable pub use Machine.*
unfoldable pub use Laws.*
unfoldable pub use Answers.*
unfoldable pub use AnswersInWords.*
unfoldable pub use Client.*
unfoldable pub use Seen.*
unfoldable pub use Watching.*
unfoldable pub use Rule.*
unfoldable pub use Waiting.*
unfoldable pub use Table.*
unfoldable pub use Progress.*
pub use Rattle.bac_tsm.specs.Client.{client_rules, keeping, new_client, outcome_seen, rules_of, step_of}
pub use Rattle.bac_tsm.specs.declared.{client.SubmitFault.SubmitFault, due.DueEntry.{DueEntry, TheVariants.Resend}}
pub use Rattle.bac_tsm.specs.Events.{Ask, Data, Done, Dropped, Event, Note, Outcome, Refused, Rules, Sent, Simple, Tick}
pub use Rattle.bac_tsm.specs.{Laws.{outputs, state_at}, Lookahead.{Accepted, clock, end}}
pub use Rattle.bac_tsm.specs.Machine.{due_notes, initial, sent, State, step, Stepped}
unfoldable pub use Rattle.bac_tsm.specs.Lookahead.{next_invoke_id, refusal_of}
