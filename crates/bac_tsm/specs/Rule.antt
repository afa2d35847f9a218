-- The rule that the look-ahead keeps to, whatever the events are.
use Rattle.std.specs.{Prelude.{◌≡◌, ◌≢◌, ℕ, ◌+◌, ◌≤◌, List, length, filter}, List.{All, AllPairs}}
use Rattle.bac_tsm.specs.{Events.{Event, Rules}, Laws.InvokeIdsComeBackLate, Watching.{is_send_of, is_end_of}}
use Rattle.bac_tsm.specs.Lookahead.{Accepted, accepted, open_at, sends, send_notes, end, end_notes, output}

-- The rule of the look-ahead, for a list of events.
pub record FollowsTheRule (rules : Rules) (first_ticket : ℕ) (events : List Event) : Type 0 where
  -- At each position the open requests keep to the limit.
  pub few : (n : ℕ) → length (open_at rules first_ticket events n) ≤ rules.most_open
  -- No two open requests have the same invoke id.
  pub apart : (n : ℕ)
      → AllPairs (λ a b. a.request.invoke_id ≢ b.request.invoke_id) (open_at rules first_ticket events n)
  -- A request is placed to be sent at most once more than the retries.
  pub few_sends : (a : Accepted) → length (sends rules events a) ≤ 1 + rules.retries
  -- The notes that send a request stand exactly where it is placed to be sent, with its peer and octets.
  pub sent_where_placed : (i : ℕ) → All (λ a. filter (is_send_of a.request.ticket) (output rules first_ticket events i)
      ≡ send_notes rules events i a) (accepted rules first_ticket events (length events))
  -- The note that ends a request stands exactly where its end is, with the outcome.
  pub ended_where_placed : (i : ℕ) → All (λ a. filter (is_end_of a.request.ticket) (output rules first_ticket events i)
      ≡ end_notes i a.request (end rules events a)) (accepted rules first_ticket events (length events))
  -- Two accepted requests with the same invoke id are far apart: at least 256 minus the limit of open requests others
  -- stand between them.
  pub reuse : InvokeIdsComeBackLate rules.most_open (accepted rules first_ticket events (length events))
