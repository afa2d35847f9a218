-- Lemmas that crates above may cite: single calls one after another, the machine's run and the look-ahead, when there
-- are notes on a request, how timeouts end a request, and how late an invoke id comes back. Other crates cite nothing
-- else of proofs/.
pub use Rattle.bac_tsm.proofs.Calls.{by_invoke_id, few_open, opens, told_unless_answered}
pub use Rattle.bac_tsm.proofs.WholeRun.RequestLife.{back_late, clock_rises, never_due, open_soon}
pub use Rattle.bac_tsm.proofs.WholeRun.{begins, both_are, drop_head, early_unended, early_unsent, looks_back, one_step}
pub use Rattle.bac_tsm.proofs.WholeRun.{past_unended, quiet_unsent, run_first, run_whole, sends_push, sent_first}
pub use Rattle.bac_tsm.proofs.WholeRun.{sent_unended}
