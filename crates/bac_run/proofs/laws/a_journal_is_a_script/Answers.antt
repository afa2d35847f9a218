-- Each line of the journal is read back, and its remarks are skipped.
use Rattle.bac_run.proofs.{replays, run_back}
use Rattle.bac_run.proofs.laws.a_journal_is_a_script.Goals as goal

pub returns-clause-text : goal.returns-clause-text
returns-clause-text g c = λ setup _ _ _ _ _ _ result runs.
    (replays setup runs.acts runs.settings (run_back result runs.acts runs.takes runs.fit)).0

pub returns-clause-fault : goal.returns-clause-fault
returns-clause-fault g c = λ setup _ _ _ _ _ _ result runs.
    (replays setup runs.acts runs.settings (run_back result runs.acts runs.takes runs.fit)).1
