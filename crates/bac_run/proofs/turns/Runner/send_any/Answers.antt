-- A note on anything but a send has no datagram.
use Rattle.std.proofs.Common.{ap, List, sym, ℕ, ◌++◌}
use Rattle.{bac_pdu.specs.Station, bac_run.proofs.{went_from, went_nothing}}
use Rattle.bac_run.specs.Inner.{to_hand}
use Rattle.bac_run.proofs.turns.Runner.send_any.Goals as goal

pub returns-in_default-clause-went : goal.returns-in_default-clause-went
returns-in_default-clause-went g c =
    went_from (λ (later, aims). ap (λ (xs : List (Station × List ℕ)). to_hand c.args.self.now (xs ++ later, aims))
    (sym c.in_default.ensures)) (went_nothing _ _ _ _)
