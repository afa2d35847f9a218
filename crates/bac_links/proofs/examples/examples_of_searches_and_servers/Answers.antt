-- A run is given by what its link gained.
use Rattle.std.{proofs.Common.{[], ap, arith, None, refl, ℕ}, specs.List.last_or}
use Rattle.{bac_pdu.specs.wrapped, bac_links.proofs.CallTurns.last_push}
use Rattle.bac_links.specs.{Account, Inner.{deaf, unsearched}}
use Rattle.bac_links.proofs.examples.examples_of_searches_and_servers.Goals as goal

pub returns-clause-searched : goal.returns-clause-searched
unfolding wrapped
returns-clause-searched c = record {
  plays = record { gained = unsearched; gains = refl; follows = grind arith; over = refl };
  printed = grind arith;
}

pub returns-clause-cut_off : goal.returns-clause-cut_off
unfolding wrapped
returns-clause-cut_off c = λ h.
    let last = ap (λ (a : Account ℕ). last_or None a.history) h.gains in grind (arith, last, last_push None h.earlier)

pub returns-clause-served : goal.returns-clause-served
returns-clause-served c =
    record { plays = record { gained = deaf; gains = refl; follows = grind arith; over = refl }; device = refl }

pub returns-clause-served_none : goal.returns-clause-served_none
returns-clause-served_none c =
    record { plays = record { gained = []; gains = refl; follows = tt; over = refl }; device = refl }
