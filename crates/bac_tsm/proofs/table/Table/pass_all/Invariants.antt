use Rattle.std.{proofs.Common.{length, ◌≡◌}, specs.List.list_any}
use Rattle.bac_tsm.{proofs.{due_of, HasTicked, kept_of}, specs.{client_rules, is_due}}
use Rattle.bac_tsm.proofs.table.Table.pass_all.Given as goal

abbrev pub invariant-loop-is_due : goal.invariant-loop-is_due
invariant-loop-is_due l =
    let rules = client_rules l.config.timeout l.config.retries in
    record {
      ticked : HasTicked rules l.clock (due_of rules l.clock l.initial.self) (kept_of rules l.clock l.initial.self)
          l.entries.items l.self;
      due : l.is_due ≡ list_any (is_due rules l.clock) l.self;
    }

abbrev pub decreases-loop-is_due : goal.decreases-loop-is_due
decreases-loop-is_due l = length (due_of (client_rules l.config.timeout l.config.retries) l.clock l.self)
