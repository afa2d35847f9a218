-- The text has no digit, octets after the digits, or a number above the limit: in each case the definition reads none.
use Rattle.bac_text.proofs.{short_big, short_empty, short_long}
use Rattle.bac_text.proofs.peers.short_number.Goals.{then-count-eq0-via-else-count-eq0+else-count-text+then-number-limit}
use Rattle.bac_text.proofs.peers.short_number.Goals.{then-count-eq0-via-else-count-eq0+then-count-text}
use Rattle.bac_text.proofs.peers.short_number.Goals.{then-count-eq0-via-then-count-eq0}
use Rattle.bac_text.proofs.peers.short_number.Goals as goal

pub returns-then-count-eq0-clause-value : goal.returns-then-count-eq0-clause-value
returns-then-count-eq0-clause-value c =
    let l = c.leading_number-number.ensures in
    elim c.then-count-eq0.branch [
      | then-count-eq0-via-then-count-eq0 w ↦ short_empty _ _ _ _ _ l w.if-count-eq0.true
      | then-count-eq0-via-else-count-eq0+then-count-text w ↦ short_long _ _ _ _ _ l w.if-count-text.true
      | then-count-eq0-via-else-count-eq0+else-count-text+then-number-limit w ↦
          short_big _ _ _ _ _ l w.if-number-limit.true
    ]
