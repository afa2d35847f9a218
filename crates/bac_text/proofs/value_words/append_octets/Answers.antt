-- The number of digits is odd, not all are digits, or there are too many: in each case the definition refuses them too.
use Rattle.std.proofs.Common.{arith, sym, ◌∙◌}
use Rattle.bac_text.proofs.{octets-decoded, octets-long, others_refused}
use Rattle.bac_text.proofs.value_words.append_octets.Goals as goal

pub returns-then-digits-eq1-clause-value : goal.returns-then-digits-eq1-clause-value
returns-then-digits-eq1-clause-value c = grind (arith, others_refused)

pub returns-then-count-gt-FRAME_OCTETS-clause-value : goal.returns-then-count-gt-FRAME_OCTETS-clause-value
returns-then-count-gt-FRAME_OCTETS-clause-value c =
    let odd = c.if-digits-eq1.false in
    octets-long _ _ (omega arith) (sym c.is_hex.ensures ∙ c.if-not-is_hex.false) c.if-count-gt-FRAME_OCTETS.true

pub returns-clause-value : goal.returns-clause-value
returns-clause-value c =
    let odd = c.if-digits-eq1.false in
    let e =
    octets-decoded c.args.digits.now _ _ _ _ (sym c.is_hex.ensures ∙ c.if-not-is_hex.false)
    (omega arith) c.if-count-gt-FRAME_OCTETS.false c.decode_to_slice.ensures.value in
    rw e c.append_value.ensures.value
