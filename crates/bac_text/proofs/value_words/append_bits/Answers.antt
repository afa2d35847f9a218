-- There are eight digits to an octet; the missing ones of the last octet are the unused bits.
use Rattle.std.proofs.Common.{ap, arith, drop, length, length-set, refl, sym, ◌*◌, ◌<◌, ◌∙◌, ◌≡◌}
use Rattle.std.proofs.lemmas.List.{take_rest, Edits.fill_by_more}
use Rattle.bac_text.{proofs.{bits-long, bits-written}, specs.bits_octet}
use Rattle.bac_text.proofs.value_words.append_bits.Goals as goal

pub returns-then-count-gt-FRAME_OCTETS-clause-value : goal.returns-then-count-gt-FRAME_OCTETS-clause-value
returns-then-count-gt-FRAME_OCTETS-clause-value c =
    bits-long _ c.args.digits.now (sym c.are_bits.ensures ∙ c.if-not-are_bits.false) (omega arith)

pub loop-i-preserved : goal.loop-i-preserved
loop-i-preserved c =
    let within : c.loop-i.i < length c.loop-i.room = omega arith in
    let same : c.bits_octet.result ≡ bits_octet (drop (8 * c.loop-i.i) c.args.digits.now) =
    c.bits_octet.ensures ∙ ap bits_octet (take_rest c.args.digits.now (8 * c.loop-i.i)) in
    record {
      room = length-set c.loop-i.room c.loop-i.i _ ∙ c.loop-i.invariant.room;
      written = rw same (fill_by_more _ c.loop-i.room c.loop-i.i 0 within c.loop-i.invariant.written);
    }

pub returns-clause-value : goal.returns-clause-value
returns-clause-value c =
    let e = bits-written _ _ _ _ (sym c.are_bits.ensures ∙ c.if-not-are_bits.false) c.div_ceil-count.ensures
    (omega arith) (λ k h. c.loop-i.invariant.written k (omega arith)) refl in
    rw e c.append_value.ensures.value
