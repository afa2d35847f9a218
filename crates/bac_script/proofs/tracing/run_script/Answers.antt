-- Each exit of the loop ends the run in another way.
use Rattle.std.proofs.Common.{ap, arith, length-drop, length-take-le, refl, rules, sym, ◌&&◌, ◌∙◌, ◌≡◌}
use Rattle.{bac_wire.specs.result_seen, bac_script.proofs.{faulty, goes_on, SoFar-none, to_end, to_last, unread}}
use Rattle.bac_script.proofs.{unwritten, tracing.run_script.Goals.{else-is_first, then-is_first}}
use Rattle.bac_script.specs.{is_nothing, line_seen, Open, said, contracts.input.Reading.the_type}
use denote.Enum.Bare.{same_true}
use Rattle.bac_script.proofs.tracing.run_script.Goals as goal

pub loop-next-init : goal.loop-next-init
loop-next-init g c = record {
  so_far = SoFar-none _ _ _ _ _ _ _ c.requires.page c.requires.unfolded c.requires.reader c.new-chunk.ensures
      c.usual_client-client.ensures c.small_device-device.ensures;
  room = rw c.new-chunk.ensures (omega arith);
}

pub returns-in_err-next-clause-script : goal.returns-in_err-next-clause-script
returns-in_err-next-clause-script g c =
    unwritten Open 0 c.loop-next.invariant.so_far c.next_line.ensures.given c.in_err-next.ensures.next
    (omega (arith, c.in_err-next.ensures.asked)) c.next_line.ensures.needed c.next_line.ensures.spared
    c.next_line.ensures.printed _ (search rules)

pub returns-then-eq-clause-script : goal.returns-then-eq-clause-script
returns-then-eq-clause-script g c =
    let n = c.in_ok-next.ensures.next in
    unread _ _ c.loop-next.invariant.so_far c.next_line.ensures.given n.stands c.in_ok-next.ensures.asked
    c.next_line.ensures.needed c.next_line.ensures.spared c.next_line.ensures.printed
    (same_true the_type (search rules) _ _ (sym c.if-eq.ensures)) n.cut

pub returns-then-next-eq0-clause-script : goal.returns-then-next-eq0-clause-script
returns-then-next-eq0-clause-script g c =
    let n = c.in_ok-next.ensures.next in
    to_end _ _ c.loop-next.invariant.so_far c.next_line.ensures.given n.stands c.in_ok-next.ensures.asked
    c.next_line.ensures.needed c.next_line.ensures.spared c.next_line.ensures.printed
    (λ e. absurd (let bad = rw e at c.if-eq.ensures in cc)) n.cut c.if-next-eq0.true

pub returns-in-Err-clause-script : goal.returns-in-Err-clause-script
returns-in-Err-clause-script g c =
    let n = c.in_ok-next.ensures.next in
    rw c.fault_in_line.ensures
    (faulty _ _ c.loop-next.invariant.so_far c.next_line.ensures.given n.stands c.in_ok-next.ensures.asked
    c.next_line.ensures.needed c.next_line.ensures.spared c.next_line.ensures.printed
    c.in-Err.fault (λ e. absurd (let bad = rw e at c.if-eq.ensures in cc)) n.cut
    (omega (arith, length-take-le c.in_ok-next.next.length c.next_line.new.self n.within, c.if-next-eq0.false))
    (ap (said c.loop-next.is_first) (sym c.front.ensures) ∙ sym c.read_line.ensures
    ∙ ap (result_seen line_seen) c.in-Err.is))

pub returns-then-eq-2-clause-script : goal.returns-then-eq-2-clause-script
returns-then-eq-2-clause-script g c =
    let s = c.loop-next.invariant.so_far in
    let n = c.in_ok-next.ensures.next in
    to_last _ _ s c.next_line.ensures.given n.stands c.in_ok-next.ensures.asked c.next_line.ensures.needed
    c.next_line.ensures.spared c.next_line.ensures.printed
    (line_seen c.in-Ok.line) (same_true the_type (search rules) _ _ (sym c.if-eq-2.ensures)) n.cut
    (omega (arith, length-take-le c.in_ok-next.next.length c.next_line.new.self n.within, c.if-next-eq0.false))
    (ap (said c.loop-next.is_first) (sym c.front.ensures) ∙ sym c.read_line.ensures
    ∙ ap (result_seen line_seen) c.in-Ok.is) (c.run_line.ensures.text s.stage s.kept)

pub loop-next-preserved : goal.loop-next-preserved
loop-next-preserved g c =
    let s = c.loop-next.invariant.so_far in
    let n = c.in_ok-next.ensures.next in
    let first : c.if-is_first.is_first ≡ (c.loop-next.is_first && is_nothing (line_seen c.in-Ok.line)) =
    elim c.if-is_first.branch [
      | then-is_first w ↦ w.is_first-is ∙ w.is_skipped-is_first.ensures ∙ sym (rw w.if-is_first.true refl)
      | else-is_first w ↦ w.is_first-is ∙ sym (rw w.if-is_first.false refl)
    ] in
    rw c.skip.ensures
    (record {
      so_far =
          goes_on _ _ s c.next_line.ensures.given n.stands c.in_ok-next.ensures.asked c.next_line.ensures.needed
          c.next_line.ensures.spared c.next_line.ensures.printed (line_seen c.in-Ok.line)
          (λ e. absurd (let bad = rw e at c.if-eq.ensures in cc))
          (λ e. absurd (let bad = rw e at c.if-eq-2.ensures in cc)) n.cut
          (ap (said c.loop-next.is_first) (sym c.front.ensures) ∙ sym c.read_line.ensures
          ∙ ap (result_seen line_seen) c.in-Ok.is) first (c.run_line.ensures.stage s.stage s.kept)
          (c.run_line.ensures.text s.stage s.kept);
      room = omega (arith, n.within, length-drop c.in_ok-next.next.length c.next_line.new.self, c.if-next-eq0.false);
    })
