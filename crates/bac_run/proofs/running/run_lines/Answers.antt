-- Each exit of the loop ends the run in another way.
use Rattle.std.proofs.{Common.{arith, length-drop, refl, rules, sym, ◌≡◌}, lemmas.Result.err_from_is_err_and}
use Rattle.{bac_script.specs.contracts.input.Reading.the_type, bac_run.proofs.{ends_well, none_next, over_wait}}
use Rattle.bac_run.proofs.{reads_on, so_far_more, so_far_none, still_open, stops_behind, stops_line, stops_reading}
use Rattle.bac_run.{proofs.stops_unread, specs.{AtEnd, Failed, Open}}
use denote.Enum.Bare.{same_true}
use Rattle.bac_run.proofs.running.run_lines.Goals as goal

pub lines-init : goal.lines-init
lines-init g c = record {
  reader = c.requires.reader;
  link = c.requires.link;
  so_far = so_far_none _ _ _ c.print_settings.ensures refl c.new.ensures refl c.requires.reader c.new-chunk.ensures;
  room = rw c.new-chunk.ensures (omega arith);
}

pub returns-in_err-next-clause-runs : goal.returns-in_err-next-clause-runs
returns-in_err-next-clause-runs g c =
    let (_, was, same) = err_from_is_err_and c.from_residual.result c.from_residual.ensures.1 in
    let n = c.next_line.ensures in
    rw (was, same) (stops_unread c.lines.invariant.so_far n.given n.printed n.needed c.in_err-next.ensures.next)

pub returns-then-eq-clause-runs : goal.returns-then-eq-clause-runs
returns-then-eq-clause-runs g c =
    let failed : c.in_ok-next.next.reading ≡ Failed = same_true the_type (search rules) _ _ (sym c.if-eq.ensures) in
    let n = c.next_line.ensures in
    stops_reading c.lines.invariant.so_far n.given n.printed n.needed c.stop.result
    (rw failed at c.in_ok-next.ensures.next) c.stop.ensures.went c.stop.ensures.over

pub returns-then-next-eq0-clause-runs : goal.returns-then-next-eq0-clause-runs
returns-then-next-eq0-clause-runs g c =
    let n = c.next_line.ensures in
    let (over, none) = none_next c.in_ok-next.next.reading c.in_ok-next.ensures.next
    (λ e. absurd (let bad = rw e at c.if-eq.ensures in cc)) c.if-next-eq0.true in
    ends_well (reads_on c.lines.invariant.so_far n.given n.printed n.needed AtEnd _
    (rw over at c.in_ok-next.ensures.next).stands) _ none c.end.ensures.went c.end.ensures.lines c.end.ensures.over

pub returns-in_err-take_line-clause-runs : goal.returns-in_err-take_line-clause-runs
returns-in_err-take_line-clause-runs g c =
    let (_, was, same) =
    err_from_is_err_and c.from_residual-in_err-take_line.result c.from_residual-in_err-take_line.ensures.1 in
    let n = c.next_line.ensures in
    rw (was, same)
    (stops_line c.lines.invariant.so_far n.given n.printed n.needed c.in_ok-next.ensures.next
    (λ e. absurd (let bad = rw e at c.if-eq.ensures in cc)) (λ none. omega (arith, none, c.if-next-eq0.false))
    c.front.ensures _ c.in_err-take_line.ensures.went c.in_err-take_line.ensures.over)

pub returns-in_err-make_room-clause-runs : goal.returns-in_err-make_room-clause-runs
returns-in_err-make_room-clause-runs g c =
    let (_, was, same) =
    err_from_is_err_and c.from_residual-in_err-make_room.result c.from_residual-in_err-make_room.ensures.1 in
    let n = c.next_line.ensures in
    rw (was, same)
    (stops_behind c.lines.invariant.so_far n.given n.printed n.needed c.in_ok-next.ensures.next
    (λ e. absurd (let bad = rw e at c.if-eq.ensures in cc)) (λ none. omega (arith, none, c.if-next-eq0.false))
    c.front.ensures _ c.in_ok-take_line.ensures.went c.in_err-make_room.ensures.went
    (over_wait _ _ c.in_err-make_room.ensures.cause))

pub returns-then-eq-2-clause-runs : goal.returns-then-eq-2-clause-runs
returns-then-eq-2-clause-runs g c =
    let last : c.in_ok-next.next.reading ≡ AtEnd = same_true the_type (search rules) _ _ (sym c.if-eq-2.ensures) in
    let n = c.next_line.ensures in
    let next = rw last at c.in_ok-next.ensures.next in
    ends_well
    (so_far_more c.lines.invariant.so_far n.given n.printed n.needed next (λ e. cc)
    (λ none. omega (arith, none, c.if-next-eq0.false)) c.front.ensures c.in_ok-take_line.ensures.good
    c.in_ok-take_line.ensures.went c.in_ok-make_room.ensures.went c.in_ok-make_room.ensures.room) _ next.stands.empty
    c.end-then-eq-2.ensures.went c.end-then-eq-2.ensures.lines c.end-then-eq-2.ensures.over

pub lines-preserved : goal.lines-preserved
lines-preserved g c =
    let on : c.in_ok-next.next.reading ≡ Open = still_open c.in_ok-next.next.reading
    (λ e. absurd (let bad = rw e at c.if-eq.ensures in cc)) (λ e. absurd (let bad = rw e at c.if-eq-2.ensures in cc)) in
    let n = c.next_line.ensures in
    let next = rw on at c.in_ok-next.ensures.next in
    rw c.skip.ensures
    (record {
      reader = next.stands.sound;
      link = c.in_ok-make_room.ensures.fault;
      so_far = so_far_more c.lines.invariant.so_far n.given n.printed n.needed next (λ e. cc)
          (λ none. omega (arith, none, c.if-next-eq0.false)) c.front.ensures c.in_ok-take_line.ensures.good
          c.in_ok-take_line.ensures.went c.in_ok-make_room.ensures.went c.in_ok-make_room.ensures.room;
      room =
          omega (
            arith,
            c.lines.invariant.room,
            n.room,
            next.within,
            length-drop c.in_ok-next.next.length c.next_line.new.self,
            c.if-next-eq0.false,
          );
    })
