-- Several reads may be made for one line, and each is needed: before each of them no whole line was held.
use Rattle.std.proofs.Common.{arith, length, List, rules, subst, sym, ℕ, ◌<◌, ◌≡◌}
use Rattle.bac_print.proofs.Printed.{prints_nothing, ◌⨾◌}
use Rattle.bac_script.proofs.{next_at_end, read_for_line, searched_on, still_for_line, Takes-more}
use Rattle.bac_script.specs.{HasNoFeed, line_room, Open}
use Rattle.bac_script.proofs.input.Chunk.next_line.Goals as goal

pub loop-length-init : goal.loop-length-init
loop-length-init g c = grind (arith, rules, prints_nothing)

pub loop-length-preserved : goal.loop-length-preserved
loop-length-preserved g c =
    record {
      given = Takes-more c.loop-length.invariant.given c.read_more-reading.ensures.given;
      printed = c.loop-length.invariant.printed ⨾ c.turn_in.ensures.printed;
      sound = grind arith;
      unended = grind arith;
      asked = grind arith;
      needed = read_for_line c.loop-length.invariant.given c.loop-length.invariant.printed c.turn_in.ensures.printed
          c.turn_in.ensures.empty (search rules) c.loop-length.invariant.needed
          c.loop-length.invariant.asked c.in_default.ensures.line.no_feed c.in_default.ensures.line.short
          c.read_more-reading.ensures.last c.read_more-reading.ensures.once;
      spared = grind arith;
      room = grind arith;
      searched = rw c.in_default.ensures.searched
          (searched_on _ c.in_default.ensures.line.no_feed c.in_default.ensures.line.short
          c.read_more-reading.ensures.last);
    }

pub returns-then-failed-clause-printed : goal.returns-then-failed-clause-printed
returns-then-failed-clause-printed g c = c.loop-length.invariant.printed ⨾ c.turn_in.ensures.printed

pub returns-then-failed-clause-needed : goal.returns-then-failed-clause-needed
returns-then-failed-clause-needed g c = still_for_line c.loop-length.invariant.needed c.turn_in.ensures.printed

pub returns-then-ne-clause-next : goal.returns-then-ne-clause-next
returns-then-ne-clause-next g c =
    let over : c.read_more-reading.result ≡ Open → ⊥ = grind arith in
    let same = sym (c.read_more-reading.ensures.same over) in
    next_at_end c.loop-length.reader c.read_more-reading.result over c.len-length.ensures
    (subst HasNoFeed same c.in_default.ensures.line.no_feed)
    (subst (λ (xs : List ℕ). length xs < line_room) same c.in_default.ensures.line.short)
    c.loop-length.invariant.unended c.read_more-reading.ensures.stands

pub returns-then-ne-clause-printed : goal.returns-then-ne-clause-printed
returns-then-ne-clause-printed g c = c.loop-length.invariant.printed ⨾ c.turn_in.ensures.printed

pub returns-then-ne-clause-needed : goal.returns-then-ne-clause-needed
returns-then-ne-clause-needed g c =
    read_for_line c.loop-length.invariant.given c.loop-length.invariant.printed c.turn_in.ensures.printed
    c.turn_in.ensures.empty (search rules) c.loop-length.invariant.needed
    c.loop-length.invariant.asked c.in_default.ensures.line.no_feed c.in_default.ensures.line.short
    c.read_more-reading.ensures.last c.read_more-reading.ensures.once
