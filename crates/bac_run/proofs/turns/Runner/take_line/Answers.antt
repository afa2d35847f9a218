-- The acts of a line.
use Rattle.std.proofs.Common.{ap, arith, Err, IsTrue, length, List, Ok, Result, rules, sym, ℕ, ◌-◌, ◌<◌, ◌∷◌, ◌≡◌}
use Rattle.{std.proofs.lemmas.Bool.Decides.nat_tests, bac_wire.specs.identifier, bac_pdu.specs.{longest_body, station}}
use Rattle.{bac_tsm.specs.Ask, bac_text.specs.whole_body_of, bac_script.specs.{Happens, Remark, Said}}
use Rattle.{bac_script.specs.{LineSeen.long_body, LongBody.{is_long, octets_or_none}}, bac_run.proofs.line_said}
use Rattle.bac_run.{proofs.{went_at, went_nothing, went_refused}, specs.{acts_of_line, acts_of_result, acts_of_said}}
use Rattle.bac_run.specs.{Asked, Does, LineFault, NextLine, room_for, said_of}
use Rattle.bac_run.proofs.turns.Runner.take_line.Goals as goal

past : (whole : Result (List ℕ) ℕ) → IsTrue (is_long whole) → longest_body < length (octets_or_none whole)
past (Err n) h = absurd (search rules)
past (Ok body) h = grind (arith, nat_tests, h)

-- The acts of a line with this meaning, or of a bad line.
wanted : (line : List ℕ) (what : Said) → Ok what ≡ said_of line → acts_of_line line ≡ acts_of_said line what
wanted line what is = ap (λ (r : Result Said LineFault). acts_of_result line r) (sym is)

pub returns-in-Ok-Remark-clause-went : goal.returns-in-Ok-Remark-clause-went
returns-in-Ok-Remark-clause-went g c =
    let is = wanted c.args.line.now Remark (rw c.in-Ok-Remark.field-0-is at c.in-Ok-Remark.ensures) in
    line_said c.args.line.now c.args.number is (went_nothing _ _ _ _)

pub returns-in_ok-refresh_time-in-Ok-LongWrite-clause-went : goal.returns-in_ok-refresh_time-in-Ok-LongWrite-clause-went
returns-in_ok-refresh_time-in-Ok-LongWrite-clause-went g c =
    let w = c.in-Ok-LongWrite.field-0-0 in
    let asked = Asked c.args.line.now (Ask (station w.peer) 15 (long_body w)) in
    let is = wanted c.args.line.now (Happens (Ask (station w.peer) 15 (long_body w)))
    (rw c.in-Ok-LongWrite.field-0-is at c.in-Ok-LongWrite.ensures) in
    let window = c.args.self.now.setup.window in
    let few = c.in_ok-refresh_time-in-Ok-LongWrite.ensures.kept in
    line_said c.args.line.now c.args.number is
    (went_at (λ later. NextLine window c.args.number ∷ later)
    (went_refused (window - 1) c.args.line.now (station w.peer) (long_body w)
    (past (whole_body_of (identifier w.object) w.property w.index w.priority w.words) w.long)
    (went_at (λ later. Does asked ∷ room_for window ∷ later) c.in_ok-refresh_time-in-Ok-LongWrite.ensures.went)
    c.print_line.ensures c.remark.ensures
    (omega (arith, few, c.requires.room)) (omega (arith, few, c.requires.room))))
