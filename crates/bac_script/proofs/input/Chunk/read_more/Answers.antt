-- The reader fills the chunk after the held octets, which may have been moved to the front before.
use Rattle.std.proofs.Common.{ap, arith, inr, take, ◌∙◌}
use Rattle.bac_script.proofs.{last_none, last_on, Placed, placed_moved, read_ended, read_none, read_on, still_held}
use Rattle.bac_script.proofs.input.Chunk.read_more.{Given.Over, Goals.{After-read, else-self, then-self}}
use Rattle.bac_script.proofs.input.Chunk.read_more.Goals as goal

-- The chunk before the read: the held octets were moved to the front, or there was room after them.
ready : (g : Over) (c : After-read g) →
    Placed c.if-self.self-inside.octets c.if-self.self-inside.start c.if-self.self-inside.end c.args.self.now
ready g c =
    let i = c.self.inside in
    let (order, fits) = c.self.invariant in
    elim c.if-self.branch [
      | then-self w ↦
          rw w.self-inside-is
          (placed_moved i.octets w.copy_within.new.self c.args.self.now i.start i.end c.self.view_is
          w.copy_within.ensures.after (omega (arith, w.copy_within.ensures.len))
          (omega arith) order fits c.requires.short)
      | else-self w ↦
          rw w.self-inside-is (record {
            is = c.self.view_is;
            within = order;
            room = omega (arith, w.if-self.false);
            size = omega arith;
          })
    ]

pub returns-in_default-clause-given : goal.returns-in_default-clause-given
returns-in_default-clause-given g c =
    let r = ready g c.before in
    read_none r _ _ c.in_default.ensures.passed c.in_default.ensures.bytes

pub returns-in_default-clause-same : goal.returns-in_default-clause-same
returns-in_default-clause-same g c = let r = ready g c.before in λ _. still_held r _ _

pub returns-then-count-eq0-clause-given : goal.returns-then-count-eq0-clause-given
returns-then-count-eq0-clause-given g c =
    let r = ready g c.before.before in
    read_ended r _ _ _ c.if-count-eq0.true c.in-Ok.ensures.passed c.in-Ok.ensures.bytes.0

pub returns-then-count-eq0-clause-same : goal.returns-then-count-eq0-clause-same
returns-then-count-eq0-clause-same g c = let r = ready g c.before.before in λ _. still_held r _ _

pub returns-clause-given : goal.returns-clause-given
returns-clause-given g c =
    let r = ready g c.before.before.before in
    read_on r _ _ _ c.in-Ok.ensures.bound.0 c.in-Ok.ensures.passed c.in-Ok.ensures.bytes.0

pub returns-in_default-clause-last : goal.returns-in_default-clause-last
returns-in_default-clause-last g c = let r = ready g c.before in inr (last_none r _ _ c.in_default.ensures.last)

pub returns-then-count-eq0-clause-last : goal.returns-then-count-eq0-clause-last
returns-then-count-eq0-clause-last g c =
    let r = ready g c.before.before in
    inr (last_none r _ _ (c.in-Ok.ensures.last ∙ ap (λ n. take n c.read.new.buf) c.if-count-eq0.true))

pub returns-clause-last : goal.returns-clause-last
returns-clause-last g c =
    let r = ready g c.before.before.before in
    inr (last_on r _ _ _ c.in-Ok.ensures.bound.0 c.in-Ok.ensures.last)
