-- The result of a wait.
use Rattle.std.proofs.Common.{arith, refl, rules}
use Rattle.{bac_pdu.specs.{station}}
use Rattle.{bac_links.specs.{Arrived, Failure, Silence}, bac_run.proofs.{datagram_open, went_came, went_ok}}
use Rattle.bac_run.{proofs.went_passed}
use Rattle.bac_run.proofs.turns.Runner.hear.Goals as goal

pub returns-in-Ok-None-clause-went : goal.returns-in-Ok-None-clause-went
returns-in-Ok-None-clause-went g c =
    went_passed Silence tt c.passes.ensures.same c.longest_wait-wait_ms.ensures (c.passes.ensures.passes c.args.now)
    c.requires.sound c.requires.out (rw c.in-Ok-None.field-0-is at c.in-Ok-None.ensures.told)

pub returns-in-Err-clause-went : goal.returns-in-Err-clause-went
returns-in-Err-clause-went g c =
    went_passed Failure tt refl c.longest_wait-wait_ms.ensures (λ aims. refl) c.requires.sound c.requires.out
    c.in-Err.ensures.told

pub returns-then-not-has_line-clause-went : goal.returns-then-not-has_line-clause-went
returns-then-not-has_line-clause-went g c =
    went_passed (Arrived (station c.in-Ok-Some.from) c.receive.new.datagram)
    (grind (arith, c.has_line.ensures, c.if-not-has_line.true, c.as_slice-octets.ensures.value))
    c.defers.ensures.same c.longest_wait-wait_ms.ensures (c.defers.ensures.defers c.args.now) c.requires.sound
    c.requires.out (rw c.in-Ok-Some.field-0-is at c.in-Ok-Some.ensures.told)

pub returns-clause-went : goal.returns-clause-went
returns-clause-went g c =
    let plain = rw c.in-Ok-Some.field-0-is at c.in-Ok-Some.ensures.plain in
    went_ok c.defers-2.result
    (went_came (station c.in-Ok-Some.from) c.as_slice-octets.result.now (
      search rules,
      search rules,
      grind (arith, plain),
      search rules,
      grind (arith, c.has_line.ensures, c.if-not-has_line.false),
    ) c.defers-2.ensures.same c.datagram.ensures.answer c.datagram.ensures.left c.longest_wait-wait_ms.ensures
    (c.defers-2.ensures.defers c.args.now) c.print_arrival.ensures c.remark_end.ensures c.requires.sound c.requires.out
    (rw c.as_slice-octets.ensures.value (rw c.in-Ok-Some.field-0-is at c.in-Ok-Some.ensures.told)))

pub returns-clause-kept : goal.returns-clause-kept
returns-clause-kept g c =
    rw (c.defers-2.ensures.same, c.datagram.ensures.left)
    (datagram_open c.args.self.now.client (station c.in-Ok-Some.from) c.as_slice-octets.result.now)
