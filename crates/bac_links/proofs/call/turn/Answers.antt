-- The clause of a turn holds for any call that the client may be in, since the client does not know which.
use Rattle.std.proofs.Common.{refl}
use Rattle.{bac_tsm.specs.outcome_seen, bac_links.proofs.{alone, answered, on, timed_out, unheard, unsent}}
use Rattle.bac_links.proofs.call.turn.Goals as goal

pub returns-in-Ok-Some-clause-ok : goal.returns-in-Ok-Some-clause-ok
returns-in-Ok-Some-clause-ok g c purpose call seen n wait within far =
    let hears = rw (c.in-Ok-Some.field-0-is, wait) at c.in-Ok-Some.ensures.ok in
    answered within far hears.heard hears.gains (outcome_seen c.in-Ok-Some.outcome) hears.received hears.ends

pub returns-in-Ok-true-clause-ok : goal.returns-in-Ok-true-clause-ok
returns-in-Ok-true-clause-ok g c purpose call seen n wait within far =
    let hears = rw (c.in-Ok-None.field-0-is, wait) at c.in-Ok-None.ensures.ok in
    let ticks = rw c.in-Ok-true.field-0-test at c.in-Ok-true.ensures.ok in
    timed_out within far hears (ticks (alone within far hears))

pub returns-in-Ok-false-clause-ok : goal.returns-in-Ok-false-clause-ok
returns-in-Ok-false-clause-ok g c purpose call seen n wait within far =
    let hears = rw (c.in-Ok-None.field-0-is, wait) at c.in-Ok-None.ensures.ok in
    let ticks = rw c.in-Ok-false.field-0-test at c.in-Ok-false.ensures.ok in
    on within far hears (ticks (alone within far hears))

pub returns-in-Err-pass_time-clause-over : goal.returns-in-Err-pass_time-clause-over
returns-in-Err-pass_time-clause-over g c purpose call seen n wait within far =
    let hears = rw (c.in-Ok-None.field-0-is, wait) at c.in-Ok-None.ensures.ok in
    let ticks = c.in-Err-pass_time.ensures.lost (alone within far hears) in
    rw c.in-Err-pass_time.ensures.err (unsent within far hears ticks)

pub returns-in-Err-clause-over : goal.returns-in-Err-clause-over
returns-in-Err-clause-over g c purpose call seen n wait within far =
    rw c.in-Err.ensures.err (unheard within far _ (rw wait at c.in-Err.ensures.lost) refl)
