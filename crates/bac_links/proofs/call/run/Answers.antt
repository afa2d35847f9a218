-- Each exit of the loop ends the call in another way.
use Rattle.std.proofs.{lemmas.Result.err_from_is_err_and}
use Rattle.bac_links.{proofs.{fails_so, shown_so}, specs.Inner.ending_seen}
use Rattle.bac_links.proofs.call.run.Goals as goal

pub returns-in_err-ending-clause-told : goal.returns-in_err-ending-clause-told
returns-in_err-ending-clause-told g c =
    let residual = c.from_residual-in_err-ending in
    let (_, was, same) = err_from_is_err_and residual.result residual.ensures.1 in
    rw (was, same)
    (fails_so c.args.purpose c.args.call.now g.W.Write.contents _ _ _ c.in_err-ending.ensures.err
    c.loop-turn.invariant.unwritten
    (c.in_err-ending.ensures.over c.args.purpose c.args.call.now _ _ c.turn_wait-wait_ms.ensures
    (rw c.most_turns-turn-end.ensures at c.loop-turn-test.true) c.loop-turn.invariant.so_far))

pub returns-in-Some-clause-told : goal.returns-in-Some-clause-told
returns-in-Some-clause-told g c =
    let ended = rw c.in-Some.is at
    (c.in_ok-ending.ensures.ok c.args.purpose c.args.call.now _ _ c.turn_wait-wait_ms.ensures
    (rw c.most_turns-turn-end.ensures at c.loop-turn-test.true) c.loop-turn.invariant.so_far) in
    rw (← c.loop-turn.invariant.unwritten)
    (shown_so c.args.purpose c.args.call.now g.W.Write.contents _ _ (ending_seen c.in-Some.ending) c.show_ending.result
    c.show_ending.ensures.text c.show_ending.ensures.exit c.show_ending.ensures.fault ended)
