-- Each exit of the loop ends the server in another way.
use Rattle.std.proofs.{Common.{add-one, arith, sym}, lemmas.Result.err_from_is_err_and}
use Rattle.bac_links.proofs.{serve_done, serve_fails, serve_on, serve_spent, serves_none}
use Rattle.bac_links.proofs.serving.serve.Goals as goal

pub returns-then-count-eq0-clause-told : goal.returns-then-count-eq0-clause-told
returns-then-count-eq0-clause-told g c = serve_done serves_none (sym c.if-count-eq0.true)

pub returns-in_err-brought-clause-told : goal.returns-in_err-brought-clause-told
returns-in_err-brought-clause-told g c =
    let (_, was, same) = err_from_is_err_and c.from_residual.result c.from_residual.ensures.1 in
    let all = c.loop-turn.invariant in
    rw (was, same)
    (serve_fails all.goes (rw c.most_turns-turn-end.ensures at c.loop-turn-test.true) all.fewer _
    c.in_err-brought.ensures.told)

pub returns-then-came-count-clause-told : goal.returns-then-came-count-clause-told
returns-then-came-count-clause-told g c =
    let all = c.loop-turn.invariant in
    let goes = serve_on all.goes (rw c.most_turns-turn-end.ensures at c.loop-turn-test.true) all.fewer _ _
    c.in_ok-brought.ensures.told in
    serve_done goes c.if-came-count.true

pub loop-turn-preserved : goal.loop-turn-preserved
loop-turn-preserved g c =
    let all = c.loop-turn.invariant in
    record {
      sound = c.in_ok-brought.ensures.fault;
      fewer = omega (arith, all.fewer, c.in_ok-brought.ensures.few.0, c.if-came-count.false);
      few = omega (arith, all.few, c.in_ok-brought.ensures.few.1);
      goes =
          rw add-one
          (serve_on all.goes (rw c.most_turns-turn-end.ensures at c.loop-turn-test.true) all.fewer _ _
          c.in_ok-brought.ensures.told);
    }

pub returns-clause-told : goal.returns-clause-told
returns-clause-told g c =
    let all = c.loop-turn.invariant in
    serve_spent all.goes (omega arith) all.fewer
