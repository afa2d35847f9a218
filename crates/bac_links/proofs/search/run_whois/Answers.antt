-- Each exit of the loop ends the search in another way.
use Rattle.std.proofs.{Common.{add-one, arith, refl, ◌∙◌}, lemmas.Result.err_from_is_err_and}
use Rattle.bac_links.{proofs.{ended, fails, goes_on, search_spent, search_unbegun}, specs.{Bad, Good}}
use Rattle.bac_links.proofs.search.run_whois.Goals as goal

pub returns-in_err-ask-clause-told : goal.returns-in_err-ask-clause-told
returns-in_err-ask-clause-told g c = grind (arith, err_from_is_err_and, search_unbegun)

pub returns-in_err-any-clause-told : goal.returns-in_err-any-clause-told
returns-in_err-any-clause-told g c =
    let (_, was, same) = err_from_is_err_and c.from_residual-in_err-any.result c.from_residual-in_err-any.ensures.1 in
    rw (was, same) (fails c.loop-turn.invariant.goes
    (rw c.most_turns-turn-end.ensures at c.loop-turn-test.true) _ _ _ c.turn_wait-wait_ms.ensures
    c.in_err-any.ensures.told)

pub returns-then-any-clause-told : goal.returns-then-any-clause-told
returns-then-any-clause-told g c =
    let told = rw c.turn_wait-wait_ms.ensures at c.in_ok-any.ensures.told in
    let over = rw (c.from.ensures, c.max-greatest.ensures) at c.if-greatest-first.true in
    ended c.loop-turn.invariant.goes
    (rw c.most_turns-turn-end.ensures at c.loop-turn-test.true) told _ c.now.ensures.told Good
    (rw c.if-any.true refl) over

pub returns-else-any-clause-told : goal.returns-else-any-clause-told
returns-else-any-clause-told g c =
    let told = rw c.turn_wait-wait_ms.ensures at c.in_ok-any.ensures.told in
    let over = rw (c.from.ensures, c.max-greatest.ensures) at c.if-greatest-first.true in
    ended c.loop-turn.invariant.goes
    (rw c.most_turns-turn-end.ensures at c.loop-turn-test.true) told _ c.now.ensures.told Bad
    (rw c.if-any.false refl) over

pub loop-turn-preserved : goal.loop-turn-preserved
loop-turn-preserved g c =
    let told = rw c.turn_wait-wait_ms.ensures at c.in_ok-any.ensures.told in
    let in_time = rw (c.from.ensures, c.max-greatest.ensures) at c.if-greatest-first.false in
    record {
      sound = c.now.ensures.fault ∙ c.in_ok-any.ensures.link_fault;
      unfailed = c.in_ok-any.ensures.write_fault;
      later = omega (arith, c.loop-turn.invariant.later, c.max-greatest.ensures);
      goes =
          rw (c.max-greatest.ensures, add-one) (goes_on c.loop-turn.invariant.goes
          (rw c.most_turns-turn-end.ensures at c.loop-turn-test.true) told _ c.now.ensures.told in_time);
    }

pub returns-clause-told : goal.returns-clause-told
returns-clause-told g c = search_spent c.loop-turn._turn (omega arith) c.loop-turn.invariant.goes
