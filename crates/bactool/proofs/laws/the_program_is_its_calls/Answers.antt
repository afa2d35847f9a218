-- The history of a link over a socket agrees with the calls that the program's sockets make.
use Rattle.std.proofs.{Common.{ap, subst, ◌∙◌}, Math.Logic.∥∥₁_map}
use Rattle.bac_links.specs.{Account, Socket.{AreCallsFor, endless, Logs, OverSocket}}
use Rattle.bac_tools.proofs.RunLaws.{run_so, run_unasked, run_without}
use Rattle.bactool.proofs.laws.the_program_is_its_calls.Goals as goal

pub returns-clause-had : goal.returns-clause-had
returns-clause-had g c = λ reader reader' writer writer' errors errors' typed run had.
    run_so run (λ link. link.socket.log.items) (λ network binding link ((bound, is), _). (
      bound,
      ap (λ (a : Account OverSocket). a.history) is,
      λ later made.
          subst (λ (m : OverSocket). ∥ Logs (AreCallsFor m.refused endless 0 later.history.items) m.calls
          later.socket.log.items ∥₁) (made ∙ ap (λ (a : Account OverSocket). a.made) is)
          (∥∥₁_map later.keeps (λ k. k.logged)),
    )) had

pub returns-clause-none : goal.returns-clause-none
returns-clause-none g c = λ reader reader' writer writer' errors errors' typed run had.
    run_without run (λ none. none.sockets) (λ none. none.log.items) (λ network binding none (_, asked). asked) had

pub returns-clause-unasked : goal.returns-clause-unasked
returns-clause-unasked g c = λ reader reader' writer writer' errors errors' typed run none.
    run_unasked _ _ _ _ _ _ _ _ _ _ _ typed run none
