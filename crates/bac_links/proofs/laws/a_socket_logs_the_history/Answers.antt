-- The invariant of the link says that the log has the calls for the history.
use Rattle.std.proofs.Math.Logic.{∥∥₁_map}
use Rattle.bac_links.proofs.laws.a_socket_logs_the_history.Goals as goal

pub returns : goal.returns
returns g c = ∥∥₁_map c.args.link.now.keeps (λ k. k.logged)
