-- The calls of a log are given entry by entry.
use Rattle.std.proofs.Common.{[], arith, Err, None, refl, Some, true, ◌∷◌}
use Rattle.std.specs.{declared.io.ErrorKind.TheVariants.TimedOut, Net.Addr.IsIpv4OfBits}
use Rattle.bac_links.specs.{Elapsed, Limit, Receive, SendTo, Inner.local}
use Rattle.bac_links.proofs.examples.examples_of_sockets.Goals as goal

pub returns-clause-logged : goal.returns-clause-logged
returns-clause-logged c = record { calls = _; logged = refl; are = (Elapsed None ∷ [], [], refl, grind arith, refl) }

pub returns-clause-two_waits : goal.returns-clause-two_waits
returns-clause-two_waits c =
    let receive = Receive 2048 (Err TimedOut) ∷ [] in
    record {
      calls = _;
      logged = refl;
      are = (Limit 50000000 true ∷ receive, receive, refl, grind arith, (receive, [], refl, grind arith, refl));
    }

pub returns-clause-offers : goal.returns-clause-offers
unfolding IsIpv4OfBits
returns-clause-offers c =
    let second = SendTo (1 ∷ []) (local 47808) (Some 1) ∷ [] in
    record {
      calls = _;
      logged = refl;
      are = (SendTo [] (local 47808) None ∷ [], second, refl, grind arith, (second, [], refl, grind arith, refl));
    }
