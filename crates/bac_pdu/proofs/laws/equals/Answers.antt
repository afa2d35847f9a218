-- A derived `==` compares field by field, and here the fields are the whole value.
use Rattle.std.proofs.{Common.{arith, eqb, Option, true, ℕ, ◌↔◌, ◌≡◌}, lemmas.Bool.{and_parts, eq-eqb, eqb-true}}
use Rattle.std.specs.{Cmp.Lexicographic.bytes_decides, Option.option_eq}
use Rattle.bac_pdu.proofs.{peer_decides, route_decides}
use Rattle.bac_pdu.proofs.laws.equals.Goals as goal

pub returns-clause-peer : goal.returns-clause-peer
returns-clause-peer c = peer_decides

pub returns-clause-route : goal.returns-clause-route
returns-clause-route c = route_decides

same_option : (a b : Option ℕ) → (option_eq eqb a b ≡ true) ↔ (a ≡ b)
same_option = grind (arith, eqb-true, eq-eqb)

pub returns-clause-write : goal.returns-clause-write
returns-clause-write c = grind (arith, same_option, bytes_decides, and_parts, eqb-true, eq-eqb)
