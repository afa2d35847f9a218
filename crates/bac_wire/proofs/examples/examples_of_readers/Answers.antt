-- Each of these rows follows from its case of one list of octets.
use Rattle.std.proofs.Common.{[], arith, refl, Some, ◌∷◌}
use Rattle.bac_wire.{proofs.{Computed.computed, TagLaws.{spelled_back, tag_spelled}}, specs.AreOctets}
use Rattle.bac_wire.proofs.examples.examples_of_readers.Goals as goal

pub returns-clause-begun : goal.returns-clause-begun
returns-clause-begun c = λ h. let e = h [] (1 ∷ []) (1 ∷ []) [] [] (1 ∷ []) refl refl refl in grind arith

pub returns-clause-takes_none : goal.returns-clause-takes_none
returns-clause-takes_none c = λ h. let e = h.again (1 ∷ []) 1 [] refl in grind arith

pub returns-clause-takes_more : goal.returns-clause-takes_more
returns-clause-takes_more c = λ h. let begins = h.takes [] 0 [] refl in grind arith

pub returns-clause-passed : goal.returns-clause-passed
returns-clause-passed c = λ h. let e = h.all (7 ∷ []) (8 ∷ []) 7 refl refl in grind arith

pub returns-clause-all : goal.returns-clause-all
returns-clause-all c = (8 ∷ [], grind arith, ([], grind arith, refl))

pub returns-clause-longer : goal.returns-clause-longer
unfolding computed
returns-clause-longer c = λ h.
    let octet : AreOctets (0x21 ∷ []) = grind arith in
    let short = h.shortest (0x21 ∷ []) octet (tag_spelled _ _ refl) in grind arith

pub returns-clause-read_back : goal.returns-clause-read_back
returns-clause-read_back c = spelled_back _ _ _ refl

pub returns-clause-other_back : goal.returns-clause-other_back
returns-clause-other_back c = λ h. let e = h [] (Some (7, 1)) (grind arith) in grind arith

pub returns-clause-not_octets : goal.returns-clause-not_octets
returns-clause-not_octets c = λ h. let low = h 0 in grind arith
