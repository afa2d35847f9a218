-- The valve's present value is the written one, since the device holds only this write.
use Rattle.std.proofs.Common.{[], ◌∙◌, ◌∷◌, refl, sym}
use Rattle.{bac_device.proofs.{Answering.next_after, StateLaws.present_now}, bac_uses.specs.Heating.{heating, valve}}
use Rattle.bac_uses.proofs.device.answered.Goals as goal

pub unwrap-valve-requires : goal.unwrap-valve-requires
unwrap-valve-requires c =
    let written = rw c.one_valve-device.ensures at c.answer-to.ensures.written in
    let made = written ∙ next_after heating (valve ∷ []) [] _ _ in
    let object = rw c.unwrap.ensures at c.new.ensures.value in
    rw (present_now heating (valve ∷ []) _ made c.present.ensures.after object) refl

pub returns-clause-valve : goal.returns-clause-valve
returns-clause-valve c =
    let written = rw c.one_valve-device.ensures at c.answer-to.ensures.written in
    let made = written ∙ next_after heating (valve ∷ []) [] _ _ in
    let object = rw c.unwrap.ensures at c.new.ensures.value in
    sym c.unwrap-valve.ensures ∙ present_now heating (valve ∷ []) _ made c.present.ensures.after object
