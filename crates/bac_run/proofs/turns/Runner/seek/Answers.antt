-- The client gets the time, and the Who-Is is sent.
use Rattle.{std.proofs.Common.{[], ap, codes, List, refl, sym, ℕ, ◌++◌, ◌∙◌, ◌∷◌}, bac_pdu.specs.station}
use Rattle.{bac_text.specs.Reach.reach_seen, bac_print.proofs.Printed.printed_as, bac_run.proofs.{went_at, went_from}}
use Rattle.bac_run.{proofs.{went_more, went_silent}, specs.{Aim, Does, seek_octets, seek_text, Sought, Inner.to_hand}}
use Rattle.bac_run.proofs.turns.Runner.seek.Goals as goal

pub returns-clause-went : goal.returns-clause-went
returns-clause-went g c =
    let sought = Sought (station c.args.reach.to) (seek_octets (reach_seen c.args.reach) c.args.who) in
    went_more (went_at (λ later. Does sought ∷ later) c.in_ok-refresh_time.ensures.went)
    (went_more
    (went_silent _ sought tt refl refl (λ (later : List Aim). (refl, refl, refl)) (λ (later : List Aim). refl)
    (printed_as c.remark_seek.ensures
    (ap (λ (xs : List ℕ). codes "# " ++ seek_text (station c.args.reach.to) xs)
    (c.as_slice.ensures.value ∙ c.who_is-datagram.ensures)))
    (λ waits. waits) tt)
    (went_from
    (λ (later : List Aim).
    ap (λ (xs : List ℕ). to_hand c.refresh_time.new.self ((station c.args.reach.to, xs) ∷ [], later))
    (sym (c.as_slice-2.ensures.value ∙ c.who_is-datagram.ensures)))
    (went_at (λ (later : List Aim). ([], later)) c.send.ensures.went)))
