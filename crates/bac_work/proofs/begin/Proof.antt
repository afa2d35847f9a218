-- `begin` chooses the count 0. The proof is written by hand, like those in `Walks` of `bac_wire`.
use Rattle.bac_wire.proofs.Walks.{[], !, agg, alloc_all, done, drop, ends_at, enter, fjoin, free_all, look_at, no_more}
use Rattle.bac_wire.proofs.Walks.{none, none_made, nothing, on_entry, pass_all, proved, qed, raw, refl, returns, says}
use Rattle.{bac_wire.proofs.Walks.{sets, suffices, ◌$◌, ◌∵◌, ◌∷◌}, bac_work.proofs.begin.Statement.statement}
use Rattle.bac_work.specs.contracts.begin as f
use Rattle.bac_work.proofs.begin.Code as code

pub begin_spec : {M : Type 1} → statement M
begin_spec 𝓤 𝓛 𝓜 𝓡 wired =
    let c = f.clauses 𝓛 𝓜.mem 𝓡.returns in
    proved 𝓛 f.ended tt c 𝓜 𝓡 tt f.Key.name code.function (code.unfolded 𝓤 𝓛.H 𝓜 𝓡 wired) (λ κs. tt) (λ κs. tt)
    (λ κs qs bounds a g are.
    qed 𝓛 (raw (on_entry 𝓛 f.signature κs qs a tt) ∷ raw ((c κs a).requires g) ∷ []) ∵
    drop ! $ drop ! $ enter ! _ _ _ _ _ $ alloc_all ! (λ l. pass_all ! refl tt $
    sets ! (agg ! (no_more !)) refl (tt, tt) $ nothing ! $ none_made ! $ fjoin ! $
    returns ! (look_at ! 0 refl) $ free_all ! refl $
    suffices ! _ (ends_at 𝓛 f.ended tt c ((κs, qs, bounds, a, tt), g) none (record { tags = 0 }) tt tt) $
    says ! refl $ nothing ! $ nothing ! $ done !))
