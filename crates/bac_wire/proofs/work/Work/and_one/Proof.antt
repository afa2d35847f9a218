-- `and_one` chooses the count of the new value. The proof is written by hand, like those in `Walks`.
use Rattle.std.proofs.Common.{◌+◌}
use Rattle.bac_wire.proofs.Walks.{[], !, agg, alive, alloc_all, done, ends_at, enter, fjoin, free_all, Goes-dropped}
use Rattle.bac_wire.proofs.Walks.{keep, look_at, move, named, no_more, none, none_made, nothing, owns, pass_all, plain}
use Rattle.bac_wire.proofs.Walks.{proved, qed, raw, refl, RefOf, returns, says, sets, shr_Tells, shr_vals, split}
use Rattle.bac_wire.proofs.Walks.{stay_dropped, Stays, suffices, types_at, yes, ‵, ◌$◌, ◌∵◌, ◌∷◌, ◌⊛◌}
use Rattle.bac_wire.proofs.work.Work.and_one.Statement.{statement}
use Rattle.bac_wire.specs.contracts.work.Work as Work
use Rattle.bac_wire.specs.contracts.work.Work.and_one as f
use Rattle.bac_wire.proofs.work.Work.and_one.Code as code

abbrev stayed : Stays f.ended.signature.params f.ended.kept
stayed = (stay_dropped _ yes, (stay_dropped _ yes, tt))

pub and_one_spec : {M : Type 1} → statement M
and_one_spec 𝓤 𝓛 𝓜 𝓡 wired =
    let c = f.clauses 𝓛 𝓜.mem 𝓡.returns in
    proved 𝓛 f.ended stayed c 𝓜 𝓡 (
      Goes-dropped 𝓛 2 (RefOf (0 ∷ []) tt (plain (λ _. Work.the_row)) (λ _. tt)) yes (λ κs x f. refl),
      (Goes-dropped 𝓛 2 (RefOf (1 ∷ []) tt (plain (λ _. Work.the_row)) (λ _. tt)) yes (λ κs x f. refl), tt),
    ) f.Key.name code.function (code.unfolded 𝓤 𝓛.H 𝓜 𝓡 wired) (λ κs. (shr_vals, (shr_vals, tt))) (λ κs. (
      shr_Tells (named 0) κs.0 Work.the_row,
      (shr_Tells (named 1) κs.1.0 Work.the_row, tt),
    )) (λ κs qs bounds a g are.
    qed 𝓛 ((raw (alive 𝓛 f.signature κs qs)
    ⊛ ‵ (owns (types_at f.signature.params κs) a (shr_vals a.0, (shr_vals a.1.0, tt))))
    ∷ raw ((c κs a).requires g) ∷ []) ∵
    keep ! (0 ∷ []) $ split ! $ keep ! (0 ∷ []) $
    enter ! _ _ _ _ _ $ alloc_all ! (λ l. pass_all ! refl ((tt, tt), ((tt, tt), tt)) $
    sets ! (agg ! (no_more !)) refl (tt, tt) $ nothing ! $ none_made ! $ fjoin ! $
    returns ! (look_at ! 0 refl) $ free_all ! refl $
    suffices ! _ (ends_at 𝓛 f.ended stayed c ((κs, qs, bounds, a, (shr_vals a.0, (shr_vals a.1.0, tt))), g) none
    (record { tags = a.0.now.tags + 1 }) (tt, (tt, tt)) (tt, (tt, tt))) $ says ! refl $
    nothing ! $ nothing ! $ fjoin ! $ nothing ! $ fjoin ! $ move ! (2 ∷ 0 ∷ 1 ∷ []) $ done !))
