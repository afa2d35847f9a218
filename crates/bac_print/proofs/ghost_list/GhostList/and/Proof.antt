-- `and` makes the list of the items and the note's item.
use Rattle.bac_wire.proofs.Walks.{[], !, a_type, agg, alive, alloc_all, and_then, bounded, dcons, dnil, done, ends_at}
use Rattle.bac_wire.proofs.Walks.{enter, fjoin, free_all, get, Goes-dropped, inst_fn, keep, look_at, move, named}
use Rattle.bac_wire.proofs.Walks.{no_more, nothing, owns, param, pass_all, plain, proved, qed, RattleType, raw, refl}
use Rattle.bac_wire.proofs.Walks.{RefOf, returns, says, sets, shr_Tells, shr_vals, split, stay_dropped, Stays, suffices}
use Rattle.bac_wire.proofs.Walks.{types_at, yes, ‵, ◌$◌, ◌++◌, ◌∵◌, ◌∷◌, ◌⊛◌}
use Rattle.bac_print.proofs.{ghost_list.GhostList.and.Statement.statement, Walks.{marked, marked_made}}
use Rattle.bac_print.specs.contracts.ghost_list.GhostList as GhostList
use Rattle.bac_print.specs.contracts.ghost_list.GhostList.and as f
use Rattle.bac_print.proofs.ghost_list.GhostList.and.Code as code

pub and_spec : {M : Type 1} → statement M
and_spec 𝓤 𝓛 𝓜 𝓡 wired N O _ _ tells dict _ =
    let T = f.ended N O tells dict in
    let c = f.clauses N O tells dict 𝓛 𝓜.mem 𝓡.returns in
    let inst = bounded (a_type ∷ a_type ∷ []) (N, (O, tt)) (dcons dict dnil) in
    let list : RattleType = GhostList.the_row (param 0 N) in
    let note : RattleType = param 1 O in
    let stayed : Stays T.signature.params T.kept = (stay_dropped _ yes, (stay_dropped _ yes, tt)) in
    proved 𝓛 T stayed c 𝓜 𝓡 (
      Goes-dropped 𝓛 4 (RefOf (0 ∷ []) tt (plain (λ _. list)) (λ _. tt)) yes (λ κs x f. refl),
      (Goes-dropped 𝓛 4 (RefOf (1 ∷ []) tt (plain (λ _. note)) (λ _. tt)) yes (λ κs x f. refl), tt),
    ) (f.Key.name inst) (inst_fn inst code.function) (code.unfolded 𝓤 𝓛.H 𝓜 𝓡 wired (N, (O, tt)) dict)
    (λ κs. (shr_vals, (shr_vals, tt))) (λ κs. (shr_Tells (named 0) κs.0 list, (shr_Tells (named 1) κs.1.0 note, tt)))
    (λ κs qs bounds a g are.
    qed 𝓛 ((raw (alive 𝓛 T.signature κs qs)
    ⊛ ‵ (owns (types_at T.signature.params κs) a (shr_vals a.0, (shr_vals a.1.0, tt))))
    ∷ raw ((c κs a).requires g) ∷ []) ∵
    keep ! (0 ∷ []) $ split ! $ keep ! (0 ∷ []) $
    enter ! _ _ _ _ _ $ alloc_all ! (λ l. pass_all ! refl ((tt, tt), ((tt, tt), tt)) $
    sets ! (agg ! (no_more !)) refl (tt, tt) $
    sets ! (agg ! (and_then ! (get ! refl) (no_more !))) refl (tt, (tt, tt)) $
    nothing ! $ marked_made ! (param 0 N) $ fjoin ! $
    returns ! (look_at ! 0 refl) $ free_all ! refl $
    suffices ! _ (ends_at 𝓛 T stayed c ((κs, qs, bounds, a, (shr_vals a.0, (shr_vals a.1.0, tt))), g) marked
    (record { of = record {}; items = a.0.now.items ++ tells.tells a.1.0.now ∷ [] }) (tt, (tt, tt)) (tt, (tt, tt))) $
    says ! refl $ nothing ! $ nothing ! $ fjoin ! $ nothing ! $ fjoin ! $ move ! (2 ∷ 0 ∷ 1 ∷ []) $ done !))
