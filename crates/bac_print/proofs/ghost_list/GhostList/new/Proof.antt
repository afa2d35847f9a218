-- `new` makes the empty list.
use Rattle.bac_wire.proofs.Walks.{[], !, a_type, agg, alive, alloc_all, and_then, done, ends_at, enter, fjoin, free_all}
use Rattle.bac_wire.proofs.Walks.{get, inst_fn, keep, layouts, look_at, move, no_more, nothing, owns, param, pass_all}
use Rattle.bac_wire.proofs.Walks.{proved, qed, raw, refl, returns, says, sets, split, suffices, types_at, ‵, ◌$◌, ◌∵◌}
use Rattle.bac_wire.proofs.Walks.{◌∷◌, ◌⊛◌}
use Rattle.bac_print.proofs.{ghost_list.GhostList.new.Statement.statement, Walks.{marked, marked_made}}
use Rattle.bac_print.specs.contracts.ghost_list.GhostList.new as f
use Rattle.bac_print.proofs.ghost_list.GhostList.new.Code as code

pub new_spec : {M : Type 1} → statement M
new_spec 𝓤 𝓛 𝓜 𝓡 wired N _ =
    let c = f.clauses N 𝓛 𝓜.mem 𝓡.returns in
    let T = f.ended N in
    let inst = layouts (a_type ∷ []) (N, tt) in
    proved 𝓛 T tt c 𝓜 𝓡 tt (f.Key.name inst) (inst_fn inst code.function) (code.unfolded 𝓤 𝓛.H 𝓜 𝓡 wired (N, tt))
    (λ κs. tt) (λ κs. tt) (λ κs qs bounds a g are.
    qed 𝓛 ((raw (alive 𝓛 T.signature κs qs) ⊛ ‵ (owns (types_at T.signature.params κs) a tt))
    ∷ raw ((c κs a).requires g) ∷ []) ∵
    keep ! (0 ∷ []) $ split ! $ keep ! (0 ∷ []) $
    enter ! _ _ _ _ _ $ alloc_all ! (λ l. pass_all ! refl tt $
    sets ! (agg ! (no_more !)) refl (tt, tt) $
    sets ! (agg ! (and_then ! (get ! refl) (no_more !))) refl (tt, (tt, tt)) $
    nothing ! $ marked_made ! (param 0 N) $ fjoin ! $
    returns ! (look_at ! 0 refl) $ free_all ! refl $
    suffices ! _ (ends_at 𝓛 T tt c ((κs, qs, bounds, a, tt), g) marked (record { of = record {}; items = [] }) tt tt) $
    says ! refl $ nothing ! $ move ! (2 ∷ 0 ∷ 1 ∷ []) $ done !))
