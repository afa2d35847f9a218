-- Lemmas for walks over a ghost list, besides those of `Walks` in bac_wire. The struct of the list has a field that
-- only marks a type.
use Rattle.bac_wire.proofs.Walks.{[], fjoin, List, move, nothing, RattleType, refl, ‵, ◌$◌, ◌∷◌}
use denote.{Laws.Is, RattleType.Valss, Steps.owned, Struct.{Laws.makes, Struct.{Shape, Struct, within}}}
use mir.Val.{Val, vcons, vnil, vstruct}
use seplogic.Ra.Ura.{Ura}
use types.{Kit.{feq_i, fpack, Goal, Item, Step, step}, Logic.Logic}
use Rattle.std.specs.contracts.marker.PhantomData as Mark

abbrev pub marked : Val
marked = vstruct (vcons (vstruct vnil) vnil)

-- A struct with one field, the marker of this type (`PhantomData`). It has no octets.
abbrev Marked : RattleType → Shape
Marked R = record { name = []; args = []; types = []; fields = Mark.the_row R ∷ [] }

pub marked_made : {M : Type 1} {𝓤 : Ura M} {𝓛 : Logic 𝓤} {K : Type 0} {Γ : List (Item 𝓤)} {G : Goal 𝓤 𝓛.H} → K
    → (R : RattleType) → Step K 𝓛 (‵ ((Struct (Marked R)).own_val (record {}, tt) (marked ∷ [])) ∷ Γ) G Γ G
marked_made {𝓛 = 𝓛} t R = step (λ s.
    owned t (Mark.the_row R) (Is (Mark.the_row R)) (makes (Mark.the_type R) tt 𝓛) (record {}) (vstruct vnil ∷ [])
    (tt, (refl, tt)) $ nothing t $ move t (1 ∷ 0 ∷ []) $ fjoin t $ feq_i t (List Val) (marked ∷ []) (marked ∷ []) refl $
    fjoin t $ fpack t (Valss (Mark.the_row R ∷ [])) (within (Marked R) (record {}, tt) (marked ∷ []))
    (vstruct vnil ∷ [], tt) $ s)
