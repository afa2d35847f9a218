-- Lemmas for hand-written walks over ghost data. The prover writes no proof that chooses ghost data, so each function
-- that makes such a struct has a `Proof.antt`, step by step: it takes the arguments, makes the struct, and names the
-- ghost data at the return. The form is that of the toolchain's crates `serde_json` and `http_server`, which keep such
-- lists.
use denote.Struct.Struct.{Struct}
use mir.Val.{Val, vnil, vstruct}
use seplogic.Ra.Ura.{Ura}
use types.{Kit.{feq_i, fpack, Goal, Item, Step, step}, Logic.Logic}
pub use Rattle.std.proofs.Common.{List, [], ◌∷◌, ◌++◌, refl}
pub use Rattle.std.proofs.raw_atomic.Walks.{proved}
pub use types.Kit.{‵, raw, ◌⊛◌, ◌$◌, ◌∵◌, !, qed, done, move, keep, drop, split, fjoin, suffices}
pub use types.Part.{agg}
pub use types.Run.{enter, returns, no_more, and_then}
pub use types.ByLocal.{alloc_all, pass_all, free_all, look_at, get, sets}
pub use denote.Exit.{yes}
pub use denote.Builtin.{RefOf}
pub use denote.Param.{param, layouts, bounded}
pub use mir.MapTy.{inst_fn}
pub use mir.Syntax.{named, a_type, dcons, dnil}
pub use denote.RattleType.{RattleType, owns}
pub use denote.Ref.{shr_vals, shr_Tells}
pub use denote.Signature.{plain, types_at}
pub use denote.Steps.{nothing}
pub use denote.Triple.Entry.{alive, on_entry}
pub use denote.Triple.Walked.{says, Stays, stay_dropped, ends_at, Goes-dropped}

abbrev pub none : Val
none = vstruct vnil

abbrev pub fieldless : RattleType
fieldless = Struct (record { name = []; args = []; types = []; fields = [] })

pub none_made : {M : Type 1} {𝓤 : Ura M} {𝓛 : Logic 𝓤} {K : Type 0} {Γ : List (Item 𝓤)} {G : Goal 𝓤 𝓛.H} → K
    → Step K 𝓛 (‵ (fieldless.own_val tt (none ∷ [])) ∷ Γ) G Γ G
none_made t = step (λ s. nothing t $ feq_i t _ _ _ refl $ fjoin t $ fpack t _ _ tt $ s)
