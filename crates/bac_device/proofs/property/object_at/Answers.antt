-- The device comes first in its list of objects, so each point is one position further on.
use Rattle.std.proofs.Common.{◌-◌, ◌∷◌, ◌≡◌, arith, List, refl, slice_get, suc, zero, ℕ}
use Rattle.std.proofs.lemmas.Option.{slice_get-map, slice_get_read}
use Rattle.bac_device.proofs.property.object_at.Goals as goal

-- The element at a position after the first.
slice_get_behind : {A : Type 0} (x : A) (xs : List A) (i : ℕ) → (i ≡ 0 → ⊥)
    → slice_get (x ∷ xs) i ≡ slice_get xs (i - 1)
slice_get_behind x xs zero other = absurd (other refl)
slice_get_behind x xs (suc i) other = grind arith

pub returns-clause-value : goal.returns-clause-value
returns-clause-value c = grind (arith, slice_get_read, slice_get_behind, slice_get-map)
