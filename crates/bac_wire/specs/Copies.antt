-- The meaning of a clone and of `==`.
use Rattle.std.specs.Prelude.{◌≡◌, ◌↔◌, Bool, IsTrue}

-- Each clone equals its original, and needs no memory.
abbrev pub MakesCopies : {A : Type 0} → (A → A → Type 0) → (A → Type 0) → Type 0
MakesCopies {A} is_clone is_infallible = ((x y : A) → is_clone x y → y ≡ x) × ((x : A) → is_infallible x)

-- Two values are equal exactly if their views are.
abbrev pub EqualsBy : {A B : Type 0} → (A → B) → (A → A → Bool) → Type 0
EqualsBy {A} seen equals = (x y : A) → IsTrue (equals x y) ↔ (seen x ≡ seen y)
