-- An item after one was set.
use Rattle.std.proofs.Common.{◌≡◌, ℕ, zero, suc, List, [], ◌∷◌, set, refl, arith, Some}
use Rattle.std.specs.Prelude.{slice_get}
use Rattle.std.proofs.lemmas.Option.{same_Some}

pub data IsSet {A : Type 0} (xs : List A) (k : ℕ) (x : A) (j : ℕ) (y : A) : Type 0 where
  replaced : j ≡ k → x ≡ y → IsSet xs k x j y
  kept : (j ≡ k → ⊥) → slice_get xs j ≡ Some y → IsSet xs k x j y

pub item_set : {A : Type 0} (xs : List A) (k : ℕ) (x : A) (j : ℕ) (y : A) → slice_get (set xs k x) j ≡ Some y → IsSet xs k x j y
item_set [] k x j y at = absurd cc
item_set (z ∷ xs) zero x zero y at = replaced refl (same_Some x y at)
item_set (z ∷ xs) zero x (suc j) y at = kept (λ e. absurd (omega (arith, e))) at
item_set (z ∷ xs) (suc k) x zero y at = kept (λ e. absurd (omega (arith, e))) at
item_set (z ∷ xs) (suc k) x (suc j) y at = elim (item_set xs k x j y at) [
  | replaced same is ↦ replaced (omega (arith, same)) is
  | kept off at' ↦ kept (λ e. off (omega (arith, e))) at'
]

pub set_there : {A : Type 0} (xs : List A) (k : ℕ) (x y : A) → slice_get xs k ≡ Some y → slice_get (set xs k x) k ≡ Some x
set_there [] k x y at = absurd cc
set_there (z ∷ xs) zero x y at = refl
set_there (z ∷ xs) (suc k) x y at = set_there xs k x y at

pub set_elsewhere : {A : Type 0} (xs : List A) (k : ℕ) (x : A) (j : ℕ) (y : A) → (j ≡ k → ⊥) → slice_get xs j ≡ Some y → slice_get (set xs k x) j ≡ Some y
set_elsewhere [] k x j y off at = absurd cc
set_elsewhere (z ∷ xs) zero x zero y off at = absurd (off refl)
set_elsewhere (z ∷ xs) zero x (suc j) y off at = at
set_elsewhere (z ∷ xs) (suc k) x zero y off at = at
set_elsewhere (z ∷ xs) (suc k) x (suc j) y off at = set_elsewhere xs k x j y (λ e. off (omega (arith, e))) at
