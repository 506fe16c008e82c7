-- Where one of two lists ends before the other.
use Rattle.std.proofs.Common.{◌≡◌, ℕ, Bool, true, false, zero, suc, ◌+◌, ◌≤◌, ◌⊎◌, List, [], ◌∷◌, length, drop, min, Some, None, inl, inr, refl, arith}
use Rattle.std.specs.Prelude.{◌&&◌}
use Rattle.std.proofs.lemmas.Bool.{cases_lt}
use Rattle.config_base.specs.declared.config.RouterConfig.{RouterConfig}
use Rattle.config_base.specs.declared.config.Session.{Session}
use Rattle.stage_check.specs.Unlike.{same_neighbour, same_neighbours, unlike_from}

-- both end there
pub ends_same : (n i : ℕ) (xs ys : List RouterConfig) → i ≤ length xs → length xs ≤ i → length xs ≡ length ys → unlike_from n (drop i xs) (drop i ys) ≡ None
ends_same n zero [] [] below above same = refl
ends_same n zero [] (y ∷ ys) below above same = absurd (omega (arith, same))
ends_same n zero (x ∷ xs) ys below above same = absurd (omega (arith, above))
ends_same n (suc i) [] ys below above same = absurd (omega (arith, below))
ends_same n (suc i) (x ∷ xs) [] below above same = absurd (omega (arith, same))
ends_same n (suc i) (x ∷ xs) (y ∷ ys) below above same = ends_same n i xs ys (omega (arith, below)) (omega (arith, above)) (omega (arith, same))

-- one goes on
pub ends_apart : (n i : ℕ) (xs ys : List RouterConfig) → i ≤ length xs → i ≤ length ys → (length xs ≤ i) ⊎ (length ys ≤ i) → (length xs ≡ length ys → ⊥)
    → unlike_from n (drop i xs) (drop i ys) ≡ Some n
ends_apart n zero [] [] one two end apart = absurd (apart refl)
ends_apart n zero [] (y ∷ ys) one two end apart = refl
ends_apart n zero (x ∷ xs) [] one two end apart = refl
ends_apart n zero (x ∷ xs) (y ∷ ys) one two (inl end) apart = absurd (omega (arith, end))
ends_apart n zero (x ∷ xs) (y ∷ ys) one two (inr end) apart = absurd (omega (arith, end))
ends_apart n (suc i) [] ys one two end apart = absurd (omega (arith, one))
ends_apart n (suc i) (x ∷ xs) [] one two end apart = absurd (omega (arith, two))
ends_apart n (suc i) (x ∷ xs) (y ∷ ys) one two (inl end) apart = ends_apart n i xs ys (omega (arith, one)) (omega (arith, two)) (inl (omega (arith, end))) (λ same. apart (omega (arith, same)))
ends_apart n (suc i) (x ∷ xs) (y ∷ ys) one two (inr end) apart = ends_apart n i xs ys (omega (arith, one)) (omega (arith, two)) (inr (omega (arith, end))) (λ same. apart (omega (arith, same)))

pub ends_at : (n i : ℕ) (xs ys : List RouterConfig) → i ≡ min (length xs) (length ys) → (length xs ≡ length ys → ⊥) → unlike_from n (drop i xs) (drop i ys) ≡ Some n
ends_at n i xs ys is apart = elim (cases_lt (length xs) (length ys)) [
  | inl t ↦ ends_apart n i xs ys (omega (arith, is, t)) (omega (arith, is, t)) (inl (omega (arith, is, t))) apart
  | inr t ↦ ends_apart n i xs ys (omega (arith, is, t)) (omega (arith, is, t)) (inr (omega (arith, is, t))) apart
]

-- other neighbours
pub neighbours_apart : (xs ys : List Session) → (length xs ≡ length ys → ⊥) → false ≡ same_neighbours xs ys
neighbours_apart [] [] differ = absurd (differ refl)
neighbours_apart [] (y ∷ ys) differ = refl
neighbours_apart (x ∷ xs) [] differ = refl
neighbours_apart (x ∷ xs) (y ∷ ys) differ = either_way (same_neighbour x y) (same_neighbours xs ys) (neighbours_apart xs ys (λ e. differ (omega (arith, e))))
  where
    either_way : (a b : Bool) → false ≡ b → false ≡ (a && b)
    either_way true b e = e
    either_way false b e = refl
