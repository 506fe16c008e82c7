-- The least number of a kind.
use Rattle.std.proofs.Common.{◌≡◌, ℕ, ◌<◌, ◌≤◌, ◌+◌, inl, inr, arith, subst}
use Rattle.std.specs.Prelude.{nat_lt}
use Rattle.std.proofs.lemmas.Bool.{cases_Bool, ltb-false, ltb-true}

module _ (P : ℕ → Type 0) (n : ℕ) (none : (k : ℕ) → k < n → P k → ⊥) where
  -- none is less
  pub no_less : (k : ℕ) → P k → n ≤ k
  no_less k h = elim (cases_Bool (nat_lt k n)) [
    | inl t ↦ absurd (none k (ltb-true k n t) h)
    | inr f ↦ omega (arith, ltb-false k n f)
  ]

  -- and none is less than the next one, where this one isn't of the kind either
  pub none_more : (P n → ⊥) → (k : ℕ) → k < n + 1 → P k → ⊥
  none_more not k less h = elim (cases_Bool (nat_lt k n)) [
    | inl t ↦ none k (ltb-true k n t) h
    | inr f ↦ (let same : k ≡ n = omega (arith, less, ltb-false k n f) in not (subst P same h))
  ]
