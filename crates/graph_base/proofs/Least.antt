-- The least number that passes is one that passes, none below it does, and there is one where some number passes.
use Rattle.std.proofs.Common.{◌≡◌, ℕ, zero, suc, ◌<◌, ◌≤◌, Bool, true, false, Option, Some, None, inl, inr, arith, refl, subst}
use Rattle.std.proofs.lemmas.Bool.{cases_lt}
use Rattle.graph_base.specs.Least.{least_below, or_else}

pub least_passes : (n : ℕ) (p : ℕ → Bool) (k : ℕ) → least_below n p ≡ Some k → (k < n) × (p k ≡ true)
least_passes zero p k h = absurd cc
least_passes (suc n) p k h = by (least_below n p) (least_passes n p) (p n) refl h
  where
    by : (o : Option ℕ) → ((k : ℕ) → o ≡ Some k → (k < n) × (p k ≡ true)) → (b : Bool) → p n ≡ b → or_else o b n ≡ Some k → (k < suc n) × (p k ≡ true)
    by (Some i) low b e h = let under = low k h in (omega (arith, under.0), under.1)
    by None low true e h = let same : n ≡ k = cc in (omega (arith, same), subst (λ i. p i ≡ true) same e)
    by None low false e h = absurd cc

pub least_exists : (n : ℕ) (p : ℕ → Bool) (j : ℕ) → j < n → p j ≡ true → (k : ℕ) × (least_below n p ≡ Some k)
least_exists zero p j lt e = absurd (omega (arith, lt))
least_exists (suc n) p j lt e = by (least_below n p) (least_exists n p j) (p n) refl
  where
    by : (o : Option ℕ) → (j < n → p j ≡ true → (k : ℕ) × (o ≡ Some k)) → (b : Bool) → p n ≡ b → (k : ℕ) × (or_else o b n ≡ Some k)
    by (Some i) low b h = (i, refl)
    by None low true h = (n, refl)
    by None low false h = elim (cases_lt j n) [
      | inl t ↦ absurd (let found = low t e in let none = found.1 in cc)
      | inr t ↦ absurd (let same : j ≡ n = omega (arith, lt, t) in let last : p n ≡ true = subst (λ i. p i ≡ true) same e in cc)
    ]

pub least_is_least : (n : ℕ) (p : ℕ → Bool) (k j : ℕ) → least_below n p ≡ Some k → j < n → p j ≡ true → k ≤ j
least_is_least zero p k j h lt e = absurd (omega (arith, lt))
least_is_least (suc n) p k j h lt e = by (least_below n p) (least_is_least n p) (least_passes n p) (least_exists n p j) (p n) h
  where
    by : (o : Option ℕ) → ((k j : ℕ) → o ≡ Some k → j < n → p j ≡ true → k ≤ j) → ((k : ℕ) → o ≡ Some k → (k < n) × (p k ≡ true))
        → (j < n → p j ≡ true → (i : ℕ) × (o ≡ Some i)) → (b : Bool) → or_else o b n ≡ Some k → k ≤ j
    by (Some i) low passes some b h = elim (cases_lt j n) [
      | inl t ↦ low k j h t e
      | inr t ↦ (let under = (passes k h).0 in omega (arith, under, t))
    ]
    by None low passes some true h = elim (cases_lt j n) [
      | inl t ↦ absurd (let found = some t e in let none = found.1 in cc)
      | inr t ↦ (let same : n ≡ k = cc in omega (arith, same, t))
    ]
    by None low passes some false h = absurd cc
