-- The least number below a bound that passes a test: what is found, and what isn't.
use Rattle.std.proofs.Common.{◌≡◌, ℕ, ◌<◌, ◌≤◌, Bool, true, false, Some, None, inl, inr, arith, ap, sym, ◌∙◌}
use Rattle.std.proofs.lemmas.Bool.{cases_lt, false_from_ne_true, true≢false}
use Rattle.graph_base.specs.Least.{least_below}
use Rattle.graph_base.proofs.Least.{least_exists, least_is_least, least_passes}

-- where none is found, none below the bound passes
pub least_none : (n : ℕ) (p : ℕ → Bool) → least_below n p ≡ None → (k : ℕ) → k < n → p k ≡ false
least_none n p h k below = false_from_ne_true (p k) (λ passes. let found = least_exists n p k below passes in let there = found.1 in cc)

-- the first number that passes is found
pub least_found : (n : ℕ) (p : ℕ → Bool) (i : ℕ) → least_below i p ≡ None → p i ≡ true → i < n → least_below n p ≡ Some i
least_found n p i none passes below =
    let found = least_exists n p i below passes in
    let le = least_is_least n p found.0 i found.1 below passes in
    elim (cases_lt found.0 i) [
      | inl lt ↦ absurd (true≢false (sym (least_passes n p found.0 found.1).1 ∙ least_none i p none found.0 lt))
      | inr ge ↦ let same : found.0 ≡ i = omega (arith, le, ge) in found.1 ∙ ap Some same
    ]

-- what is found is below the bound, passes, and no other number that passes is less
pub record IsFound (n : ℕ) (p : ℕ → Bool) (m : ℕ) : Type 0 where
  pub below : m < n
  pub passes : p m ≡ true
  pub least : (k : ℕ) → p k ≡ true → m ≤ k

pub is_found : (n : ℕ) (p : ℕ → Bool) (m : ℕ) → least_below n p ≡ Some m → IsFound n p m
is_found n p m h =
    let first = least_passes n p m h in
    record {
      below = first.0;
      passes = first.1;
      least = λ k passes. elim (cases_lt k n) [
        | inl lt ↦ least_is_least n p m k h lt passes
        | inr ge ↦ omega (arith, first.0, ge)
      ];
    }
