-- Tests below a bound.
use Rattle.std.proofs.Common.{◌≡◌, ℕ, zero, suc, ◌<◌, ◌≤◌, Bool, true, false, inl, inr, arith, sym, ap, ◌∙◌}
use Rattle.std.proofs.lemmas.Bool.{or_cases, or_left, or_right, cases_Bool, cases_order, both_ways, false_from_ne_true}
use Rattle.relation_law.specs.Numbers.{any_below, count_below}

pub any_found : (n : ℕ) (p : ℕ → Bool) → any_below n p ≡ true → (k : ℕ) × (k < n) × (p k ≡ true)
any_found zero p h = absurd (cc)
any_found (suc n) p h =
    elim (or_cases (p n) (any_below n p) h) [
      | inl e ↦ (n, omega arith, e)
      | inr e ↦ (let f : (k : ℕ) × (k < n) × (p k ≡ true) = any_found n p e in (f.0, omega arith, f.2))
    ]

pub any_at : (n : ℕ) (p : ℕ → Bool) (k : ℕ) → k < n → p k ≡ true → any_below n p ≡ true
any_at zero p k h e = absurd (omega arith)
any_at (suc n) p k h e =
    elim (cases_order k n) [
      | inl q ↦ or_left (p n) (any_below n p) (ap p (sym q) ∙ e)
      | inr q ↦ elim q [
        | inl lt ↦ or_right (p n) (any_below n p) (any_at n p k lt e)
        | inr gt ↦ absurd (omega arith)
      ]
    ]

pub none_at : (n : ℕ) (p : ℕ → Bool) (k : ℕ) → any_below n p ≡ false → k < n → p k ≡ false
none_at n p k h lt = false_from_ne_true (p k) (λ e. both_ways (any_below n p) h (any_at n p k lt e))

pub none_below : (n : ℕ) (p : ℕ → Bool) → ((k : ℕ) → k < n → p k ≡ true → ⊥) → any_below n p ≡ false
none_below n p h = false_from_ne_true (any_below n p) (λ e. let f : (k : ℕ) × (k < n) × (p k ≡ true) = any_found n p e in h f.0 f.1 f.2)

-- ---- counts

pub count_most : (n : ℕ) (p : ℕ → Bool) → count_below n p ≤ n
count_most zero p = omega arith
count_most (suc n) p =
    let rest = count_most n p in
    elim (cases_Bool (p n)) [
      | inl e ↦ rw e (omega arith)
      | inr e ↦ rw e (omega arith)
    ]

pub count_le : (n : ℕ) (p q : ℕ → Bool) → ((k : ℕ) → k < n → p k ≡ true → q k ≡ true) → count_below n p ≤ count_below n q
count_le zero p q h = omega arith
count_le (suc n) p q h =
    let rest : count_below n p ≤ count_below n q = count_le n p q (λ k lt e. h k (omega arith) e) in
    elim (cases_Bool (p n)) [
      | inl e ↦ (let f : q n ≡ true = h n (omega arith) e in rw (e, f) (omega arith))
      | inr e ↦ rw e (omega arith)
    ]

pub count_lt : (n : ℕ) (p q : ℕ → Bool) (at : ℕ) → at < n → p at ≡ false → q at ≡ true → ((k : ℕ) → k < n → p k ≡ true → q k ≡ true) → count_below n p < count_below n q
count_lt zero p q at lt e f h = absurd (omega arith)
count_lt (suc n) p q at lt e f h =
    elim (cases_order at n) [
      | inl same ↦ (
          let rest : count_below n p ≤ count_below n q = count_le n p q (λ k lt e. h k (omega arith) e) in
          let pn : p n ≡ false = ap p (sym same) ∙ e in
          let qn : q n ≡ true = ap q (sym same) ∙ f in
          rw (pn, qn) (omega arith))
      | inr other ↦ elim other [
        | inl below ↦ (
            let rest : count_below n p < count_below n q = count_lt n p q at below e f (λ k lt e. h k (omega arith) e) in
            elim (cases_Bool (p n)) [
              | inl pe ↦ (let qe : q n ≡ true = h n (omega arith) pe in rw (pe, qe) (omega arith))
              | inr pe ↦ rw pe (omega arith)
            ])
        | inr above ↦ absurd (omega arith)
      ]
    ]
