-- Numbers that are kept ascend.
use Rattle.std.proofs.Common.{◌+◌, ◌-◌, ◌<◌, ◌∙◌, ◌≡◌, ◌≤◌, Bool, ap, arith, cond, false, inl, inr, refl, subst, suc, sym, true, zero, ℕ, ⊎_elim}
use Rattle.std.proofs.lemmas.Bool.{cases_Bool, cases_lt, cases_order}
use Rattle.list_law.specs.Counts.{kept_below}

module _ (keep : ℕ → Bool) where
  pub kept_below-kept : (n : ℕ) → keep n ≡ true → kept_below keep (suc n) ≡ kept_below keep n + 1
  kept_below-kept n e = ap (λ b. kept_below keep n + cond b 1 0) e

  pub kept_below-left : (n : ℕ) → keep n ≡ false → kept_below keep (suc n) ≡ kept_below keep n
  kept_below-left n e = let at = ap (λ b. kept_below keep n + cond b 1 0) e in omega (arith, at)

  pub kept_below-more : (n : ℕ) → kept_below keep n ≤ kept_below keep (suc n)
  kept_below-more n = ⊎_elim (λ e. let at = kept_below-kept n e in omega (arith, at)) (λ e. let at = kept_below-left n e in omega (arith, at)) (cases_Bool (keep n))

  kept_below-far : (m d : ℕ) → kept_below keep m ≤ kept_below keep (d + m)
  kept_below-far m zero = let at : zero + m ≡ m = omega arith in subst (λ k. kept_below keep m ≤ kept_below keep k) (sym at) (omega arith)
  kept_below-far m (suc d) =
      let at : suc d + m ≡ suc (d + m) = omega arith in
      let far = kept_below-far m d in
      let more = kept_below-more (d + m) in
      subst (λ k. kept_below keep m ≤ kept_below keep k) (sym at) (omega (arith, far, more))

  pub kept_below-less : (m n : ℕ) → keep m ≡ true → m < n → kept_below keep m < kept_below keep n
  kept_below-less m n e lt =
      let at : (n - suc m) + suc m ≡ n = omega (arith, lt) in
      let here = kept_below-kept m e in
      let far = subst (λ k. kept_below keep (suc m) ≤ kept_below keep k) at (kept_below-far (suc m) (n - suc m)) in
      omega (arith, here, far)

  pub kept_below-same : (m n : ℕ) → keep m ≡ true → keep n ≡ true → kept_below keep m ≡ kept_below keep n → m ≡ n
  kept_below-same m n h k e =
      ⊎_elim (λ same. same)
      (λ apart. ⊎_elim (λ lt. let less = kept_below-less m n h lt in absurd (omega (arith, less, e))) (λ gt. let less = kept_below-less n m k gt in absurd (omega (arith, less, e))) apart)
      (cases_order m n)

-- what keeps the same numbers below n counts the same there
pub kept_below_alike : (keep also : ℕ → Bool) (n : ℕ) → ((i : ℕ) → i < n → keep i ≡ also i) → kept_below keep n ≡ kept_below also n
kept_below_alike keep also zero same = refl
kept_below_alike keep also (suc n) same = λ i. kept_below_alike keep also n (λ k lt. same k (omega (arith, lt))) i + cond (same n (omega arith) i) 1 0

-- how many are kept, where others are kept besides
module _ (keep also : ℕ → Bool) where
  one_besides : (b c : Bool) → (b ≡ true → c ≡ true) → cond b 1 0 ≤ cond c 1 0
  one_besides true c h = let at = ap {B = ℕ} (λ d. cond d 1 0) (h refl) in omega (arith, at)
  one_besides false c h = omega arith

  pub kept_below-besides : (n : ℕ) → ((i : ℕ) → i < n → keep i ≡ true → also i ≡ true) → kept_below keep n ≤ kept_below also n
  kept_below-besides zero h = omega arith
  kept_below-besides (suc n) h =
      let rest = kept_below-besides n (λ i lt. h i (omega (arith, lt))) in
      let here = one_besides (keep n) (also n) (h n (omega arith)) in
      omega (arith, rest, here)

  pub kept_below-one_more : (n x : ℕ) → ((i : ℕ) → i < n → keep i ≡ true → also i ≡ true) → x < n → keep x ≡ false → also x ≡ true → kept_below keep n < kept_below also n
  kept_below-one_more zero x h lt f t = absurd (omega (arith, lt))
  kept_below-one_more (suc n) x h lt f t = elim (cases_lt x n) [
    | inl less ↦
        let rest = kept_below-one_more n x (λ i under. h i (omega (arith, under))) less f t in
        let here = one_besides (keep n) (also n) (h n (omega arith)) in
        omega (arith, rest, here)
    | inr ge ↦
        let same : x ≡ n = omega (arith, lt, ge) in
        let rest = kept_below-besides n (λ i under. h i (omega (arith, under))) in
        let off = ap {B = ℕ} (λ b. cond b 1 0) (ap keep (sym same) ∙ f) in
        let on = ap {B = ℕ} (λ b. cond b 1 0) (ap also (sym same) ∙ t) in
        omega (arith, rest, off, on)
  ]
