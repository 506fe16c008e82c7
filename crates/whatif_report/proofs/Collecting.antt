-- Numbers that pass a test are put into a set, one by one.
use Rattle.std.proofs.Common.{◌≡◌, ◌<◌, ◌≤◌, ◌+◌, ℕ, Bool, true, false, sym, ap, ◌∙◌, inl, inr, arith}
use Rattle.std.specs.Prelude.{◌==◌, ◌||◌, nat_lt}
use Rattle.std.proofs.lemmas.Bool.{cases_Bool, eq-eqb, eqb-true, false_from_ne_true, ltb-false, ltb-true, or_right}
use Rattle.list_law.proofs.Truth.{or_failed}
use Rattle.net_base.specs.declared.loc.LocSet.{LocSet}
use Rattle.net_base.specs.Sets.{holds}
use Rattle.whatif_report.specs.Changing.{AreBelow}

module _ (test : ℕ → Bool) (n : ℕ) (set : LocSet) (are : AreBelow test n set) where
  last : (r : ℕ) → r < n + 1 → n ≤ r → r ≡ n
  last r low high = omega (arith, low, high)

  apart : (r : ℕ) → (r ≡ n → ⊥) → (r == n) ≡ false
  apart r off = false_from_ne_true (r == n) (λ h. off (eqb-true r n h))

  pub one_more : (more : LocSet) → test n ≡ true → ((l : ℕ) → holds more l ≡ (holds set l || l == n)) → AreBelow test (n + 1) more
  one_more more on grown = record {
    here = λ r low. elim (cases_Bool (nat_lt r n)) [
      | inl before ↦
          let lower = ltb-true r n before in
          grown r ∙ or_failed (holds set r) (r == n) (apart r (λ same. omega (arith, lower, same))) ∙ are.here r lower
      | inr past ↦
          let same = last r low (ltb-false r n past) in
          grown r ∙ or_right (holds set r) (r == n) (eq-eqb r n same) ∙ sym (ap test same ∙ on)
    ];
    later = λ r high.
        let above : n ≤ r = omega (arith, high) in
        grown r ∙ or_failed (holds set r) (r == n) (apart r (λ same. omega (arith, high, same))) ∙ are.later r above;
  }

  pub none_more : test n ≡ false → AreBelow test (n + 1) set
  none_more off = record {
    here = λ r low. elim (cases_Bool (nat_lt r n)) [
      | inl before ↦ are.here r (ltb-true r n before)
      | inr past ↦
          let above = ltb-false r n past in
          are.later r above ∙ sym (ap test (last r low above) ∙ off)
    ];
    later = λ r high. are.later r (omega (arith, high));
  }
