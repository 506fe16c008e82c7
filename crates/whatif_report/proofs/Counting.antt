-- Numbers that pass a test are counted one by one.
use Rattle.std.proofs.Common.{◌≡◌, ℕ, zero, suc, ◌+◌, ◌<◌, Bool, true, false, filter, length, refl, sym, ap, ◌∙◌, inl, inr, arith}
use Rattle.std.specs.List.{count_by}
use Rattle.std.proofs.lemmas.Bool.{cases_Bool}
use Rattle.std.proofs.lemmas.List.{length_push}
use Rattle.std.proofs.lemmas.List.Sums.{length-filter}
use Rattle.net_base.specs.Locations.{numbers_below}
use Rattle.net_base.proofs.NumbersBelow.{filter_kept, filter_left}

module _ (test : ℕ → Bool) where
  pub count_more : (n : ℕ) → test n ≡ true → count_by test (numbers_below (n + 1)) ≡ count_by test (numbers_below n) + 1
  count_more n is =
      sym (length-filter test (numbers_below (n + 1))) ∙ ap length (filter_kept test n is) ∙ length_push (filter test (numbers_below n)) n
      ∙ ap (λ k. k + 1) (length-filter test (numbers_below n))

  pub count_same : (n : ℕ) → test n ≡ false → count_by test (numbers_below (n + 1)) ≡ count_by test (numbers_below n)
  count_same n is = sym (length-filter test (numbers_below (n + 1))) ∙ ap length (filter_left test n is) ∙ length-filter test (numbers_below n)

-- and what passes one test alone where it passes another is counted alike
pub count_alike : (one other : ℕ → Bool) (n : ℕ) → ((r : ℕ) → r < n → one r ≡ other r) → count_by one (numbers_below n) ≡ count_by other (numbers_below n)
count_alike one other zero same = refl
count_alike one other (suc n) same =
    let next : suc n ≡ n + 1 = omega arith in
    let before = count_alike one other n (λ r low. same r (omega (arith, low))) in
    let here = same n (omega arith) in
    ap (λ k. count_by one (numbers_below k)) next
    ∙ elim (cases_Bool (other n)) [
      | inl on ↦ count_more one n (here ∙ on) ∙ ap (λ k. k + 1) before ∙ sym (count_more other n on)
      | inr off ↦ count_same one n (here ∙ off) ∙ before ∙ sym (count_same other n off)
    ]
    ∙ sym (ap (λ k. count_by other (numbers_below k)) next)
