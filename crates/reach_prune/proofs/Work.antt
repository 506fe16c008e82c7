-- How much a search has left to do.
use Rattle.std.proofs.Common.{◌≡◌, ℕ, zero, suc, ◌+◌, ◌<◌, ◌≤◌, Bool, true, false, cond, arith, refl, ap, ◌∙◌, inl, inr}
use Rattle.std.proofs.lemmas.Bool.{cases_eq}
use Rattle.std.specs.List.{count_by, range_with_len}
use Rattle.list_law.proofs.Counts.{count_first}

one_if : (b c : Bool) → (b ≡ true → c ≡ true) → ◌≤◌ (cond b 1 0) (cond c 1 0)
one_if true c h = rw (h refl) (omega arith)
one_if false c h = omega arith

pub count_le : (p q : ℕ → Bool) (a n : ℕ) → ((k : ℕ) → p k ≡ true → q k ≡ true) → count_by p (range_with_len a n) ≤ count_by q (range_with_len a n)
count_le p q a zero h = omega arith
count_le p q a (suc n) h = omega (arith, count_first p a n, count_first q a n, one_if (p a) (q a) (h a), count_le p q (a + 1) n h)

pub count_lt : (p q : ℕ → Bool) (a n at : ℕ) → a ≤ at → at < a + n → p at ≡ false → q at ≡ true → ((k : ℕ) → p k ≡ true → q k ≡ true)
    → count_by p (range_with_len a n) < count_by q (range_with_len a n)
count_lt p q a zero at le lt out in_it h = absurd (omega arith)
count_lt p q a (suc n) at le lt out in_it h = elim (cases_eq a at) [
  | inl e ↦ (
      let none : ◌≡◌ {A = ℕ} (cond (p a) 1 0) 0 = ap (λ (z : Bool). cond z 1 0) (ap p e ∙ out) in
      let one : ◌≡◌ {A = ℕ} (cond (q a) 1 0) 1 = ap (λ (z : Bool). cond z 1 0) (ap q e ∙ in_it) in
      omega (arith, count_first p a n, count_first q a n, none, one, count_le p q (a + 1) n h))
  | inr ne ↦ omega (arith, count_first p a n, count_first q a n, one_if (p a) (q a) (h a), count_lt p q (a + 1) n at (omega arith) (omega arith) out in_it h)
]
