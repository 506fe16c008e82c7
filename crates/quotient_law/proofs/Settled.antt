-- The rounds end: a pair that goes never comes back, and there are only so many.
use Rattle.std.proofs.Common.{◌≡◌, ℕ, zero, suc, ◌+◌, ◌<◌, ◌≤◌, Bool, true, not, ◌&&◌, inl, inr, arith, subst}
use Rattle.std.proofs.lemmas.Bool.{cases_Bool, cases_order, and_parts, and_from, not-true, not_from_false, or_left, both_ways, true_from_ne_false}
use Rattle.relation_law.specs.Numbers.{any_below, count_below}
use Rattle.relation_law.specs.Relations.{Pair}
use Rattle.relation_law.specs.Rounds.{gone_after, is_pair, TakesNothingMore, fails}
use Rattle.relation_law.specs.Views.{View}
use Rattle.relation_law.proofs.Rounds.{pair_from, pair_to}
use Rattle.relation_law.proofs.Tests.{any_found, none_at, count_le, count_lt, count_most}

abbrev sum_below : ℕ → (ℕ → ℕ) → ℕ
sum_below zero f = 0
sum_below (suc n) f = f n + sum_below n f

sum_le : (n : ℕ) (f g : ℕ → ℕ) → ((k : ℕ) → k < n → f k ≤ g k) → sum_below n f ≤ sum_below n g
sum_le zero f g h = omega arith
sum_le (suc n) f g h =
    let rest = sum_le n f g (λ k lt. h k (omega arith)) in
    let here = h n (omega arith) in
    omega (arith, rest, here)

sum_lt : (n : ℕ) (f g : ℕ → ℕ) (at : ℕ) → at < n → f at < g at → ((k : ℕ) → k < n → f k ≤ g k) → sum_below n f < sum_below n g
sum_lt zero f g at lt less h = absurd (omega arith)
sum_lt (suc n) f g at lt less h = elim (cases_order at n) [
  | inl same ↦
      let rest = sum_le n f g (λ k l. h k (omega arith)) in
      let here : f n < g n = subst (λ z. f z < g z) same less in
      omega (arith, rest, here)
  | inr other ↦ elim other [
    | inl below ↦
        let rest = sum_lt n f g at below less (λ k l. h k (omega arith)) in
        let here = h n (omega arith) in
        omega (arith, rest, here)
    | inr above ↦ absurd (omega arith)
  ]
]

module _ (v : View) (reach : ℕ → ℕ → Bool) where
  weight : ℕ → ℕ
  weight k = sum_below v.size (λ m. count_below v.size (λ n. gone_after v reach k m n))

  most : ℕ
  most = sum_below v.size (λ m. v.size)

  weight_most : (k : ℕ) → weight k ≤ most
  unfolding weight most
  weight_most k = sum_le v.size _ _ (λ m lt. count_most v.size (λ n. gone_after v reach k m n))

  stays_gone : (k m n : ℕ) → gone_after v reach k m n ≡ true → gone_after v reach (suc k) m n ≡ true
  stays_gone k m n h = or_left (gone_after v reach k m n) (fails v reach (gone_after v reach k) m n) h

  goes : ℕ → ℕ → ℕ → Bool
  goes k m n = is_pair v m n && (gone_after v reach (suc k) m n && not (gone_after v reach k m n))

  heavier : (k m n : ℕ) → goes k m n ≡ true → weight k < weight (suc k)
  unfolding weight goes
  heavier k m n h =
      let p = and_parts (is_pair v m n) _ h in
      let q = and_parts (gone_after v reach (suc k) m n) _ p.1 in
      let pair : Pair v m n = pair_from v m n p.0 in
      sum_lt v.size _ _ m pair.left
      (count_lt v.size (λ x. gone_after v reach k m x) (λ x. gone_after v reach (suc k) m x) n pair.right (not-true _ q.1) q.0 (λ x lt e. stays_gone k m x e))
      (λ y lt. count_le v.size (λ x. gone_after v reach k y x) (λ x. gone_after v reach (suc k) y x) (λ x l e. stays_gone k y x e))

  settles_from : (fuel k : ℕ) → most < fuel + weight k → (rounds : ℕ) × TakesNothingMore v reach rounds
  unfolding goes
  settles_from zero k h = let le = weight_most k in absurd (omega (arith, le, h))
  settles_from (suc fuel) k h = elim (cases_Bool (any_below v.size (λ m. any_below v.size (λ n. goes k m n)))) [
    | inl t ↦
        let f = any_found v.size (λ m. any_below v.size (λ n. goes k m n)) t in
        let e = any_found v.size (λ n. goes k f.0 n) f.2 in
        let lt = heavier k f.0 e.0 e.2 in
        settles_from fuel (suc k) (omega (arith, h, lt))
    | inr none ↦ (
      k,
      λ m n p gone. true_from_ne_false _ (λ off.
          both_ways _ (none_at v.size (λ n. goes k m n) n (none_at v.size (λ m. any_below v.size (λ n. goes k m n)) m none p.left) p.right)
          (and_from _ _ (pair_to v m n p) (and_from _ _ gone (not_from_false _ off)))),
    )
  ]

  pub settles : (rounds : ℕ) × TakesNothingMore v reach rounds
  settles = settles_from (suc most) zero (omega arith)
