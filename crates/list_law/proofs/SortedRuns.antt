-- In a list in order what stands at one place is a run.
use Rattle.std.proofs.Common.{◌+◌, ◌-◌, ◌<◌, ◌∙◌, ◌∷◌, ◌≡◌, ◌≤◌, Bool, List, [], ap, arith, drop, false, get_or, inl, inr, length, refl, subst, suc, sym, take, true, zero, ℕ}
use Rattle.std.specs.List.Sorted.{IsPartitionPoint, IsPartitionedBy, IsStrictlySortedBy}
use Rattle.std.specs.Prelude.{filter}
use Rattle.std.specs.declared.cmp.Ordering.{Ordering}
use Rattle.std.specs.declared.cmp.Ordering.TheVariants.{Less}
use Rattle.std.proofs.lemmas.Bool.{cases_eq, cases_lt, true≢false}
use Rattle.std.proofs.lemmas.Map.Keys.{Less-from_sorted}

filter_run : {A : Type 0} (p : A → Bool) (xs : List A) (i n : ℕ) → ((k : ℕ) (d : A) → k < i → k < length xs → p (get_or xs k d) ≡ false)
    → ((k : ℕ) (d : A) → i ≤ k → k < i + n → k < length xs → p (get_or xs k d) ≡ true) → ((k : ℕ) (d : A) → i + n ≤ k → k < length xs → p (get_or xs k d) ≡ false)
    → filter p xs ≡ take n (drop i xs)
filter_run p [] zero zero before inside after = refl
filter_run p [] zero (suc n) before inside after = refl
filter_run p [] (suc i) zero before inside after = refl
filter_run p [] (suc i) (suc n) before inside after = refl
filter_run p (x ∷ xs) (suc i) n before inside after =
    let off : p x ≡ false = before zero x (omega arith) (omega arith) in
    rw off (filter_run p xs i n (λ k d l w. before (suc k) d (omega arith) (omega arith))
    (λ k d l m w. inside (suc k) d (omega arith) (omega arith) (omega arith)) (λ k d l w. after (suc k) d (omega arith) (omega arith)))
filter_run p (x ∷ xs) zero (suc n) before inside after =
    let on : p x ≡ true = inside zero x (omega arith) (omega arith) (omega arith) in
    rw on (ap (λ ys. x ∷ ys) (filter_run p xs zero n (λ k d l w. absurd (omega arith))
    (λ k d l m w. inside (suc k) d (omega arith) (omega arith) (omega arith)) (λ k d l w. after (suc k) d (omega arith) (omega arith))))
filter_run p (x ∷ xs) zero zero before inside after =
    let off : p x ≡ false = after zero x (omega arith) (omega arith) in
    rw off (filter_run p xs zero zero (λ k d l w. absurd (omega arith)) (λ k d l m w. absurd (omega arith)) (λ k d l w. after (suc k) d (omega arith) (omega arith)))

module _ {A : Type 0} (q r p : A → Bool) (more : (x : A) → q x ≡ true → r x ≡ true) (early : (x : A) → q x ≡ true → p x ≡ false) (late : (x : A) → r x ≡ false → p x ≡ false)
    (within : (x : A) → q x ≡ false → r x ≡ true → p x ≡ true) (xs : List A) (i j : ℕ) (short : i ≤ length xs)
    (start : IsPartitionPoint (λ x. q x ≡ true) (λ x. q x ≡ false) xs i) (end : IsPartitionPoint (λ x. r x ≡ true) (λ x. r x ≡ false) xs j) where
  pub points_ordered : A → i ≤ j
  points_ordered d = elim (cases_lt j i) [
    | inl t ↦ absurd (true≢false (sym (more _ (start.0 j d (omega arith) t)) ∙ end.1 j d (omega arith) (omega arith)))
    | inr t ↦ t
  ]

  pub run_between : i ≤ j → take (j - i) (drop i xs) ≡ filter p xs
  run_between ordered =
      sym
      (filter_run p xs i (j - i) (λ k d l w. early _ (start.0 k d (omega arith) l))
      (λ k d l m w. within _ (start.1 k d l w) (end.0 k d (omega arith) (omega arith))) (λ k d l w. late _ (end.1 k d (omega arith) w)))

pub IsPartitionedBy-from_sorted : {A : Type 0} (R : A → A → Ordering) (q : A → Bool) → ((a b : A) → R a b ≡ Less → q b ≡ true → q a ≡ true)
    → (xs : List A) → IsStrictlySortedBy R xs → IsPartitionedBy q xs
IsPartitionedBy-from_sorted R q down xs sorted i j d le within holds = elim (cases_eq i j) [
  | inl t ↦ subst (λ k. q (get_or xs k d) ≡ true) (sym t) holds
  | inr t ↦ down _ _ (Less-from_sorted R xs i j d sorted (omega (arith, le, t)) within) holds
]
