-- Numbers: bounds, products that are kept at a limit, and tests of two numbers.
use Rattle.std.proofs.Common.{◌%◌, ◌&&◌, ◌*◌, Bool, ltb, true, ◌+◌, ◌/◌, ◌<◌, ◌∙◌, ◌≡◌, ◌≤◌, ap, arith, eqb, false, inl, inr, min, mul-zero, refl, suc, sym, zero, zero-mul, ℕ}
use Rattle.std.specs.Prelude.{◌==◌, ◌||◌, nat_eq, nat_lt}
use Rattle.std.proofs.Math.Nat.{div-add-mod, le-mul_of_pos_right, le_of_lt, min-eq_left, min-eq_right, min-zero, mul_comm, zero-min}
use Rattle.std.proofs.Math.Bool.{or-false}
use Rattle.std.proofs.lemmas.Bool.{cases_eq, cases_lt, cases_order, eq-eqb, eqb-false, eqb-true, false_from_ne_true, le-ltb, lt-ltb, ne_eqb}

pub nat_eq_apart : (x y : ℕ) → nat_eq x y ≡ false → nat_eq y x ≡ false
nat_eq_apart x y apart = false_from_ne_true (nat_eq y x) (λ same. eqb-false x y apart (sym (eqb-true y x same)))

pub eqb_comm : (a b : ℕ) → eqb a b ≡ eqb b a
eqb_comm a b = elim (cases_eq a b) [
  | inl e ↦ eq-eqb a b e ∙ sym (eq-eqb b a (sym e))
  | inr n ↦ ne_eqb a b n ∙ sym (ne_eqb b a (λ e. n (sym e)))
]

pub nat_lt_more : (l n : ℕ) → (nat_lt l n || l == n) ≡ nat_lt l (suc n)
nat_lt_more l n = elim (cases_lt l n) [
  | inl low ↦ rw (lt-ltb l n low, lt-ltb l (suc n) (omega (arith, low))) refl
  | inr high ↦ elim (cases_eq l n) [
    | inl same ↦ rw (le-ltb l n high, eq-eqb l n same, lt-ltb l (suc n) (omega (arith, same))) refl
    | inr other ↦ rw (le-ltb l n high, ne_eqb l n other, le-ltb l (suc n) (omega (arith, high, other))) refl
  ]
]

-- a multiple of m is told by its quotient
pub same_multiple : (a b m : ℕ) → a % m ≡ 0 → b % m ≡ 0 → a / m ≡ b / m → a ≡ b
same_multiple a b m clean other same =
    let left : m * (a / m) + a % m ≡ a = div-add-mod a m in
    let right : m * (b / m) + b % m ≡ b = div-add-mod b m in
    sym left ∙ ap (λ k. m * (a / m) + k) (clean ∙ sym other) ∙ ap (λ k. m * k + b % m) same ∙ right

min_reached : (x y m : ℕ) → m ≤ x → m ≤ y → min x m ≡ min y m
min_reached x y m left right = omega arith

-- a number times one that isn't 0
pub le-mul_right : (n k : ℕ) → 0 < k → n ≤ n * k
le-mul_right n k some = le-mul_of_pos_right n some

pub le-mul_left : (n k : ℕ) → 0 < k → n ≤ k * n
le-mul_left n k some = rw (mul_comm k n) (le-mul_of_pos_right n some)

-- a product of two counts that are kept at a limit, kept at it
pub min-mul : (a b m : ℕ) → min (min a m * min b m) m ≡ min (a * b) m
min-mul zero b m = rw (zero-min, zero-mul, zero-mul) refl
min-mul (suc a) zero m = rw (zero-min, mul-zero, mul-zero) refl
min-mul (suc a) (suc b) zero = min-zero _ ∙ sym (min-zero _)
min-mul (suc a) (suc b) (suc m) = elim (cases_lt (suc m) (suc a)) [
  | inl high ↦
      min_reached _ _ (suc m) (rw (min-eq_right (le_of_lt high)) (le-mul_right (suc m) (min (suc b) (suc m)) (omega arith)))
      (omega (arith, le-mul_right (suc a) (suc b) (omega arith)))
  | inr low ↦ elim (cases_lt (suc m) (suc b)) [
    | inl high ↦
        min_reached _ _ (suc m) (rw (min-eq_right (le_of_lt high)) (le-mul_left (suc m) (min (suc a) (suc m)) (omega arith)))
        (omega (arith, le-mul_left (suc b) (suc a) (omega arith)))
    | inr small ↦ rw (min-eq_left low, min-eq_left small) refl
  ]
]

pub nat_lt-zero : (n : ℕ) → nat_lt n 0 ≡ false
nat_lt-zero n = le-ltb n 0 (omega arith)

-- what holds below the next number holds below this one, or of it
pub next_below : (y i : ℕ) (f : ℕ → Bool) → ((ltb y i && f y) || (eqb y i && f i)) ≡ (ltb y (i + 1) && f y)
next_below y i f = elim (cases_order y i) [
  | inl e ↦
      (let a : ltb y i ≡ false = le-ltb _ _ (omega arith) in
      let b : eqb y i ≡ true = eq-eqb _ _ e in
      let c : ltb y (i + 1) ≡ true = lt-ltb _ _ (omega arith) in
      let d : f i ≡ f y = ap f (sym e) in
      rw (a, b, c, d) refl)
  | inr o ↦ elim o [
    | inl less ↦
        (let a : ltb y i ≡ true = lt-ltb _ _ less in
        let b : eqb y i ≡ false = ne_eqb _ _ (λ e. omega arith) in
        let c : ltb y (i + 1) ≡ true = lt-ltb _ _ (omega arith) in
        rw (a, b, c) (or-false (f y)))
    | inr more ↦
        (let a : ltb y i ≡ false = le-ltb _ _ (omega arith) in
        let b : eqb y i ≡ false = ne_eqb _ _ (λ e. omega arith) in
        let c : ltb y (i + 1) ≡ false = le-ltb _ _ (omega arith) in
        rw (a, b, c) refl)
  ]
]
