-- Statements by the fronts of their patterns.
use Rattle.std.proofs.Common.{◌≡◌, ℕ, zero, suc, ◌+◌, ◌-◌, ◌/◌, ◌^◌, ◌≤◌, Bool, true, false, List, [], ◌∷◌, refl, sym, ap, subst, ◌∙◌, arith, inl, inr, Option, Some, None}
use Rattle.std.specs.Prelude.{◌&&◌, ◌||◌, ◌==◌, nat_le, nat_lt, if◌then◌else◌}
use Rattle.std.specs.List.{list_any}
use Rattle.std.proofs.lemmas.Bool.{cases_Bool, le-leb, le-ltb, leb-true, eqb-true, eq-eqb, lt-leb}
use Rattle.std.proofs.Math.Bool.{and-true, and-false, and-or_distrib_left}
use Rattle.list_law.proofs.Truth.{or_or_or_comm, if_same}
use Rattle.list_law.proofs.Numbers.{nat_lt_more, eqb_comm}
use Rattle.list_law.proofs.Tests.{list_any-never, list_any-same}
use Rattle.net_base.specs.Prefixes.{PlainPrefix, PlainPattern, contains}
use Rattle.policy_base.specs.Policies.{PlainStatement}
use Rattle.policy_base.specs.Governing.{some_contains, governing_from}
use Rattle.policy_base.specs.declared.fronts.Front.{Front}
use Rattle.policy_base.specs.Fronts.{same_front, front_of, has_front, first_with_front, least, least_number}

-- the place, from k, of the first statement that passes a test
first_number : (PlainStatement → Bool) → List PlainStatement → ℕ → Option ℕ
first_number test [] k = None
first_number test (s ∷ ss) k = if test s then Some k else first_number test ss (k + 1)

first_number-alike : (p q : PlainStatement → Bool) → ((s : PlainStatement) → p s ≡ q s) → (ss : List PlainStatement) (k : ℕ) → first_number p ss k ≡ first_number q ss k
unfolding first_number
first_number-alike p q same [] k = refl
first_number-alike p q same (s ∷ ss) k =
    ap (λ b. if b then Some k else first_number p ss (k + 1)) (same s) ∙ ap (λ o. if q s then Some k else o) (first_number-alike p q same ss (k + 1))

first_number-front : (f : Front) (ss : List PlainStatement) (k : ℕ) → first_with_front ss f k ≡ first_number (λ s. list_any (has_front f) s.patterns) ss k
unfolding first_number
first_number-front f [] k = refl
first_number-front f (s ∷ ss) k = ap (λ o. if list_any (has_front f) s.patterns then Some k else o) (first_number-front f ss (k + 1))

first_number-governing : (p : PlainPrefix) (ss : List PlainStatement) (k : ℕ) → first_number (λ s. some_contains s.patterns p) ss k ≡ governing_from ss p k
unfolding first_number
first_number-governing p [] k = refl
first_number-governing p (s ∷ ss) k = ap (λ o. if some_contains s.patterns p then Some k else o) (first_number-governing p ss (k + 1))

first_number-none : (ss : List PlainStatement) (k : ℕ) → first_number (λ _. false) ss k ≡ None
unfolding first_number
first_number-none [] k = refl
first_number-none (s ∷ ss) k = first_number-none ss (k + 1)

-- a number that is k, or a later one, or missing
data IsFrom (k : ℕ) : Option ℕ → Type 0 where
  missing : IsFrom k None
  there : (j : ℕ) → k ≤ j → IsFrom k (Some j)

later : {k : ℕ} {o : Option ℕ} → IsFrom (k + 1) o → IsFrom k o
later missing = missing
later (there j h) = there j (omega arith)

is_from : (p : PlainStatement → Bool) (ss : List PlainStatement) (k : ℕ) → IsFrom k (first_number p ss k)
unfolding first_number
is_from p [] k = missing
is_from p (s ∷ ss) k = elim (cases_Bool (p s)) [
  | inl met ↦ subst (λ b. IsFrom k (if b then Some k else first_number p ss (k + 1))) (sym met) (there k (omega arith))
  | inr missed ↦ subst (λ b. IsFrom k (if b then Some k else first_number p ss (k + 1))) (sym missed) (later (is_from p ss (k + 1)))
]

least-same : (k : ℕ) → Some k ≡ least (Some k) (Some k)
least-same k = ap (λ n. Some n) (sym (if_same (nat_le k k) k))

least-first : (k : ℕ) (o : Option ℕ) → IsFrom (k + 1) o → Some k ≡ least (Some k) o
least-first k None _ = refl
least-first k (Some j) (there _ h) = ap (λ b. Some (if b then k else j)) (sym (le-leb k j (omega arith)))

least-second : (k : ℕ) (o : Option ℕ) → IsFrom (k + 1) o → Some k ≡ least o (Some k)
least-second k None _ = refl
least-second k (Some j) (there _ h) = ap (λ b. Some (if b then j else k)) (sym (lt-leb j k (omega arith)))

-- the first of two tests, where none of the later numbers is k
least-step : (a b : Bool) (k : ℕ) (x y : Option ℕ) → IsFrom (k + 1) x → IsFrom (k + 1) y
    → (if a || b then Some k else least x y) ≡ least (if a then Some k else x) (if b then Some k else y)
least-step true true k x y hx hy = least-same k
least-step true false k x y hx hy = least-first k y hy
least-step false true k x y hx hy = least-second k x hx
least-step false false k x y hx hy = refl

first_number-or : (p q : PlainStatement → Bool) (ss : List PlainStatement) (k : ℕ) → first_number (λ s. p s || q s) ss k ≡ least (first_number p ss k) (first_number q ss k)
unfolding first_number
first_number-or p q [] k = refl
first_number-or p q (s ∷ ss) k =
    ap (λ o. if p s || q s then Some k else o) (first_number-or p q ss (k + 1))
    ∙ least-step (p s) (q s) k (first_number p ss (k + 1)) (first_number q ss (k + 1)) (is_from p ss (k + 1)) (is_from q ss (k + 1))

list_any-or : {A : Type 0} (p q : A → Bool) (xs : List A) → list_any (λ x. p x || q x) xs ≡ (list_any p xs || list_any q xs)
list_any-or p q [] = refl
list_any-or p q (x ∷ xs) = ap (λ b. (p x || q x) || b) (list_any-or p q xs) ∙ or_or_or_comm (p x) (q x) (list_any p xs) (list_any q xs)

-- a pattern with a base of less than k bits contains the prefix
contains_below : ℕ → PlainPrefix → PlainPattern → Bool
contains_below k p t = contains t p && nat_lt t.base.len k

-- the same tests in another order
in_order : (a b c s : Bool) → ((a && b) && c) && s ≡ ((b && (s && true)) && (a && c))
in_order true true true true = refl
in_order true true true false = refl
in_order true true false true = refl
in_order true true false false = refl
in_order true false c s = refl
in_order false true c true = refl
in_order false true c false = refl
in_order false false c s = refl

at_front : (p : PlainPrefix) (k : ℕ) (t : PlainPattern) → contains t p && (t.base.len == k) ≡ has_front (front_of p k) t
at_front p k t = elim (cases_Bool (t.base.len == k)) [
  | inl same ↦
      let e : t.base.len ≡ k = eqb-true t.base.len k same in
      in_order (nat_le t.base.len p.len) (p.bits / 2 ^ (32 - t.base.len) == t.base.bits / 2 ^ (32 - t.base.len)) (nat_le p.len t.upto) (t.base.len == k)
      ∙ ap (λ b. (b && ((t.base.len == k) && true)) && (nat_le t.base.len p.len && nat_le p.len t.upto))
      (eqb_comm (p.bits / 2 ^ (32 - t.base.len)) (t.base.bits / 2 ^ (32 - t.base.len)) ∙ ap (λ l. t.base.bits / 2 ^ (32 - t.base.len) == p.bits / 2 ^ (32 - l)) e)
      ∙ ap (λ b. ((t.base.bits / 2 ^ (32 - t.base.len) == p.bits / 2 ^ (32 - k)) && ((t.base.len == k) && b)) && (nat_le t.base.len p.len && nat_le p.len t.upto)) (sym (eq-eqb p.len p.len refl))
  | inr other ↦
      ap (λ b. contains t p && b) other ∙ and-false (contains t p)
      ∙ sym (ap (λ b. ((t.base.bits / 2 ^ (32 - t.base.len) == p.bits / 2 ^ (32 - k)) && (b && (p.len == p.len))) && (nat_le t.base.len p.len && nat_le p.len t.upto)) other
      ∙ ap (λ b. b && (nat_le t.base.len p.len && nat_le p.len t.upto)) (and-false (t.base.bits / 2 ^ (32 - t.base.len) == p.bits / 2 ^ (32 - k))))
]

contains_below-next : (k : ℕ) (p : PlainPrefix) (t : PlainPattern) → (contains_below k p t || has_front (front_of p k) t) ≡ contains_below (suc k) p t
unfolding contains_below
contains_below-next k p t =
    ap (λ b. (contains t p && nat_lt t.base.len k) || b) (sym (at_front p k t))
    ∙ sym (and-or_distrib_left (contains t p) (nat_lt t.base.len k) (t.base.len == k))
    ∙ ap (λ b. contains t p && b) (nat_lt_more t.base.len k)

contains_below-none : (p : PlainPrefix) (t : PlainPattern) → contains_below zero p t ≡ false
unfolding contains_below
contains_below-none p t = ap (λ b. contains t p && b) (le-ltb t.base.len zero (omega arith)) ∙ and-false (contains t p)

contains_below-all : (p : PlainPrefix) (t : PlainPattern) → contains_below (p.len + 1) p t ≡ contains t p
unfolding contains_below
contains_below-all p t = elim (cases_Bool (nat_le t.base.len p.len)) [
  | inl met ↦ ap (λ b. contains t p && b) (le-leb (suc t.base.len) (p.len + 1) (omega (arith, leb-true t.base.len p.len met))) ∙ and-true (contains t p)
  | inr missed ↦
      let none : contains t p ≡ false = ap (λ b. (b && (p.bits / 2 ^ (32 - t.base.len) == t.base.bits / 2 ^ (32 - t.base.len))) && nat_le p.len t.upto) missed in
      ap (λ b. b && nat_lt t.base.len (p.len + 1)) none ∙ sym none
]

-- the least number of the shorter fronts is that of the first statement with such a pattern
least_number-shorter : (numbers : Front → Option ℕ) (ss : List PlainStatement) (p : PlainPrefix) → ((f : Front) → numbers f ≡ first_with_front ss f 1) → (k : ℕ)
    → least_number numbers p k ≡ first_number (λ s. list_any (contains_below k p) s.patterns) ss 1
least_number-shorter numbers ss p noted zero =
    sym (first_number-alike (λ s. list_any (contains_below zero p) s.patterns) (λ _. false)
    (λ s. list_any-never (contains_below zero p) (contains_below-none p) s.patterns) ss 1 ∙ first_number-none ss 1)
least_number-shorter numbers ss p noted (suc k) =
    ap (λ o. least o (numbers (front_of p k))) (least_number-shorter numbers ss p noted k)
    ∙ ap (λ o. least (first_number (λ s. list_any (contains_below k p) s.patterns) ss 1) o) (noted (front_of p k) ∙ first_number-front (front_of p k) ss 1)
    ∙ sym (first_number-or (λ s. list_any (contains_below k p) s.patterns) (λ s. list_any (has_front (front_of p k)) s.patterns) ss 1)
    ∙ first_number-alike (λ s. list_any (contains_below k p) s.patterns || list_any (has_front (front_of p k)) s.patterns) (λ s. list_any (contains_below (suc k) p) s.patterns)
    (λ s. sym (list_any-or (contains_below k p) (has_front (front_of p k)) s.patterns)
    ∙ list_any-same (λ t. contains_below k p t || has_front (front_of p k) t) (contains_below (suc k) p) (contains_below-next k p) s.patterns) ss 1

-- and of all fronts that of the statement that governs the prefix
pub least_number-governing : (numbers : Front → Option ℕ) (ss : List PlainStatement) (p : PlainPrefix) → ((f : Front) → numbers f ≡ first_with_front ss f 1)
    → least_number numbers p (p.len + 1) ≡ governing_from ss p 1
least_number-governing numbers ss p noted =
    least_number-shorter numbers ss p noted (p.len + 1)
    ∙ first_number-alike (λ s. list_any (contains_below (p.len + 1) p) s.patterns) (λ s. some_contains s.patterns p)
    (λ s. list_any-same (contains_below (p.len + 1) p) (λ t. contains t p) (contains_below-all p) s.patterns) ss 1
    ∙ first_number-governing p ss 1

-- the pattern's base is the front, and the pattern may contain prefixes of that length, which is below n
abbrev pub has_front_below : ℕ → Front → PlainPattern → Bool
has_front_below n f t = same_front (record { bits = t.base.bits / 2 ^ (32 - t.base.len); len = t.base.len; of = f.of }) f && (nat_le t.base.len f.of && nat_lt f.of n)
