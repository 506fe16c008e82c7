-- Marks on the numbers below a bound that only grow come to rest; two of many numbers below a bound are equal; the highest and the lowest of those marked.
use Rattle.std.proofs.Common.{◌≡◌, ℕ, zero, suc, ◌+◌, ◌<◌, ◌≤◌, Bool, true, false, cond, ◌||◌, ◌⊎◌, inl, inr, ⊎_elim, Option, Some, None, eqb, ltb, refl, sym, ap, ◌∙◌, subst, arith}
use Rattle.std.proofs.lemmas.Bool.{cases_lt, false≢true, or_cases, or_left, or_right, eqb-true, eq-eqb, ltb-true, ltb-false}
use Rattle.routing_law.specs.Settling.{Marks, Within, higher_of, highest, lower_of, lowest}

abbrev pub count_below : Marks → ℕ → ℕ
count_below f zero = 0
count_below f (suc n) = count_below f n + cond (f n) 1 0

abbrev pub Grows : Marks → Marks → Type 0
Grows f g = (n : ℕ) → f n ≡ true → g n ≡ true

pub count_bound : (f : Marks) (n : ℕ) → count_below f n ≤ n
count_bound f zero = omega arith
count_bound f (suc n) = one (f n) (count_bound f n)
  where
    one : (b : Bool) → count_below f n ≤ n → count_below f n + cond b 1 0 ≤ suc n
    one true h = omega arith
    one false h = omega arith

-- one mark more
one_more : (a b : Bool) → (a ≡ true → b ≡ true) → cond a 1 0 ≤ cond b 1 0
one_more true true h = omega arith
one_more false b h = omega arith
one_more true false h = absurd (false≢true (h refl))

count_grows : (f g : Marks) → Grows f g → (n : ℕ) → count_below f n ≤ count_below g n
count_grows f g h zero = omega arith
count_grows f g h (suc n) = omega (arith, count_grows f g h n, one_more (f n) (g n) (h n))

pub count_more : (f g : Marks) → Grows f g → (n i : ℕ) → i < n → f i ≡ false → g i ≡ true → count_below f n < count_below g n
count_more f g h zero i l a b = omega arith
count_more f g h (suc n) i l a b = here (cases_lt i n) (count_more f g h n i)
  where
    here : (i < n) ⊎ (n ≤ i) → (i < n → f i ≡ false → g i ≡ true → count_below f n < count_below g n) → count_below f (suc n) < count_below g (suc n)
    here (inl m) again = omega (arith, again m a b, one_more (f n) (g n) (h n))
    here (inr m) again =
        let e : i ≡ n = omega arith in
        let fn : f n ≡ false = subst (λ k. f k ≡ false) e a in
        let gn : g n ≡ true = subst (λ k. g k ≡ true) e b in
        rw (fn, gn) (omega (arith, count_grows f g h n))

-- g marks nothing new below the bound, or something
pub new_below : (f g : Marks) (n : ℕ) → Within n g f ⊎ ((i : ℕ) × (i < n) × (f i ≡ false) × (g i ≡ true))
new_below f g zero = inl (λ n l e. absurd (omega arith))
new_below f g (suc n) = more (new_below f g n) (f n) refl (g n) refl
  where
    more : Within n g f ⊎ ((i : ℕ) × (i < n) × (f i ≡ false) × (g i ≡ true)) → (a : Bool) → f n ≡ a → (b : Bool) → g n ≡ b → Within (suc n) g f ⊎ ((i : ℕ) × (i < suc n) × (f i ≡ false) × (g i ≡ true))
    more (inr h) a e b d = inr (h.0, omega (arith, h.1), h.2, h.3)
    more (inl h) false e true d = inr (n, omega arith, e, d)
    more (inl h) true e b d = inl (λ i l k. ⊎_elim (λ m. h i m k) (λ m. let x : i ≡ n = omega arith in ap f x ∙ e) (cases_lt i n))
    more (inl h) false e false d = inl (λ i l k. ⊎_elim (λ m. h i m k) (λ m. let x : n ≡ i = omega arith in absurd (false≢true (sym d ∙ ap g x ∙ k))) (cases_lt i n))

-- marks that grow
module _ (bound : ℕ) (marks : ℕ → Marks) (grow : (k : ℕ) → Grows (marks k) (marks (suc k))) where
  rest_or_many : (k : ℕ) → ((j : ℕ) × Within bound (marks (suc j)) (marks j)) ⊎ (k ≤ count_below (marks k) bound)
  rest_or_many zero = inr (omega arith)
  rest_or_many (suc k) = more (rest_or_many k) (new_below (marks k) (marks (suc k)) bound)
    where
      more : ((j : ℕ) × Within bound (marks (suc j)) (marks j)) ⊎ (k ≤ count_below (marks k) bound)
          → Within bound (marks (suc k)) (marks k) ⊎ ((i : ℕ) × (i < bound) × (marks k i ≡ false) × (marks (suc k) i ≡ true))
          → ((j : ℕ) × Within bound (marks (suc j)) (marks j)) ⊎ (suc k ≤ count_below (marks (suc k)) bound)
      more (inl h) n = inl h
      more (inr h) (inl n) = inl (k, n)
      more (inr h) (inr n) = inr (omega (arith, h, count_more (marks k) (marks (suc k)) (grow k) bound n.0 n.1 n.2 n.3))

  -- at some time nothing new is marked
  pub comes_to_rest : (j : ℕ) × Within bound (marks (suc j)) (marks j)
  comes_to_rest = ⊎_elim (λ h. h) (λ h. absurd (omega (arith, h, count_bound (marks (suc bound)) bound))) (rest_or_many (suc bound))

-- the values of f so far
abbrev seen : (ℕ → ℕ) → ℕ → Marks
seen f zero n = false
seen f (suc k) n = eqb (f k) n || seen f k n

seen_at : (f : ℕ → ℕ) (k n : ℕ) → seen f k n ≡ true → (i : ℕ) × (i < k) × (f i ≡ n)
seen_at f zero n h = absurd (false≢true h)
seen_at f (suc k) n h = last (or_cases (eqb (f k) n) (seen f k n) h) (seen_at f k n)
  where
    last : (eqb (f k) n ≡ true) ⊎ (seen f k n ≡ true) → (seen f k n ≡ true → (i : ℕ) × (i < k) × (f i ≡ n)) → (i : ℕ) × (i < suc k) × (f i ≡ n)
    last (inl e) again = (k, omega arith, eqb-true (f k) n e)
    last (inr e) again = let a = again e in (a.0, omega (arith, a.1), a.2)

-- numbers below a bound come again
pub comes_again : (bound : ℕ) (f : ℕ → ℕ) → ((i : ℕ) → f i < bound) → (i j : ℕ) × (i < j) × (f i ≡ f j)
comes_again bound f below =
    let a = comes_to_rest bound (seen f) (λ k n e. or_right (eqb (f k) n) (seen f k n) e) in
    let b = a.1 (f a.0) (below a.0) (or_left (eqb (f a.0) (f a.0)) (seen f a.0 (f a.0)) (eq-eqb (f a.0) (f a.0) refl)) in
    let c = seen_at f a.0 (f a.0) b in
    (c.0, a.0, c.1, c.2)

abbrev pub NoneBelow : Marks → ℕ → Type 0
NoneBelow f n = (j : ℕ) → j < n → f j ≡ false

split_last : (P : ℕ → Type 0) (n : ℕ) → ((j : ℕ) → j < n → P j) → P n → (j : ℕ) → j < suc n → P j
split_last P n h p j l = ⊎_elim (λ m. h j m) (λ m. let e : n ≡ j = omega arith in subst P e p) (cases_lt j n)

-- what highest and lowest give
abbrev pub IsHighest : Marks → (ℕ → ℕ) → ℕ → Option ℕ → Type 0
IsHighest f measure n None = NoneBelow f n
IsHighest f measure n (Some i) = (i < n) × (f i ≡ true) × ((j : ℕ) → j < n → f j ≡ true → measure j ≤ measure i)

pub highest_is : (f : Marks) (measure : ℕ → ℕ) (n : ℕ) → IsHighest f measure n (highest f measure n)
highest_is f measure zero = λ j l. absurd (omega arith)
highest_is f measure (suc n) = more (f n) refl (highest f measure n) (highest_is f measure n)
  where
    take : (i : ℕ) → f n ≡ true → IsHighest f measure n (Some i) → (b : Bool) → ltb (measure i) (measure n) ≡ b → IsHighest f measure (suc n) (cond b (Some n) (Some i))
    take i e h true l = (omega arith, e, split_last (λ j. f j ≡ true → measure j ≤ measure n) n (λ j m k. omega (arith, h.2 j m k, ltb-true (measure i) (measure n) l)) (λ k. omega arith))
    take i e h false l = (omega (arith, h.0), h.1, split_last (λ j. f j ≡ true → measure j ≤ measure i) n h.2 (λ k. omega (arith, ltb-false (measure i) (measure n) l)))

    more : (b : Bool) → f n ≡ b → (o : Option ℕ) → IsHighest f measure n o → IsHighest f measure (suc n) (cond b (higher_of measure n o) o)
    more false e None h = split_last (λ j. f j ≡ false) n h e
    more true e None h = (omega arith, e, split_last (λ j. f j ≡ true → measure j ≤ measure n) n (λ j l k. absurd (false≢true (sym (h j l) ∙ k))) (λ k. omega arith))
    more false e (Some i) h = (omega (arith, h.0), h.1, split_last (λ j. f j ≡ true → measure j ≤ measure i) n h.2 (λ k. absurd (false≢true (sym e ∙ k))))
    more true e (Some i) h = take i e h (ltb (measure i) (measure n)) refl

abbrev pub IsLowest : Marks → (ℕ → ℕ) → ℕ → Option ℕ → Type 0
IsLowest f measure n None = NoneBelow f n
IsLowest f measure n (Some i) = (i < n) × (f i ≡ true) × ((j : ℕ) → j < n → f j ≡ true → measure i ≤ measure j)

pub lowest_is : (f : Marks) (measure : ℕ → ℕ) (n : ℕ) → IsLowest f measure n (lowest f measure n)
lowest_is f measure zero = λ j l. absurd (omega arith)
lowest_is f measure (suc n) = more (f n) refl (lowest f measure n) (lowest_is f measure n)
  where
    take : (i : ℕ) → f n ≡ true → IsLowest f measure n (Some i) → (b : Bool) → ltb (measure n) (measure i) ≡ b → IsLowest f measure (suc n) (cond b (Some n) (Some i))
    take i e h true l = (omega arith, e, split_last (λ j. f j ≡ true → measure n ≤ measure j) n (λ j m k. omega (arith, h.2 j m k, ltb-true (measure n) (measure i) l)) (λ k. omega arith))
    take i e h false l = (omega (arith, h.0), h.1, split_last (λ j. f j ≡ true → measure i ≤ measure j) n h.2 (λ k. omega (arith, ltb-false (measure n) (measure i) l)))

    more : (b : Bool) → f n ≡ b → (o : Option ℕ) → IsLowest f measure n o → IsLowest f measure (suc n) (cond b (lower_of measure n o) o)
    more false e None h = split_last (λ j. f j ≡ false) n h e
    more true e None h = (omega arith, e, split_last (λ j. f j ≡ true → measure n ≤ measure j) n (λ j l k. absurd (false≢true (sym (h j l) ∙ k))) (λ k. omega arith))
    more false e (Some i) h = (omega (arith, h.0), h.1, split_last (λ j. f j ≡ true → measure i ≤ measure j) n h.2 (λ k. absurd (false≢true (sym e ∙ k))))
    more true e (Some i) h = take i e h (ltb (measure n) (measure i)) refl
