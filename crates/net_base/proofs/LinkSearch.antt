-- A binary search among links that ascend finds the link of two ends.
use Rattle.std.proofs.Common.{◌≡◌, ℕ, zero, suc, ◌+◌, ◌<◌, ◌≤◌, Bool, true, false, List, [], ◌∷◌, length, get_or, Some, None, refl, sym, ap, ◌∙◌, arith, inl, inr, Bor, cond}
use Rattle.std.specs.Prelude.{◌⊎◌, ◌&&◌, ◌||◌, ◌==◌, nat_lt, is_some, if◌then◌else◌}
use Rattle.std.specs.List.{list_any, position, position_or_len, AllByRecursion}
use Rattle.std.specs.List.Sorted.{IsPartitionedBy, IsPartitionPoint}
use Rattle.std.specs.Fn.{Mut, Called, ComputesKey}
use Rattle.std.proofs.lemmas.Bool.{cases_eq, cases_lt, lt-ltb, le-ltb}
use Rattle.std.proofs.lemmas.Bool.Decides.{nat_tests}
use Rattle.std.proofs.lemmas.List.Sorted.{IsPartitionPoint-from_clause}
use Rattle.std.proofs.lemmas.List.Sums.{position_or_len_is}
use Rattle.net_base.specs.Network.{PlainNet, IsLink, IsBefore, Ascend, joins, ordered, same_ends, is_before}
use Rattle.list_law.proofs.Numbers.{eqb_comm}
use Rattle.list_law.proofs.Truth.{or_failed}

-- a link that stands before another has a lesser first end, or the same one and a lesser second
split : (a b : ℕ × ℕ) → IsBefore a b → (a.0 < b.0) ⊎ ((a.0 ≡ b.0) × (a.1 < b.1))
split a b up = elim (cases_eq a.0 b.0) [
  | inl same ↦ inr (same, up.1 same)
  | inr other ↦ inl (omega (arith, up.0, other))
]

module _ (e : ℕ × ℕ) where
  before_down : (a b : ℕ × ℕ) → (a.0 < b.0) ⊎ ((a.0 ≡ b.0) × (a.1 < b.1)) → is_before b e ≡ true → is_before a e ≡ true
  before_down a b (inl t) h = grind (arith, nat_tests)
  before_down a b (inr t) h = let same = t.0 in let below = t.1 in grind (arith, nat_tests)

  before_differs : (a : ℕ × ℕ) → is_before a e ≡ true → same_ends e a ≡ false
  before_differs a h = grind (arith, nat_tests)

  later_differs : (a b : ℕ × ℕ) → (a.0 < b.0) ⊎ ((a.0 ≡ b.0) × (a.1 < b.1)) → is_before a e ≡ false → same_ends e b ≡ false
  later_differs a b (inl t) h = grind (arith, nat_tests)
  later_differs a b (inr t) h = let same = t.0 in let below = t.1 in grind (arith, nat_tests)

  below_at : (a : ℕ × ℕ) (xs : List (ℕ × ℕ)) → AllByRecursion (IsBefore a) xs → (j : ℕ) (d : ℕ × ℕ) → j < length xs → IsBefore a (get_or xs j d)
  below_at a [] all j d within = absurd (omega arith)
  below_at a (x ∷ xs) all zero d within = all.0
  below_at a (x ∷ xs) all (suc j) d within = below_at a xs all.1 j d (omega arith)

  rising : (xs : List (ℕ × ℕ)) → Ascend xs → (i j : ℕ) (d : ℕ × ℕ) → i < j → j < length xs → IsBefore (get_or xs i d) (get_or xs j d)
  rising [] up i j d less within = absurd (omega arith)
  rising (x ∷ xs) up i zero d less within = absurd (omega arith)
  rising (x ∷ xs) up zero (suc j) d less within = below_at x xs up.0 j d (omega arith)
  rising (x ∷ xs) up (suc i) (suc j) d less within = rising xs up.1 i j d (omega arith) (omega arith)

  pub parted : (xs : List (ℕ × ℕ)) → Ascend xs → IsPartitionedBy (λ x. is_before x e) xs
  parted [] up i j d le within h = absurd (omega arith)
  parted (x ∷ xs) up zero zero d le within h = h
  parted (x ∷ xs) up zero (suc j) d le within h = before_down _ _ (split _ _ (below_at x xs up.0 j d (omega arith))) h
  parted (x ∷ xs) up (suc i) zero d le within h = absurd (omega arith)
  parted (x ∷ xs) up (suc i) (suc j) d le within h = parted xs up.1 i j d (omega arith) (omega arith) h

or_other : (x y : Bool) → x ≡ false → (x || y) ≡ y
or_other x y off = ap (λ (b : Bool). b || y) off

-- a link joins two locations where it has them as its ends, the lesser one first
joins_by_ends : (a b : ℕ) (x : ℕ × ℕ) → x.0 < x.1 → joins a b x ≡ same_ends (ordered a b) x
joins_by_ends a b x up = elim (cases_lt a b) [
  | inl low ↦ rw (lt-ltb a b low, eqb_comm a x.0, eqb_comm b x.1) (or_failed _ _ (turned low))
  | inr high ↦ rw (le-ltb a b high, eqb_comm b x.0, eqb_comm a x.1) (or_other _ _ (straight high))
] where
  turned : a < b → (x.0 == b && x.1 == a) ≡ false
  turned low = grind (arith, nat_tests)

  straight : b ≤ a → (x.0 == a && x.1 == b) ≡ false
  straight high = grind (arith, nat_tests)

link_up : (net : PlainNet) (xs : List (ℕ × ℕ)) → AllByRecursion (IsLink net) xs → (k : ℕ) (d : ℕ × ℕ) → k < length xs → let x : ℕ × ℕ = get_or xs k d in x.0 < x.1
link_up net [] all k d within = absurd (omega arith)
link_up net (x ∷ xs) all zero d within = all.0.0
link_up net (x ∷ xs) all (suc k) d within = link_up net xs all.1 k d (omega arith)

position-at : {A : Type 0} (p : A → Bool) (xs : List A) (i : ℕ) → position_or_len p xs ≡ i → i < length xs → position p xs ≡ Some i
position-at p xs i is within = rw (is, lt-ltb i (length xs) within) refl

position-none : {A : Type 0} (p : A → Bool) (xs : List A) → position_or_len p xs ≡ length xs → position p xs ≡ None
position-none p xs is = rw (is, le-ltb (length xs) (length xs) (omega arith)) refl

pub is_some-position : {A : Type 0} (p : A → Bool) (xs : List A) → is_some (position p xs) ≡ list_any p xs
is_some-position {A = A} p xs = some (nat_lt (position_or_len p xs) (length xs)) ∙ tells xs
  where
    some : (b : Bool) → is_some (cond b (Some (position_or_len p xs)) None) ≡ b
    some true = refl
    some false = refl

    tells : (ys : List A) → nat_lt (position_or_len p ys) (length ys) ≡ list_any p ys
    tells [] = refl
    tells (y ∷ ys) = at_first y ys (p y) refl (tells ys)
      where
        shifted : (m n : ℕ) → nat_lt (1 + m) (suc n) ≡ nat_lt m n
        shifted m n = elim (cases_lt m n) [
          | inl low ↦ lt-ltb (1 + m) (suc n) (omega (arith, low)) ∙ sym (lt-ltb m n low)
          | inr high ↦ le-ltb (1 + m) (suc n) (omega (arith, high)) ∙ sym (le-ltb m n high)
        ]

        at_first : (z : A) (zs : List A) (b : Bool) → p z ≡ b → nat_lt (position_or_len p zs) (length zs) ≡ list_any p zs → nat_lt (position_or_len p (z ∷ zs)) (length (z ∷ zs)) ≡ list_any p (z ∷ zs)
        at_first z zs true is later = rw is (lt-ltb 0 (suc (length zs)) (omega arith))
        at_first z zs false is later = rw is (shifted (position_or_len p zs) (length zs) ∙ later)

position-same : {A : Type 0} (p q : A → Bool) (xs : List A) → ((k : ℕ) (d : A) → k < length xs → p (get_or xs k d) ≡ q (get_or xs k d)) → position p xs ≡ position q xs
position-same {A = A} p q xs same = ap (λ (i : ℕ). cond (nat_lt i (length xs)) (Some i) None) (first xs same)
  where
    first : (ys : List A) → ((k : ℕ) (d : A) → k < length ys → p (get_or ys k d) ≡ q (get_or ys k d)) → position_or_len p ys ≡ position_or_len q ys
    first [] each = refl
    first (y ∷ ys) each = rw (each 0 y (omega arith), first ys (λ k d within. each (suc k) d (omega arith))) refl

-- the place of a link that joins two locations is that of their ends in order
pub position-joins : (net : PlainNet) (a b : ℕ) (xs : List (ℕ × ℕ)) → AllByRecursion (IsLink net) xs → position (same_ends (ordered a b)) xs ≡ position (joins a b) xs
position-joins net a b xs links = position-same (same_ends (ordered a b)) (joins a b) xs (λ k d within. sym (joins_by_ends a b (get_or xs k d) (link_up net xs links k d within)))

module _ (e : ℕ × ℕ) (xs : List (ℕ × ℕ)) (i : ℕ) (up : Ascend xs) (point : IsPartitionPoint (λ x. is_before x e ≡ true) (λ x. is_before x e ≡ false) xs i) where
  before : (k : ℕ) (d : ℕ × ℕ) → k < i → same_ends e (get_or xs k d) ≡ false
  before k d less = before_differs e (get_or xs k d) (point.0 k d (omega arith) less)

  behind : (k : ℕ) (d : ℕ × ℕ) → i < k → k < length xs → same_ends e (get_or xs k d) ≡ false
  behind k d more within = later_differs e (get_or xs i d) (get_or xs k d) (split _ _ (rising e xs up i k d more within)) (point.1 i d (omega arith) (omega (arith, more, within)))

  -- no link stands at the place
  pub none_past : length xs ≤ i → position (same_ends e) xs ≡ None
  none_past past =
      position-none (same_ends e) xs
      (position_or_len_is (same_ends e) xs (length xs) (0, 0) (omega arith) (λ k less. before k (0, 0) (omega (arith, less, past))) (λ within. absurd (omega arith)))

  -- a link stands there, which has the ends or hasn't
  pub found_at : i < length xs → (x : ℕ × ℕ) → get_or xs i (0, 0) ≡ x → position (same_ends e) xs ≡ (if same_ends e x then Some i else None)
  found_at within x at = by_test (same_ends e x) refl
    where
      here : same_ends e (get_or xs i (0, 0)) ≡ same_ends e x
      here = ap (λ (y : ℕ × ℕ). same_ends e y) at

      absent : same_ends e x ≡ false → (k : ℕ) → k < length xs → same_ends e (get_or xs k (0, 0)) ≡ false
      absent off k inside = elim (cases_lt k i) [
        | inl less ↦ before k (0, 0) less
        | inr high ↦ elim (cases_eq k i) [
          | inl same ↦ ap (λ (n : ℕ). same_ends e (get_or xs n (0, 0))) same ∙ here ∙ off
          | inr other ↦ behind k (0, 0) (omega (arith, high, other)) inside
        ]
      ]

      by_test : (t : Bool) → same_ends e x ≡ t → position (same_ends e) xs ≡ (if same_ends e x then Some i else None)
      by_test true on =
          rw on (position-at (same_ends e) xs i (position_or_len_is (same_ends e) xs i (0, 0) (omega arith) (λ k less. before k (0, 0) less) (λ _. here ∙ on)) within)
      by_test false off = rw off (position-none (same_ends e) xs (position_or_len_is (same_ends e) xs (length xs) (0, 0) (omega arith) (absent off) (λ inside. absurd (omega arith))))

-- What a search by `partition_point` finds, where its closure tells which links stand before the ends.
module _ {F : Type 0} {g : Mut F (Bor (ℕ × ℕ) × Unit {0}) Bool} {f : F} (e : ℕ × ℕ) (xs : List (ℕ × ℕ)) (i : ℕ) (up : Ascend xs)
    (clause : (q : ℕ × ℕ → Bool) → ComputesKey g q f → IsPartitionedBy q xs → IsPartitionPoint (λ y. q y ≡ true) (λ y. q y ≡ false) xs i)
    (tells : (a : Bor (ℕ × ℕ) × Unit {0}) (r : Bool) (f' : F) → Called g f a r f' → (r ≡ is_before a.0.now e) × (f' ≡ f)) where
  point_of : IsPartitionPoint (λ x. is_before x e ≡ true) (λ x. is_before x e ≡ false) xs i
  point_of = IsPartitionPoint-from_clause (λ x. is_before x e) xs i clause (parted e xs up) tells

  pub searched_none : length xs ≤ i → position (same_ends e) xs ≡ None
  searched_none past = none_past e xs i up point_of past

  pub searched_at : i < length xs → (x : ℕ × ℕ) → get_or xs i (0, 0) ≡ x → position (same_ends e) xs ≡ (if same_ends e x then Some i else None)
  searched_at within x at = found_at e xs i up point_of within x at
