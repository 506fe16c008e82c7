-- Ways in order.
use Rattle.std.proofs.Common.{◌≡◌, ◌⊎◌, ℕ, zero, suc, ◌+◌, ◌-◌, ◌*◌, ◌<◌, ◌≤◌, Bool, true, false, List, [], ◌∷◌, length, get_or, take, drop, filter, slice_get, Option, Some, None, Bor, refl, sym, ap, ap₂, ◌∙◌, subst, arith, inl, inr}
use Rattle.std.specs.Prelude.{◌==◌, ◌&&◌, nat_lt, not, option_map}
use Rattle.std.specs.Fn.{Called, ComputesKey, Mut}
use Rattle.std.specs.List.{All, find}
use Rattle.std.specs.List.Sorted.{IsNonDecreasingBy, IsPartitionPoint, IsStableByKey, ties}
use Rattle.std.specs.Ordering.{is_lt, nat_cmp}
use Rattle.std.proofs.Math.Nat.{mul-le-mul_right, suc-mul}
use Rattle.std.proofs.lemmas.Bool.{cases_eq, cases_lt, eq-eqb, eqb-true, false_from_ne_true, lt-ltb, ltb-false, ltb-true, ne_eqb, true≢false}
use Rattle.std.proofs.lemmas.Fn.{always_returns_same}
use Rattle.std.proofs.lemmas.List.Elements.{All-head, All-tail, filter_agree, filter_passes}
use Rattle.std.proofs.lemmas.List.Kept.{IsNonDecreasingBy-filter}
use Rattle.std.proofs.lemmas.Option.{get_or_from_slice_get, slice_get-get_or, slice_get_within}
use Rattle.list_law.proofs.Items.{slice_get_inside}
use Rattle.list_law.proofs.Options.{option_map_parts}
use Rattle.list_law.proofs.SortedRuns.{points_ordered, run_between}
use Rattle.list_law.proofs.Tests.{find-never}
use Rattle.pair_graph.specs.declared.way.Way.{Way}
use Rattle.pair_graph.specs.Ways.{AreInOrder, AreLow, IsCut, comes_from, from_of, place_of, taken, turn_of}

-- ---- the first that passes

find_first : {A : Type 0} (p : A → Bool) (xs : List A) → find p xs ≡ slice_get (filter p xs) 0
find_first p [] = refl
find_first p (x ∷ xs) = by (p x) refl (find_first p xs)
  where
    by : (b : Bool) → p x ≡ b → find p xs ≡ slice_get (filter p xs) 0 → find p (x ∷ xs) ≡ slice_get (filter p (x ∷ xs)) 0
    by true e rest = rw e refl
    by false e rest = rw e rest

pub find-filter : {A : Type 0} (p q : A → Bool) (xs : List A) → find p (filter q xs) ≡ find (λ x. q x && p x) xs
find-filter p q [] = refl
find-filter p q (x ∷ xs) = by (q x) (p x) refl refl (find-filter p q xs)
  where
    by : (b c : Bool) → q x ≡ b → p x ≡ c → find p (filter q xs) ≡ find (λ y. q y && p y) xs → find p (filter q (x ∷ xs)) ≡ find (λ y. q y && p y) (x ∷ xs)
    by true true e f rest = rw (e, f) refl
    by true false e f rest = rw (e, f) rest
    by false c e f rest = rw e rest

find-alike : {A : Type 0} (P : A → Type 0) (p q : A → Bool) → ((x : A) → P x → p x ≡ q x) → (xs : List A) → All P xs → find p xs ≡ find q xs
find-alike P p q same [] all = refl
find-alike P p q same (x ∷ xs) all = by (q x) refl (same x (All-head P x xs all)) (find-alike P p q same xs (All-tail P x xs all))
  where
    by : (b : Bool) → q x ≡ b → p x ≡ q x → find p xs ≡ find q xs → find p (x ∷ xs) ≡ find q (x ∷ xs)
    by true e here rest = rw (here, e) refl
    by false e here rest = rw (here, e) rest

find_here : {A : Type 0} (p : A → Bool) (xs : List A) (i : ℕ) (x : A) → ((k : ℕ) (d : A) → k < i → p (get_or xs k d) ≡ false) → slice_get xs i ≡ Some x → p x ≡ true → find p xs ≡ Some x
find_here p [] i x before at is = absurd cc
find_here p (y ∷ ys) zero x before at is = let same : y ≡ x = cc in let here : p y ≡ true = ap p same ∙ is in rw here (ap Some same)
find_here p (y ∷ ys) (suc i) x before at is = let off : p y ≡ false = before zero y (omega arith) in rw off (find_here p ys i x (λ k d lt. before (suc k) d (omega (arith, lt))) at is)

find_nowhere : {A : Type 0} (p : A → Bool) (xs : List A) → ((k : ℕ) (d : A) → k < length xs → p (get_or xs k d) ≡ false) → find p xs ≡ None
find_nowhere p [] none = refl
find_nowhere p (y ∷ ys) none = let off : p y ≡ false = none zero y (omega arith) in rw off (find_nowhere p ys (λ k d lt. none (suc k) d (omega (arith, lt))))

-- ---- a stable sort by a number

less_is : (a b : ℕ) → is_lt (nat_cmp a b) ≡ nat_lt a b
less_is a b = by (nat_lt a b) (a == b) refl refl
  where
    by : (x y : Bool) → nat_lt a b ≡ x → (a == b) ≡ y → is_lt (nat_cmp a b) ≡ nat_lt a b
    by true y e f = rw e refl
    by false true e f = rw (e, f) refl
    by false false e f = rw (e, f) refl

neither : (a b : ℕ) → (not (nat_lt a b) && not (nat_lt b a)) ≡ (b == a)
neither a b = by (nat_lt a b) (nat_lt b a) (b == a) refl refl refl
  where
    by : (x y z : Bool) → nat_lt a b ≡ x → nat_lt b a ≡ y → (b == a) ≡ z → (not (nat_lt a b) && not (nat_lt b a)) ≡ (b == a)
    by true y true e f g = absurd (omega (arith, ltb-true a b e, eqb-true b a g))
    by true y false e f g = rw (e, g) refl
    by false true true e f g = absurd (omega (arith, ltb-true b a f, eqb-true b a g))
    by false true false e f g = rw (e, f, g) refl
    by false false true e f g = rw (e, f, g) refl
    by false false false e f g =
        let same : b ≡ a = omega (arith, ltb-false a b e, ltb-false b a f) in
        absurd (true≢false (sym (eq-eqb b a same) ∙ g))

-- the first of those with one number stays the first
pub first_stays : (number : Way → ℕ) {F : Type 0} {g : Mut F (Bor Way × Unit {0}) ℕ} {f : F} (xs ys : List Way)
    → ((key : Way → ℕ) → ComputesKey g key f → IsStableByKey key nat_cmp xs ys)
    → ((a : Bor Way × Unit {0}) (r : ℕ) (f' : F) → Called g f a r f' → (r ≡ number a.0.now) × (f' ≡ f))
    → (some : Way) → find (λ y. number y == number some) ys ≡ find (λ y. number y == number some) xs
first_stays number {g = g} {f = f} xs ys clause tells some =
    let stable = clause number (always_returns_same g (λ a r. r ≡ number a.0.now) f tells) in
    let tie : (y : Way) → ties (λ u v. is_lt (nat_cmp (number u) (number v))) some y ≡ (number y == number some) =
    λ y. ap₂ (λ p q. not p && not q) (less_is (number some) (number y)) (less_is (number y) (number some)) ∙ neither (number some) (number y) in
    let p : Way → Bool = λ y. number y == number some in
    let q : Way → Bool = ties (λ u v. is_lt (nat_cmp (number u) (number v))) some in
    find_first p ys ∙ ap (λ zs. slice_get zs 0) (filter_agree p q (λ y. sym (tie y)) ys ∙ stable some ∙ filter_agree q p tie xs) ∙ sym (find_first p xs)

-- ---- by node and location

same_row : (w a b c d : ℕ) → b < w → a < c → a * w + b < c * w + d
same_row w a b c d lt less =
    let most : suc a * w ≤ c * w = mul-le-mul_right w less in
    let more : suc a * w ≡ a * w + w = suc-mul a w in
    omega (arith, lt, most, more)

-- a place in a row of one width is that of one row and one column
cell_test : (w a b c d : ℕ) → b < w → d < w → (a * w + b == c * w + d) ≡ (a == c && b == d)
cell_test w a b c d lb ld = elim (cases_lt a c) [
  | inl less ↦ (
      let apart = same_row w a b c d lb less in
      ne_eqb (a * w + b) (c * w + d) (λ e. absurd (omega (arith, e, apart))) ∙ sym (ap (λ t. t && b == d) (ne_eqb a c (λ e. absurd (omega (arith, e, less))))))
  | inr ge ↦ elim (cases_lt c a) [
    | inl less ↦ (
        let apart = same_row w c d a b ld less in
        ne_eqb (a * w + b) (c * w + d) (λ e. absurd (omega (arith, e, apart))) ∙ sym (ap (λ t. t && b == d) (ne_eqb a c (λ e. absurd (omega (arith, e, less))))))
    | inr le ↦ (
        let row : a ≡ c = omega (arith, ge, le) in
        subst (λ x. (a * w + b == x * w + d) ≡ (a == x && b == d)) row
        (elim (cases_eq b d) [
          | inl same ↦ eq-eqb (a * w + b) (a * w + d) (ap (λ x. a * w + x) same) ∙ sym (ap (λ t. t && b == d) (eq-eqb a a refl) ∙ eq-eqb b d same)
          | inr other ↦ ne_eqb (a * w + b) (a * w + d) (λ e. other (omega (arith, e))) ∙ sym (ap (λ t. t && b == d) (eq-eqb a a refl) ∙ ne_eqb b d other)
        ]))
  ]
]

-- among ways of 16 bits the first of a node to a location is found by its turn
find_turn : (n l : ℕ) (ways : List Way) → l < 65536 → AreLow ways → find (λ (w : Way). w.place == l) (filter (comes_from n) ways) ≡ find (λ (w : Way). turn_of w == n * 65536 + l) ways
find_turn n l ways lt low =
    find-filter (λ (w : Way). w.place == l) (comes_from n) ways
    ∙ find-alike (λ (w : Way). w.place < 65536) (λ (w : Way). w.from == n && w.place == l) (λ (w : Way). turn_of w == n * 65536 + l)
    (λ w below. sym (cell_test 65536 w.from w.place n l below lt)) ways low

find_high : (n l : ℕ) (ways : List Way) → 65536 ≤ l → AreLow ways → find (λ (w : Way). w.place == l) (filter (comes_from n) ways) ≡ None
find_high n l ways ge low =
    find-filter (λ (w : Way). w.place == l) (comes_from n) ways
    ∙ find-alike (λ (w : Way). w.place < 65536) (λ (w : Way). w.from == n && w.place == l) (λ w. false)
    (λ w below. off (w.from == n) (w.place == l) (ne_eqb w.place l (λ e. omega (arith, e, below, ge)))) ways low
    ∙ find-never (λ w. false) (λ w. refl) ways
  where
    off : (a b : Bool) → b ≡ false → (a && b) ≡ false
    off true b e = e
    off false b e = refl

pub taken_by_turn : (xs ys : List Way) → AreLow xs → AreLow ys → ((some : Way) → find (λ y. turn_of y == turn_of some) ys ≡ find (λ y. turn_of y == turn_of some) xs)
    → (n l : ℕ) → taken (filter (comes_from n) ys) l ≡ taken (filter (comes_from n) xs) l
taken_by_turn xs ys low_x low_y stays n l = ap (option_map (λ (w : Way). w.to)) (elim (cases_lt l 65536) [
  | inl lt ↦ find_turn n l ys lt low_y ∙ stays (record { from = n; place = l; to = 0 }) ∙ sym (find_turn n l xs lt low_x)
  | inr ge ↦ find_high n l ys ge low_y ∙ sym (find_high n l xs ge low_x)
])

-- ways in their turns are in order of the nodes that step
pub order_by_from : (ways : List Way) → IsNonDecreasingBy turn_of ways → AreLow ways → IsNonDecreasingBy from_of ways
order_by_from ways up low i j d le lt =
    let turns = up i j d le lt in
    let below : (get_or ways j d).place < 65536 = low j d lt in
    omega (arith, turns, below)

-- and those of one node in order of location
pub order_by_place : (ways : List Way) (n : ℕ) → IsNonDecreasingBy turn_of ways → AreInOrder (filter (comes_from n) ways)
order_by_place ways n up i j d le lt =
    let mine = filter (comes_from n) ways in
    let turns = IsNonDecreasingBy-filter turn_of (comes_from n) ways up i j d le lt in
    let one : (get_or mine i d).from ≡ n = eqb-true _ n (filter_passes (comes_from n) ways i d (omega (arith, le, lt))) in
    let other : (get_or mine j d).from ≡ n = eqb-true _ n (filter_passes (comes_from n) ways j d lt) in
    let same : (get_or mine i d).from * 65536 ≡ (get_or mine j d).from * 65536 = ap (λ k. k * 65536) (one ∙ sym other) in
    omega (arith, turns, same)

-- ---- cuts

pub cut_made : {A : Type 0} (number : A → ℕ) (xs : List A) (b i : ℕ) → IsNonDecreasingBy number xs → i ≤ length xs → ((k : ℕ) (d : A) → k < i → number (get_or xs k d) < b)
    → ((d : A) → i < length xs → b ≤ number (get_or xs i d)) → IsCut number xs b i
cut_made number xs b i up within before next = record {
  within = within;
  before = before;
  behind = λ k d le lt. (let here = next d (omega (arith, le, lt)) in let more = up i k d le lt in omega (arith, here, more));
}

pub cut_none : {A : Type 0} (number : A → ℕ) (xs : List A) → IsCut number xs 0 0
cut_none number xs = record { within = omega arith; before = λ k d lt. absurd (omega (arith, lt)); behind = λ k d le lt. omega arith }

pub cut_over : {A : Type 0} (number : A → ℕ) (xs : List A) (b c i : ℕ) → IsNonDecreasingBy number xs → IsCut number xs b i → b ≤ c → ((d : A) → i < length xs → c ≤ number (get_or xs i d)) → IsCut number xs c i
cut_over number xs b c i up cut le next = cut_made number xs c i up cut.within (λ k d lt. (let low = cut.before k d lt in omega (arith, low, le))) next

-- ---- the ways of a node

module _ (n : ℕ) (ws : List Way) (i j : ℕ) (start : IsCut from_of ws n i) (end : IsCut from_of ws (n + 1) j) where
  abbrev q : Way → Bool
  q w = nat_lt w.from n

  abbrev r : Way → Bool
  r w = nat_lt w.from (n + 1)

  more : (w : Way) → q w ≡ true → r w ≡ true
  more w h = lt-ltb w.from (n + 1) (omega (arith, ltb-true w.from n h))

  early : (w : Way) → q w ≡ true → comes_from n w ≡ false
  early w h = false_from_ne_true _ (λ g. omega (arith, ltb-true w.from n h, eqb-true w.from n g))

  late : (w : Way) → r w ≡ false → comes_from n w ≡ false
  late w h = false_from_ne_true _ (λ g. omega (arith, ltb-false w.from (n + 1) h, eqb-true w.from n g))

  inside : (w : Way) → q w ≡ false → r w ≡ true → comes_from n w ≡ true
  inside w h u = eq-eqb w.from n (omega (arith, ltb-false w.from n h, ltb-true w.from (n + 1) u))

  point : (b k : ℕ) → IsCut from_of ws b k → IsPartitionPoint (λ (w : Way). nat_lt w.from b ≡ true) (λ (w : Way). nat_lt w.from b ≡ false) ws k
  point b k cut = (λ m d le lt. lt-ltb _ b (cut.before m d lt), λ m d le lt. false_from_ne_true _ (λ h. omega (arith, ltb-true _ b h, cut.behind m d le lt)))

  pub run_ordered : i ≤ j
  run_ordered = points_ordered q r (comes_from n) more early late inside ws i j start.within (point n i start) (point (n + 1) j end) (record { from = 0; place = 0; to = 0 })

  pub run_is : take (j - i) (drop i ws) ≡ filter (comes_from n) ws
  run_is = run_between q r (comes_from n) more early late inside ws i j start.within (point n i start) (point (n + 1) j end) run_ordered

-- ---- what is taken at a cut

pub taken_here : (ws : List Way) (p i : ℕ) (w : Way) → IsCut place_of ws p i → slice_get ws i ≡ Some w → w.place ≡ p → taken ws p ≡ Some w.to
taken_here ws p i w cut at is = ap (option_map (λ (v : Way). v.to)) (find_here (λ (v : Way). v.place == p) ws i w
    (λ k d lt. false_from_ne_true _ (λ h. omega (arith, cut.before k d lt, eqb-true _ p h))) at (eq-eqb w.place p is))

pub taken_not : (ws : List Way) (b c i l : ℕ) → IsCut place_of ws b i → IsCut place_of ws c i → b ≤ l → l < c → taken ws l ≡ None
taken_not ws b c i l low high le lt = ap (option_map (λ (v : Way). v.to)) (find_nowhere (λ (v : Way). v.place == l) ws (λ k d within. elim (cases_lt k i) [
  | inl less ↦ false_from_ne_true _ (λ h. omega (arith, low.before k d less, eqb-true _ l h, le))
  | inr ge ↦ false_from_ne_true _ (λ h. omega (arith, high.behind k d ge within, eqb-true _ l h, lt))
]))

-- what is taken is behind no cut at the end
pub taken_below : (ws : List Way) (b i l m : ℕ) → IsCut place_of ws b i → length ws ≤ i → taken ws l ≡ Some m → l < b
taken_below ws b i l m cut all is = elim (cases_lt l b) [
  | inl lt ↦ lt
  | inr ge ↦ absurd (
      let none : taken ws l ≡ None = ap (option_map (λ (v : Way). v.to)) (find_nowhere (λ (v : Way). v.place == l) ws
      (λ k d within. false_from_ne_true _ (λ h. omega (arith, cut.before k d (omega (arith, within, all)), eqb-true _ l h, ge)))) in
      let both : Some m ≡ None = sym is ∙ none in cc)
]

-- ---- heads

-- all before the location of the way ahead are before it
cut_ahead : (ws : List Way) (b p i : ℕ) (o : Option ℕ) → AreInOrder ws → IsCut place_of ws b i → o ≡ option_map place_of (slice_get ws i) → b ≤ p → ((q : ℕ) → o ≡ Some q → p ≤ q) → IsCut place_of ws p i
cut_ahead ws b p i o up cut is le low =
    cut_over place_of ws b p i up cut le (λ d lt. low (place_of (get_or ws i d)) (is ∙ ap (option_map place_of) (slice_get-get_or ws i d lt)))

head_from : (ws : List Way) (b p i : ℕ) (o : Option ℕ) → IsCut place_of ws b i → o ≡ option_map place_of (slice_get ws i) → o ≡ Some p → b ≤ p
head_from ws b p i o cut is some =
    let parts = option_map_parts place_of (slice_get ws i) p (sym is ∙ some) in
    let low = cut.behind i parts.0 (omega arith) (slice_get_within ws i parts.0 parts.1) in
    let item : place_of (get_or ws i parts.0) ≡ p = ap place_of (get_or_from_slice_get ws i parts.0 parts.0 parts.1) ∙ parts.2 in
    omega (arith, low, item)

pub head_none : (ws : List Way) (i : ℕ) → option_map place_of (slice_get ws i) ≡ None → length ws ≤ i
head_none ws i is = elim (cases_lt i (length ws)) [
  | inl lt ↦ absurd (let item = slice_get_inside ws i lt in let some : Some (place_of item.0) ≡ None = ap (option_map place_of) (sym item.1) ∙ is in cc)
  | inr ge ↦ ge
]

-- ---- two lists side by side

-- of the locations of two ways ahead p is the lesser: all before it are behind
pub heads : (first second : List Way) (b i j p : ℕ) (one other : Option ℕ) → AreInOrder first → AreInOrder second → IsCut place_of first b i → IsCut place_of second b j
    → one ≡ option_map place_of (slice_get first i) → other ≡ option_map place_of (slice_get second j) → (one ≡ Some p) ⊎ (other ≡ Some p)
    → ((q : ℕ) → one ≡ Some q → p ≤ q) → ((q : ℕ) → other ≡ Some q → p ≤ q) → (b ≤ p) × IsCut place_of first p i × IsCut place_of second p j
heads first second b i j p one other up_first up_second cut_first cut_second is_one is_other either low_one low_other =
    let le : b ≤ p = elim either [
      | inl is ↦ head_from first b p i one cut_first is_one is
      | inr is ↦ head_from second b p j other cut_second is_other is
    ] in
    (le, cut_ahead first b p i one up_first cut_first is_one le low_one, cut_ahead second b p j other up_second cut_second is_other le low_other)
