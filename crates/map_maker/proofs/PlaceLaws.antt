-- Places in ascending order are told by what is among them.
use Rattle.std.proofs.Common.{◌≡◌, ℕ, ◌+◌, ◌<◌, ◌≤◌, length, eqb, length-append, take, get_or, Bool, true, false, List, [], ◌∷◌, ◌++◌, map, Option, Some, None, inl, inr}
use Rattle.std.proofs.Common.{refl, ap, ap₂, sym, subst, ◌∙◌, arith, append_assoc}
use Rattle.std.specs.Prelude.{◌⊎◌, ◌&&◌, ◌||◌, ◌==◌, slice_get, filter, if◌then◌else◌}
use Rattle.std.specs.List.{list_any, AllByRecursion, dedup}
use Rattle.std.specs.List.Sorted.{IsPermutation, IsSorted, IsStrictlySortedBy}
use Rattle.std.specs.declared.cmp.Ordering.TheVariants.{Less}
use Rattle.std.specs.Ordering.{nat_cmp}
use Rattle.list_law.proofs.Items.{slice_get-there}
use Rattle.std.proofs.lemmas.Bool.{eqb-true, eq-eqb, ne_eqb, cases_lt, cases_eq, or_left}
use Rattle.std.proofs.lemmas.List.Kept.{Contains-dedup_nat, Contains-from_dedup}
use Rattle.std.proofs.lemmas.List.Sorted.{list_any-IsPermutation}
use Rattle.std.proofs.lemmas.Map.Keys.{IsStrictlyIncreasing-dedup, sorted_from_strictly_increasing}
use Rattle.list_law.specs.Members.{IsIn}
use Rattle.list_law.proofs.Members.{Contains-from_IsIn, IsIn-from_Contains, list_any_member, list_any-from_IsIn}
use Rattle.list_law.proofs.Orders.{nat_cmp-Less, nat_cmp-lesser}
use Rattle.list_law.proofs.Truth.{same_tests}
use Rattle.std.proofs.lemmas.List.{take_more, map-append}
use Rattle.net_base.specs.Prefixes.{PlainPattern}
use Rattle.route_maps.specs.declared.maps.ListLine.{ListLine}
use Rattle.route_maps.specs.OfConfig.{line}
use Rattle.map_maker.specs.Keys.{has, key}
use Rattle.map_maker.specs.Earlier.{is_at, entries_from}
use Rattle.map_maker.specs.Places.{at_places}
use Rattle.map_maker.specs.declared.earlier.Entry.{Entry}

-- ---- sorted, and each once

has_in : (xs : List ℕ) (n : ℕ) → has xs n ≡ true → IsIn xs n
has_in xs n h = let m = list_any_member (λ x. x == n) xs h in subst (IsIn xs) (eqb-true m.0 n m.2) m.1

in_has : (xs : List ℕ) (n : ℕ) → IsIn xs n → has xs n ≡ true
in_has xs n h = list_any-from_IsIn (λ x. x == n) xs n h (eq-eqb n n refl)

pub settled_same : (xs ys zs : List ℕ) → IsPermutation xs ys → zs ≡ dedup eqb ys → (n : ℕ) → has zs n ≡ has xs n
settled_same xs ys zs permutation kept n =
    ap (λ ws. has ws n) kept
    ∙ same_tests (has (dedup eqb ys) n) (has ys n)
    (λ h. in_has ys n (IsIn-from_Contains ys n (Contains-from_dedup eqb ys n (Contains-from_IsIn (dedup eqb ys) n (has_in (dedup eqb ys) n h)))))
    (λ h. in_has (dedup eqb ys) n (IsIn-from_Contains (dedup eqb ys) n (Contains-dedup_nat ys n (Contains-from_IsIn ys n (has_in ys n h)))))
    ∙ sym (list_any-IsPermutation (λ x. x == n) xs ys permutation)

pub settled_order : (ys zs : List ℕ) → IsSorted nat_cmp ys → zs ≡ dedup eqb ys → IsStrictlySortedBy nat_cmp zs
settled_order ys zs sorted kept = subst (IsStrictlySortedBy nat_cmp) (sym kept) (sorted_from_strictly_increasing (dedup eqb ys) (IsStrictlyIncreasing-dedup ys sorted))

-- ---- two such lists

-- what isn't above the first isn't among the rest
none_later : (x : ℕ) (xs : List ℕ) → AllByRecursion (λ y. nat_cmp x y ≡ Less) xs → (n : ℕ) → n ≤ x → has xs n ≡ false
none_later x [] all n le = refl
none_later x (y ∷ xs) all n le = rw (ne_eqb y n (λ e. let lt = nat_cmp-Less x y all.0 in omega (arith, e, lt, le))) (none_later x xs all.1 n le)

has-first : (x : ℕ) (xs : List ℕ) → has (x ∷ xs) x ≡ true
has-first x xs = or_left (x == x) (has xs x) (eq-eqb x x refl)

false_not_true : false ≡ true → ⊥
false_not_true e = cc

pub same_members : (xs ys : List ℕ) → IsStrictlySortedBy nat_cmp xs → IsStrictlySortedBy nat_cmp ys → ((n : ℕ) → has xs n ≡ has ys n) → xs ≡ ys
unfolding IsStrictlySortedBy
same_members [] [] sx sy same = refl
same_members [] (y ∷ ys) sx sy same = absurd (false_not_true (same y ∙ has-first y ys))
same_members (x ∷ xs) [] sx sy same = absurd (false_not_true (sym (same x) ∙ has-first x xs))
same_members (x ∷ xs) (y ∷ ys) sx sy same =
    let one : x ≡ y = firsts (cases_lt x y) in
    ap₂ (λ (z : ℕ) (zs : List ℕ). z ∷ zs) one (same_members xs ys sx.1 sy.1 (λ n. rest one n (cases_lt x n)))
  where
    below : x < y → ⊥
    below lt = false_not_true (sym (let apart : (y == x) ≡ false = ne_eqb y x (λ e. omega (arith, e, lt)) in rw apart (none_later y ys sy.0 x (omega (arith, lt)))) ∙ sym (same x) ∙ has-first x xs)

    above : y < x → ⊥
    above lt = false_not_true (sym (let apart : (x == y) ≡ false = ne_eqb x y (λ e. omega (arith, e, lt)) in rw apart (none_later x xs sx.0 y (omega (arith, lt)))) ∙ same y ∙ has-first y ys)

    firsts : (x < y) ⊎ (y ≤ x) → x ≡ y
    firsts (inl lt) = absurd (below lt)
    firsts (inr le) = elim (cases_eq x y) [
      | inl e ↦ e
      | inr ne ↦ absurd (above (omega (arith, le, ne)))
    ]

    rest : x ≡ y → (n : ℕ) → (x < n) ⊎ (n ≤ x) → has xs n ≡ has ys n
    rest one n (inr le) = none_later x xs sx.0 n le ∙ sym (none_later y ys sy.0 n (omega (arith, le, one)))
    rest one n (inl lt) =
        let off : (x == n) ≡ false = ne_eqb x n (λ e. omega (arith, e, lt)) in
        let off_too : (y == n) ≡ false = ne_eqb y n (λ e. omega (arith, e, lt, one)) in
        let h : ((x == n) || has xs n) ≡ ((y == n) || has ys n) = same n in
        rw (off, off_too) at h

-- ---- the places of the patterns that pass a test, from one on

abbrev pub places_from : (PlainPattern → Bool) → ℕ → List PlainPattern → List ℕ
places_from t k [] = []
places_from t k (q ∷ qs) = if t q then k ∷ places_from t (k + 1) qs else places_from t (k + 1) qs

places_after : (t : PlainPattern → Bool) (x k : ℕ) (qs : List PlainPattern) → x < k → AllByRecursion (λ y. nat_cmp x y ≡ Less) (places_from t k qs)
places_after t x k [] lt = tt
places_after t x k (q ∷ qs) lt = by (t q) (places_after t x (k + 1) qs (omega (arith, lt)))
  where
    by : (b : Bool) → AllByRecursion (λ y. nat_cmp x y ≡ Less) (places_from t (k + 1) qs)
        → AllByRecursion (λ y. nat_cmp x y ≡ Less) (if b then k ∷ places_from t (k + 1) qs else places_from t (k + 1) qs)
    by true all = (nat_cmp-lesser x k lt, all)
    by false all = all

pub places_order : (t : PlainPattern → Bool) (k : ℕ) (qs : List PlainPattern) → IsStrictlySortedBy nat_cmp (places_from t k qs)
unfolding IsStrictlySortedBy
places_order t k [] = tt
places_order t k (q ∷ qs) = by (t q) (places_order t (k + 1) qs)
  where
    by : (b : Bool) → IsStrictlySortedBy nat_cmp (places_from t (k + 1) qs) → IsStrictlySortedBy nat_cmp (if b then k ∷ places_from t (k + 1) qs else places_from t (k + 1) qs)
    by true s = (places_after t k (k + 1) qs (omega arith), s)
    by false s = s

-- they are the places of the entries whose keys pass
pub places_has : (t : PlainPattern → Bool) (p : ℕ → Bool) (k : ℕ) (qs : List PlainPattern) → AllByRecursion (λ (q : PlainPattern). p (key q) ≡ t q) qs
    → (j : ℕ) → has (places_from t k qs) j ≡ list_any (λ (e : Entry). p e.key && is_at j e) (entries_from k qs)
places_has t p k [] all j = refl
places_has t p k (q ∷ qs) all j = by (t q) refl (places_has t p (k + 1) qs all.1 j)
  where
    by : (b : Bool) → t q ≡ b → has (places_from t (k + 1) qs) j ≡ list_any (λ (e : Entry). p e.key && is_at j e) (entries_from (k + 1) qs)
        → has (places_from t k (q ∷ qs)) j ≡ list_any (λ (e : Entry). p e.key && is_at j e) (entries_from k (q ∷ qs))
    by true is h = let on : p (key q) ≡ true = all.0 ∙ is in rw (is, on) (ap (λ b. (k == j) || b) h)
    by false is h = let off : p (key q) ≡ false = all.0 ∙ is in rw (is, off) h

-- the patterns there are those that pass
pub at_places_from : (t : PlainPattern → Bool) (front qs : List PlainPattern) (k : ℕ) → length front ≡ k → at_places (front ++ qs) (places_from t k qs) ≡ filter t qs
at_places_from t front [] k e = refl
at_places_from t front (q ∷ qs) k e =
    let long : length (front ++ q ∷ []) ≡ k + 1 = length-append front (q ∷ []) ∙ omega (arith, e) in
    by (t q) refl (ap (λ (ps : List PlainPattern). at_places ps (places_from t (k + 1) qs)) (sym (append_assoc front (q ∷ []) qs)) ∙ at_places_from t (front ++ q ∷ []) qs (k + 1) long)
  where
    there : slice_get (front ++ q ∷ qs) k ≡ Some q
    there = ap (slice_get (front ++ q ∷ qs)) (sym e) ∙ slice_get-there front q qs

    by : (b : Bool) → t q ≡ b → at_places (front ++ q ∷ qs) (places_from t (k + 1) qs) ≡ filter t qs → at_places (front ++ q ∷ qs) (places_from t k (q ∷ qs)) ≡ filter t (q ∷ qs)
    by true is h = rw (is, there) (ap (λ (xs : List PlainPattern). q ∷ xs) h)
    by false is h = rw is h

-- each is the place of a pattern
pub places_within : (t : PlainPattern → Bool) (k : ℕ) (qs : List PlainPattern) (n : ℕ) → k + length qs ≤ n → AllByRecursion (λ j. j < n) (places_from t k qs)
places_within t k [] n le = tt
places_within t k (q ∷ qs) n le = by (t q) (places_within t (k + 1) qs n (omega (arith, le)))
  where
    by : (b : Bool) → AllByRecursion (λ j. j < n) (places_from t (k + 1) qs) → AllByRecursion (λ j. j < n) (if b then k ∷ places_from t (k + 1) qs else places_from t (k + 1) qs)
    by true all = (omega (arith, le), all)
    by false all = all

-- one place more
pub at_places-push : (patterns : List PlainPattern) (js : List ℕ) (j : ℕ) (q : PlainPattern) → slice_get patterns j ≡ Some q → at_places patterns (js ++ j ∷ []) ≡ at_places patterns js ++ q ∷ []
at_places-push patterns [] j q h = rw h refl
at_places-push patterns (i ∷ js) j q h = by (slice_get patterns i) refl (at_places-push patterns js j q h)
  where
    by : (o : Option PlainPattern) → slice_get patterns i ≡ o → at_places patterns (js ++ j ∷ []) ≡ at_places patterns js ++ q ∷ []
        → at_places patterns (i ∷ (js ++ j ∷ [])) ≡ at_places patterns (i ∷ js) ++ q ∷ []
    by None e k = rw e k
    by (Some p) e k = rw e (ap (λ (xs : List PlainPattern). p ∷ xs) k)

-- a `deny` line more
pub line_more : (patterns : List PlainPattern) (js : List ℕ) (i : ℕ) (q : PlainPattern) (old now next : List ListLine) → i < length js → slice_get patterns (get_or js i 0) ≡ Some q
    → now ≡ old ++ map (line false) (at_places patterns (take i js)) → next ≡ now ++ line false q ∷ []
    → next ≡ old ++ map (line false) (at_places patterns (take (i + 1) js))
line_more patterns js i q old now next h there so_far added =
    added
    ∙ ap (λ (ls : List ListLine). ls ++ line false q ∷ []) so_far
    ∙ append_assoc old (map (line false) (at_places patterns (take i js))) (line false q ∷ [])
    ∙ ap (λ (ls : List ListLine). old ++ ls) (sym (map-append (line false) (at_places patterns (take i js)) (q ∷ [])))
    ∙ ap (λ (ps : List PlainPattern). old ++ map (line false) ps) (sym (at_places-push patterns (take i js) (get_or js i 0) q there) ∙ ap (at_places patterns) (sym (take_more js i 0 h)))
