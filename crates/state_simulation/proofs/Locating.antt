-- Nodes and their locations.
use Rattle.std.proofs.Common.{◌≡◌, ℕ, zero, suc, ◌+◌, ◌<◌, ◌≤◌, Bool, true, false, ◌&&◌, ◌||◌, ltb, eqb, List, [], ◌∷◌, ◌++◌, length, get_or, arith, refl, sym, ap, ◌∙◌, inl, inr, ◌⊎◌, Option}
use Rattle.std.proofs.lemmas.Bool.{cases_order, and_from, and_parts, or_left, or_right, ltb-true, eq-eqb, eqb-true, ne_eqb, lt-ltb, le-ltb}
use Rattle.std.proofs.lemmas.List.{get_or_read}
use Rattle.std.proofs.lemmas.List.Folds.{list_any-append, list_any_at}
use Rattle.reach_prune.specs.Searches.{is_among, is_listed}
use Rattle.relation_law.specs.Rounds.{is_in}
use Rattle.std.proofs.Math.Bool.{and_comm, or-false, and-true, and-false}
use Rattle.list_law.proofs.Numbers.{eqb_comm, next_below}
use Rattle.std.proofs.lemmas.List.Sorted.{list_any-IsPermutation}
use Rattle.std.specs.List.Sorted.{IsPermutation}
use Rattle.graph_base.specs.Graphs.{PlainGraph}
use Rattle.state_simulation.specs.Looked.{IsOrder, is_keyed}

-- one node more below a count
pub below_more : (place : ℕ → ℕ) (i count more : ℕ) → ((n : ℕ) → n < i → place n < count) → count ≤ more → place i < more → (n : ℕ) → n < i + 1 → place n < more
below_more place i count more before le here n lt = elim (cases_order n i) [
  | inl e ↦ ap_lt (ap place e) here
  | inr o ↦ elim o [
    | inl less ↦ (let h = before n less in omega arith)
    | inr over ↦ absurd (omega arith)
  ]
]
  where
    ap_lt : {a b c : ℕ} → a ≡ b → b < c → a < c
    ap_lt e h = rw e h

-- one node more is listed with its location
pub placed_more : (place : ℕ → ℕ) (pairs new : List (ℕ × ℕ)) (i at p n : ℕ) → new ≡ pairs ++ (at, i) ∷ [] → at ≡ place i
    → is_in pairs p n ≡ (ltb n i && eqb (place n) p) → is_in new p n ≡ (ltb n (i + 1) && eqb (place n) p)
placed_more place pairs new i at p n e is h =
    ap (λ l. is_in l p n) e ∙ list_any-append (λ (s : ℕ × ℕ). eqb s.0 p && eqb s.1 n) pairs ((at, i) ∷ []) ∙ ap (λ z. z || ((eqb at p && eqb i n) || false)) h
    ∙ ap (λ z. (ltb n i && eqb (place n) p) || z) (or-false (eqb at p && eqb i n)) ∙ ap (λ z. (ltb n i && eqb (place n) p) || (eqb z p && eqb i n)) is
    ∙ one_more (cases_order n i)
  where
    left : (b : Bool) → (b || (b && false)) ≡ b
    left true = refl
    left false = refl

    one_more : (n ≡ i) ⊎ ((n < i) ⊎ (i < n)) → ((ltb n i && eqb (place n) p) || (eqb (place i) p && eqb i n)) ≡ (ltb n (i + 1) && eqb (place n) p)
    one_more (inl e) = (
        let a : ltb n i ≡ false = le-ltb _ _ (omega arith) in
        let b : eqb i n ≡ true = eq-eqb _ _ (sym e) in
        let c : ltb n (i + 1) ≡ true = lt-ltb _ _ (omega arith) in
        let d : eqb (place i) p ≡ eqb (place n) p = ap (λ z. eqb (place z) p) (sym e) in
        rw (a, b, c, d) (and-true (eqb (place n) p)))
    one_more (inr (inl less)) = (
        let a : ltb n i ≡ true = lt-ltb _ _ less in
        let b : eqb i n ≡ false = ne_eqb _ _ (λ e. omega arith) in
        let c : ltb n (i + 1) ≡ true = lt-ltb _ _ (omega arith) in
        rw (a, b, c) (ap (λ z. eqb (place n) p || z) (and-false (eqb (place i) p)) ∙ or-false (eqb (place n) p)))
    one_more (inr (inr more)) = (
        let a : ltb n i ≡ false = le-ltb _ _ (omega arith) in
        let b : eqb i n ≡ false = ne_eqb _ _ (λ e. omega arith) in
        let c : ltb n (i + 1) ≡ false = le-ltb _ _ (omega arith) in
        rw (a, b, c) (and-false (eqb (place i) p)))

listed_at : (xs : List (ℕ × ℕ)) (k : ℕ) (d : ℕ × ℕ) → k < length xs → is_in xs (get_or xs k d).0 (get_or xs k d).1 ≡ true
listed_at [] k d h = absurd (omega arith)
listed_at (x ∷ xs) zero d h = or_left _ _ (and_from _ _ (eq-eqb x.0 x.0 refl) (eq-eqb x.1 x.1 refl))
listed_at (x ∷ xs) (suc k) d h = or_right _ _ (listed_at xs k d (omega arith))

-- each node's location is one of the groups
pub located_groups : (place : ℕ → ℕ) (size count : ℕ) (placed pairs : List (ℕ × ℕ)) → pairs ≡ placed
    → ((p n : ℕ) → is_in placed p n ≡ (ltb n size && eqb (place n) p)) → ((n : ℕ) → n < size → place n < count) →
    (k : ℕ) (d : ℕ × ℕ) → k < length pairs → (get_or pairs k d).0 < count
located_groups place size count placed pairs e is below k d lt =
    let p : ℕ × ℕ = get_or pairs k d in
    let both = and_parts (ltb p.1 size) (eqb (place p.1) p.0) (sym (is p.0 p.1) ∙ ap (λ l. is_in l p.0 p.1) (sym e) ∙ listed_at pairs k d lt) in
    rw (← eqb-true _ _ both.1) (below p.1 (ltb-true _ _ both.0))

-- each member of a list is one of those that it lists
pub member_below : (lists : List (List ℕ)) (a size : ℕ) (slice items : List ℕ) (k d : ℕ) → a < length lists → slice ≡ items
    → items ≡ get_or lists a items → ((n : ℕ) → is_listed lists a n ≡ true → n < size) →
    k < length slice → get_or slice k d < size
member_below lists a size slice items k d la e read below lt =
    let same : slice ≡ get_or lists a [] = e ∙ get_or_read lists a items la read [] in
    below (get_or slice k d) (ap (λ l. is_among l (get_or slice k d)) (sym same) ∙ list_any_at (λ x. eqb x (get_or slice k d)) slice k d lt (eq-eqb _ _ refl))

-- ---- nodes in order

-- one node more is keyed
pub keyed_more : (keyed new : List (ℕ × Option ℕ × ℕ)) (at : ℕ) (rank : Option ℕ) (i n : ℕ) → new ≡ keyed ++ (at, rank, i) ∷ [] → is_keyed keyed n ≡ ltb n i → is_keyed new n ≡ ltb n (i + 1)
keyed_more keyed new at rank i n e h =
    ap (λ l. is_keyed l n) e ∙ list_any-append (λ (x : ℕ × Option ℕ × ℕ). eqb x.2 n) keyed ((at, rank, i) ∷ []) ∙ ap (λ z. z || (eqb i n || false)) h
    ∙ ap (λ z. ltb n i || z) (or-false (eqb i n)) ∙ one_more (cases_order n i)
  where
    one_more : (n ≡ i) ⊎ ((n < i) ⊎ (i < n)) → (ltb n i || eqb i n) ≡ ltb n (i + 1)
    one_more (inl e) = or_right _ _ (eq-eqb _ _ (sym e)) ∙ sym (lt-ltb _ _ (omega arith))
    one_more (inr (inl less)) = or_left _ _ (lt-ltb _ _ less) ∙ sym (lt-ltb _ _ (omega arith))
    one_more (inr (inr more)) = ap (λ z. z || eqb i n) (le-ltb _ _ (omega arith)) ∙ ne_eqb _ _ (λ e. omega (arith, e, more)) ∙ sym (le-ltb _ _ (omega arith))

-- nodes that are listed as they are keyed are each there, and no others are
pub in_order : (g : PlainGraph) (keyed sorted : List (ℕ × Option ℕ × ℕ)) (order : List ℕ) → IsPermutation keyed sorted
    → ((n : ℕ) → is_keyed keyed n ≡ ltb n (length g.nodes)) → ((n : ℕ) → is_among order n ≡ is_keyed sorted n) → IsOrder g order
in_order g keyed sorted order perm are listed =
    let is : (n : ℕ) → is_among order n ≡ ltb n (length g.nodes) = λ n. listed n ∙ sym (list_any-IsPermutation (λ (x : ℕ × Option ℕ × ℕ). eqb x.2 n) keyed sorted perm) ∙ are n in
    record {
      within = λ k d lt. ltb-true _ _ (sym (is (get_or order k d)) ∙ list_any_at (λ x. eqb x (get_or order k d)) order k d lt (eq-eqb _ _ refl));
      each = λ n lt. is n ∙ lt-ltb _ _ lt;
    }

-- one node more has its bit in the row of its location
pub row_more : (place : ℕ → ℕ) (i p n : ℕ) (old new : Bool) → old ≡ (ltb n i && eqb (place n) p) → new ≡ (old || (eqb p (place i) && eqb n i)) → new ≡ (ltb n (i + 1) && eqb (place n) p)
row_more place i p n old new before here =
    here ∙ ap (λ z. z || (eqb p (place i) && eqb n i)) before
    ∙ ap (λ z. (ltb n i && eqb (place n) p) || z) (and_comm (eqb p (place i)) (eqb n i) ∙ ap (λ z. eqb n i && z) (eqb_comm p (place i)))
    ∙ next_below n i (λ y. eqb (place y) p)
