-- Ways that are sorted ascend where no two of them stand at one place, and each of them is the step that it says.
use Rattle.std.proofs.Common.{◌≡◌, ℕ, zero, suc, ◌<◌, Bool, true, false, List, [], ◌∷◌, map, get_or, slice_get, Some, refl, sym, ap, ◌∙◌, subst, arith, inl, inr, eqb-true, eq-eqb}
use Rattle.std.specs.Prelude.{◌==◌, ◌&&◌, option_map}
use Rattle.std.specs.List.{IsDistinct, find}
use Rattle.std.specs.List.Sorted.{IsPermutation, IsSorted}
use Rattle.std.specs.Cmp.{IsTotalOrder}
use Rattle.std.specs.Ordering.{nat_cmp, ordering_then, is_lt}
use Rattle.std.specs.declared.cmp.Ordering.TheVariants.{Equal}
use Rattle.std.proofs.lemmas.Bool.{and_from, and_parts, cases_lt, le-ltb, true≢false}
use Rattle.std.proofs.lemmas.Cmp.{nat_cmp_total, on_total, then_total}
use Rattle.std.proofs.lemmas.List.Sorted.{IsPermutation-map, ranks_by, sorted_far}
use Rattle.std.proofs.lemmas.Map.Keys.{IsDistinct-IsPermutation}
use Rattle.std.proofs.lemmas.Option.{get_or_from_slice_get, same_Some, slice_get_within}
use Rattle.list_law.specs.Members.{IsIn}
use Rattle.list_law.proofs.Keys.{place_by_key}
use Rattle.list_law.proofs.Members.{AllByRecursion-IsIn, AllByRecursion-from_IsIn}
use Rattle.list_law.proofs.Numbers.{eqb_comm}
use Rattle.list_law.proofs.Options.{option_map_parts}
use Rattle.list_law.proofs.Orders.{nat_cmp-lesser}
use Rattle.list_law.proofs.Tests.{find_from, find_parts}
use Rattle.node_classes.specs.declared.way.Way.{Way}
use Rattle.node_classes.specs.Ways.{Ascend, IsAbove, next, same_pair, stand, way_order}

-- ---- sorted ways

way_total : IsTotalOrder way_order
way_total =
    then_total (on_total (λ (w : Way). w.from) nat_cmp_total) (then_total (on_total (λ (w : Way). w.at) nat_cmp_total) (on_total (λ (w : Way). w.to) nat_cmp_total))

nat_cmp-same : (x y : ℕ) → x ≡ y → nat_cmp x y ≡ Equal
nat_cmp-same x y e = rw (le-ltb x y (omega (arith, e)), eq-eqb x y e) refl

-- what isn't less and stands elsewhere stands above
above : (v w : Way) → is_lt (way_order w v) ≡ false → (same_pair (stand v) (stand w) ≡ true → ⊥) → IsAbove v w
above v w up apart = (
  elim (cases_lt w.from v.from) [
    | inl lt ↦ absurd (true≢false (ap (λ o. is_lt (ordering_then o (ordering_then (nat_cmp w.at v.at) (nat_cmp w.to v.to)))) (sym (nat_cmp-lesser w.from v.from lt)) ∙ up))
    | inr le ↦ le
  ],
  λ same. elim (cases_lt v.at w.at) [
    | inl lt ↦ lt
    | inr le ↦ elim (cases_lt w.at v.at) [
      | inl lt ↦
          let first = nat_cmp-same w.from v.from (sym same) in
          let second = nat_cmp-lesser w.at v.at lt in
          absurd (true≢false (ap is_lt (λ i. ordering_then (sym first i) (ordering_then (sym second i) (nat_cmp w.to v.to))) ∙ up))
      | inr also ↦
          let at : v.at ≡ w.at = omega (arith, le, also) in
          absurd (apart (and_from (v.from == w.from) (v.at == w.at) (eq-eqb v.from w.from same) (eq-eqb v.at w.at at)))
    ]
  ],
)

Ascend-from_places : (ways : List Way) → ((i j : ℕ) (v w : Way) → i < j → slice_get ways i ≡ Some v → slice_get ways j ≡ Some w → IsAbove v w) → Ascend ways
Ascend-from_places [] h = tt
Ascend-from_places (x ∷ xs) h = (
  AllByRecursion-from_IsIn (IsAbove x) xs (λ w at. h zero (suc at.0) x w (omega arith) refl at.1),
  Ascend-from_places xs (λ i j v w lt at_i at_j. h (suc i) (suc j) v w (omega (arith, lt)) at_i at_j),
)

pub stands_turned : (a b : ℕ × ℕ) → same_pair a b ≡ same_pair b a
stands_turned a b = λ i. eqb_comm a.0 b.0 i && eqb_comm a.1 b.1 i

pub Ascend-sorted : (xs ys : List Way) → IsDistinct same_pair (map stand xs) → IsPermutation xs ys → IsSorted way_order ys → Ascend ys
Ascend-sorted xs ys apart moved sorted = Ascend-from_places ys pairs
  where
    distinct : IsDistinct same_pair (map stand ys)
    distinct = IsDistinct-IsPermutation same_pair stands_turned (map stand xs) (map stand ys) (IsPermutation-map stand xs ys moved) apart

    pairs : (i j : ℕ) (v w : Way) → i < j → slice_get ys i ≡ Some v → slice_get ys j ≡ Some w → IsAbove v w
    pairs i j v w lt at_i at_j =
        let far = sorted_far (λ x y. is_lt (way_order x y)) (ranks_by way_total (λ (x : Way). x)) ys sorted i j v (omega (arith, lt)) (slice_get_within ys j w at_j) in
        let one : get_or ys i v ≡ v = get_or_from_slice_get ys i v v at_i in
        let other : get_or ys j v ≡ w = get_or_from_slice_get ys j w v at_j in
        above v w (ap is_lt (λ k. way_order (sym other k) (sym one k)) ∙ far)
        (λ same. let place = place_by_key same_pair stand ys i j v w distinct at_i at_j same (stands_turned (stand w) (stand v) ∙ same) in absurd (omega (arith, lt, place)))

-- ---- steps along ways

-- of ways in order those at one stand are one
one_way : (ways : List Way) (v w : Way) → Ascend ways → IsIn ways v → IsIn ways w → v.from ≡ w.from → v.at ≡ w.at → v ≡ w
one_way [] v w up at_v at_w from at = absurd cc
one_way (x ∷ xs) v w up (zero, e) (zero, f) from at = sym (same_Some x v e) ∙ same_Some x w f
one_way (x ∷ xs) v w up (zero, e) (suc j, k) from at =
    let over : IsAbove v w = subst (λ z. IsAbove z w) (same_Some x v e) (AllByRecursion-IsIn (IsAbove x) xs w up.0 (j, k)) in
    let lt : v.at < w.at = over.1 from in
    absurd (omega (arith, lt, at))
one_way (x ∷ xs) v w up (suc i, h) (zero, f) from at =
    let over : IsAbove w v = subst (λ z. IsAbove z v) (same_Some x w f) (AllByRecursion-IsIn (IsAbove x) xs v up.0 (i, h)) in
    let lt : w.at < v.at = over.1 (sym from) in
    absurd (omega (arith, lt, at))
one_way (x ∷ xs) v w up (suc i, h) (suc j, k) from at = one_way xs v w up.1 (i, h) (j, k) from at

abbrev leads : ℕ → ℕ → Way → Bool
leads n l w = w.from == n && w.at == l

pub way_next : (ways : List Way) (n l m : ℕ) → next ways n l ≡ Some m → IsIn ways (record { from = n; at = l; to = m })
way_next ways n l m h =
    let o = option_map_parts (λ (w : Way). w.to) (find (leads n l) ways) m h in
    let f = find_parts (leads n l) ways o.0 o.1 in
    let parts = and_parts (o.0.from == n) (o.0.at == l) f.2 in
    let from = eqb-true o.0.from n parts.0 in
    let at = eqb-true o.0.at l parts.1 in
    let to = o.2 in
    subst (IsIn ways) (λ i. record { from = from i; at = at i; to = to i }) (f.0, f.1)

pub next-way : (ways : List Way) (n l m : ℕ) → Ascend ways → IsIn ways (record { from = n; at = l; to = m }) → next ways n l ≡ Some m
next-way ways n l m up h =
    let w : Way = record { from = n; at = l; to = m } in
    let f = find_from (leads n l) ways h.0 w h.1 (and_from (n == n) (l == l) (eq-eqb n n refl) (eq-eqb l l refl)) in
    let p = find_parts (leads n l) ways f.0 f.1 in
    let parts = and_parts (f.0.from == n) (f.0.at == l) p.2 in
    let same : f.0 ≡ w = one_way ways f.0 w up (p.0, p.1) h (eqb-true f.0.from n parts.0) (eqb-true f.0.at l parts.1) in
    ap (option_map (λ (w : Way). w.to)) f.1 ∙ ap (λ (z : Way). Some z.to) same
