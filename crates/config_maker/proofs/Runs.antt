-- In a list in order what stands at one place is a run.
use Rattle.std.proofs.Common.{◌≡◌, ℕ, ◌+◌, ◌-◌, ◌<◌, ◌≤◌, Bool, true, false, List, length, take, drop, get_or, ap, subst, sym, ◌∙◌, arith, inl, inr}
use Rattle.std.specs.Prelude.{◌⊎◌, ◌==◌, nat_lt, nat_le, filter}
use Rattle.std.specs.List.{prefix_len}
use Rattle.std.specs.List.Sorted.{IsStrictlySortedBy, IsPartitionedBy, IsPartitionPoint}
use Rattle.std.specs.Ordering.{nat_cmp}
use Rattle.std.specs.declared.cmp.Ordering.TheVariants.{Less}
use Rattle.std.proofs.lemmas.Bool.{cases_lt, and_parts, and_from, or_cases, or_left, or_right, ltb-true, ltb-false, leb-true, leb-false, lt-ltb, le-leb, eqb-true, eq-eqb}
use Rattle.std.proofs.lemmas.Bool.{true≢false, false_from_ne_true}
use Rattle.std.proofs.lemmas.List.{get_or-drop, length-drop}
use Rattle.std.proofs.lemmas.List.Sums.{prefix_len_passes, prefix_len_stops}
use Rattle.list_law.proofs.SortedRuns.{IsPartitionedBy-from_sorted, points_ordered, run_between}
use Rattle.list_law.proofs.Orders.{nat_cmp-Equal, nat_cmp-Less, ordering_then-Less}
use Rattle.config_maker.specs.declared.hop.Hop.{Hop}
use Rattle.config_maker.specs.declared.hop.Announced.{Announced}
use Rattle.config_maker.specs.Hops.{hop_order, announced_order, goes, stands, is_before, is_upto}

-- ---- what stands before in the order

-- the ends of a hop that stands before another
pub ends_up : (a b : Hop) → hop_order a b ≡ Less → (a.from < b.from) ⊎ ((a.from ≡ b.from) × (a.to ≤ b.to))
ends_up a b h = elim (ordering_then-Less (nat_cmp a.from b.from) _ h) [
  | inl t ↦ inl (nat_cmp-Less _ _ t)
  | inr t ↦ elim (ordering_then-Less (nat_cmp a.to b.to) _ t.1) [
    | inl u ↦ inr (nat_cmp-Equal _ _ t.0, let below : a.to < b.to = nat_cmp-Less a.to b.to u in omega (arith, below))
    | inr u ↦ inr (nat_cmp-Equal _ _ t.0, let same : a.to ≡ b.to = nat_cmp-Equal a.to b.to u.0 in omega (arith, same))
  ]
]

pub before-by : (from to : ℕ) (h : Hop) → is_before from to h ≡ true → (h.from < from) ⊎ ((h.from ≡ from) × (h.to < to))
before-by from to h e = elim (or_cases (nat_lt h.from from) _ e) [
  | inl t ↦ inl (ltb-true _ _ t)
  | inr t ↦ let parts = and_parts (h.from == from) (nat_lt h.to to) t in inr (eqb-true _ _ parts.0, ltb-true _ _ parts.1)
]

pub before-from : (from to : ℕ) (h : Hop) → (h.from < from) ⊎ ((h.from ≡ from) × (h.to < to)) → is_before from to h ≡ true
before-from from to h e = elim e [
  | inl t ↦ or_left _ _ (lt-ltb _ _ t)
  | inr t ↦ or_right _ _ (and_from _ _ (eq-eqb _ _ t.0) (lt-ltb _ _ t.1))
]

upto-by : (from to : ℕ) (h : Hop) → is_upto from to h ≡ true → (h.from < from) ⊎ ((h.from ≡ from) × (h.to ≤ to))
upto-by from to h e = elim (or_cases (nat_lt h.from from) _ e) [
  | inl t ↦ inl (ltb-true _ _ t)
  | inr t ↦ let parts = and_parts (h.from == from) (nat_le h.to to) t in inr (eqb-true _ _ parts.0, leb-true _ _ parts.1)
]

upto-from : (from to : ℕ) (h : Hop) → (h.from < from) ⊎ ((h.from ≡ from) × (h.to ≤ to)) → is_upto from to h ≡ true
upto-from from to h e = elim e [
  | inl t ↦ or_left _ _ (lt-ltb _ _ t)
  | inr t ↦ or_right _ _ (and_from _ _ (eq-eqb _ _ t.0) (le-leb _ _ t.1))
]

pub before_down : (from to : ℕ) (a b : Hop) → hop_order a b ≡ Less → is_before from to b ≡ true → is_before from to a ≡ true
before_down from to a b up h = before-from from to a (elim (ends_up a b up) [
  | inl t ↦ elim (before-by from to b h) [ inl u ↦ inl (omega (arith, t, u)) | inr u ↦ inl (omega (arith, t, u.0)) ]
  | inr t ↦ elim (before-by from to b h) [ inl u ↦ inl (omega (arith, t.0, u)) | inr u ↦ inr (omega (arith, t.0, u.0), omega (arith, t.1, u.1)) ]
])

pub upto_down : (from to : ℕ) (a b : Hop) → hop_order a b ≡ Less → is_upto from to b ≡ true → is_upto from to a ≡ true
upto_down from to a b up h = upto-from from to a (elim (ends_up a b up) [
  | inl t ↦ elim (upto-by from to b h) [ inl u ↦ inl (omega (arith, t, u)) | inr u ↦ inl (omega (arith, t, u.0)) ]
  | inr t ↦ elim (upto-by from to b h) [ inl u ↦ inl (omega (arith, t.0, u)) | inr u ↦ inr (omega (arith, t.0, u.0), omega (arith, t.1, u.1)) ]
])

pub goes_parts : (from to : ℕ) (h : Hop) → goes from to h ≡ true → (h.from ≡ from) × (h.to ≡ to)
goes_parts from to h e = let parts = and_parts (h.from == from) (h.to == to) e in (eqb-true _ _ parts.0, eqb-true _ _ parts.1)

module _ (from to : ℕ) (hops : List Hop) (sorted : IsStrictlySortedBy hop_order hops) where
  pub before_parts : IsPartitionedBy (is_before from to) hops
  before_parts = IsPartitionedBy-from_sorted hop_order (is_before from to) (before_down from to) hops sorted

  pub upto_parts : IsPartitionedBy (is_upto from to) hops
  upto_parts = IsPartitionedBy-from_sorted hop_order (is_upto from to) (upto_down from to) hops sorted

more_hops : (from to : ℕ) (h : Hop) → is_before from to h ≡ true → is_upto from to h ≡ true
more_hops from to h e = upto-from from to h (elim (before-by from to h e) [ inl t ↦ inl t | inr t ↦ inr (t.0, omega (arith, t.1)) ])

early_hop : (from to : ℕ) (h : Hop) → is_before from to h ≡ true → goes from to h ≡ false
early_hop from to h e = false_from_ne_true _ (λ g. let parts = goes_parts from to h g in
    elim (before-by from to h e) [ inl t ↦ omega (arith, t, parts.0) | inr t ↦ omega (arith, t.1, parts.1) ])

late_hop : (from to : ℕ) (h : Hop) → is_upto from to h ≡ false → goes from to h ≡ false
late_hop from to h e = false_from_ne_true _ (λ g. let parts = goes_parts from to h g in true≢false (sym (upto-from from to h (inr (parts.0, omega (arith, parts.1)))) ∙ e))

within_hop : (from to : ℕ) (h : Hop) → is_before from to h ≡ false → is_upto from to h ≡ true → goes from to h ≡ true
within_hop from to h e u = elim (upto-by from to h u) [
  | inl t ↦ absurd (true≢false (sym (before-from from to h (inl t)) ∙ e))
  | inr t ↦
      let at : h.to ≡ to = elim (cases_lt h.to to) [ inl v ↦ absurd (true≢false (sym (before-from from to h (inr (t.0, v))) ∙ e)) | inr v ↦ omega (arith, t.1, v) ] in
      and_from _ _ (eq-eqb _ _ t.0) (eq-eqb _ _ at)
]

module _ (from to : ℕ) (hops : List Hop) (i j : ℕ) (short : i ≤ length hops) (start : IsPartitionPoint (λ x. is_before from to x ≡ true) (λ x. is_before from to x ≡ false) hops i)
    (end : IsPartitionPoint (λ x. is_upto from to x ≡ true) (λ x. is_upto from to x ≡ false) hops j) where
  none : Hop
  none = record { from = 0; to = 0; class = 0; tag = record { asn = 0; value = 0 }; set = record { asn = 0; value = 0 }; pref = 0 }

  pub hops_ordered : i ≤ j
  hops_ordered = points_ordered (is_before from to) (is_upto from to) (goes from to) (more_hops from to) (early_hop from to) (late_hop from to) (within_hop from to) hops i j short start end none

  pub hops_run : take (j - i) (drop i hops) ≡ filter (goes from to) hops
  hops_run = run_between (is_before from to) (is_upto from to) (goes from to) (more_hops from to) (early_hop from to) (late_hop from to) (within_hop from to) hops i j short start end hops_ordered

-- where the hops at the front of the rest come to an end
module _ (from to : ℕ) (hops : List Hop) (i : ℕ) (short : i ≤ length hops) (start : IsPartitionPoint (λ x. is_before from to x ≡ true) (λ x. is_before from to x ≡ false) hops i) where
  abbrev pub run : ℕ
  run = prefix_len (goes from to) (drop i hops)

  in_run : (k : ℕ) (d : Hop) → i ≤ k → k < i + run → is_upto from to (get_or hops k d) ≡ true
  in_run k d le l =
      let at : goes from to (get_or (drop i hops) (k - i) d) ≡ true = prefix_len_passes (goes from to) (drop i hops) (k - i) d (omega (arith, le, l)) in
      let here : get_or (drop i hops) (k - i) d ≡ get_or hops k d = get_or-drop i hops (k - i) d ∙ ap (λ n. get_or hops n d) (omega (arith, le)) in
      let ends = goes_parts from to (get_or hops k d) (subst (λ h. goes from to h ≡ true) here at) in
      upto-from from to (get_or hops k d) (inr (ends.0, omega (arith, ends.1)))

  at_end : (d : Hop) → i + run < length hops → is_upto from to (get_or hops (i + run) d) ≡ false
  at_end d l =
      let off : goes from to (get_or (drop i hops) run d) ≡ false = prefix_len_stops (goes from to) (drop i hops) d (omega (arith, l, length-drop i hops)) in
      let here : goes from to (get_or hops (i + run) d) ≡ false = subst (λ h. goes from to h ≡ false) (get_or-drop i hops run d) off in
      false_from_ne_true _ (λ u. true≢false (sym (within_hop from to (get_or hops (i + run) d) (start.1 (i + run) d (omega arith) l) u) ∙ here))

  pub run_ends : IsPartitionedBy (is_upto from to) hops → IsPartitionPoint (λ x. is_upto from to x ≡ true) (λ x. is_upto from to x ≡ false) hops (i + run)
  run_ends parts = (
    λ k d le l. elim (cases_lt k i) [ inl t ↦ more_hops from to (get_or hops k d) (start.0 k d le t) | inr t ↦ in_run k d t l ],
    λ k d le l. false_from_ne_true _ (λ u. true≢false (sym (parts (i + run) k d le l u) ∙ at_end d (omega (arith, le, l)))),
  )

-- ---- the same for what is announced

at_up : (a b : Announced) → announced_order a b ≡ Less → a.at ≤ b.at
at_up a b h = elim (ordering_then-Less (nat_cmp a.at b.at) _ h) [
  | inl t ↦ let below : a.at < b.at = nat_cmp-Less a.at b.at t in omega (arith, below)
  | inr t ↦ let same : a.at ≡ b.at = nat_cmp-Equal a.at b.at t.0 in omega (arith, same)
]

abbrev pub below_place : ℕ → Announced → Bool
below_place at a = nat_lt a.at at

abbrev pub upto_place : ℕ → Announced → Bool
upto_place at a = nat_le a.at at

module _ (at : ℕ) (all : List Announced) (sorted : IsStrictlySortedBy announced_order all) where
  pub below_parts : IsPartitionedBy (below_place at) all
  below_parts = IsPartitionedBy-from_sorted announced_order (below_place at) (λ a b up h. lt-ltb a.at at (omega (arith, at_up a b up, ltb-true b.at at h))) all sorted

  pub upto_place_parts : IsPartitionedBy (upto_place at) all
  upto_place_parts = IsPartitionedBy-from_sorted announced_order (upto_place at) (λ a b up h. le-leb a.at at (omega (arith, at_up a b up, leb-true b.at at h))) all sorted

more_places : (at : ℕ) (a : Announced) → below_place at a ≡ true → upto_place at a ≡ true
more_places at a h = le-leb a.at at (omega (arith, ltb-true a.at at h))

early_place : (at : ℕ) (a : Announced) → below_place at a ≡ true → stands at a ≡ false
early_place at a h = false_from_ne_true _ (λ g. omega (arith, ltb-true a.at at h, eqb-true a.at at g))

late_place : (at : ℕ) (a : Announced) → upto_place at a ≡ false → stands at a ≡ false
late_place at a h = false_from_ne_true _ (λ g. omega (arith, leb-false a.at at h, eqb-true a.at at g))

within_place : (at : ℕ) (a : Announced) → below_place at a ≡ false → upto_place at a ≡ true → stands at a ≡ true
within_place at a h u = eq-eqb a.at at (omega (arith, ltb-false a.at at h, leb-true a.at at u))

module _ (at : ℕ) (all : List Announced) (i j : ℕ) (short : i ≤ length all) (start : IsPartitionPoint (λ x. below_place at x ≡ true) (λ x. below_place at x ≡ false) all i)
    (end : IsPartitionPoint (λ x. upto_place at x ≡ true) (λ x. upto_place at x ≡ false) all j) where
  nothing : Announced
  nothing = record { at = 0; class = 0; prefix = record { bits = 0; len = 0 }; tag = record { asn = 0; value = 0 } }

  pub places_ordered : i ≤ j
  places_ordered = points_ordered (below_place at) (upto_place at) (stands at) (more_places at) (early_place at) (late_place at) (within_place at) all i j short start end nothing

  pub places_run : take (j - i) (drop i all) ≡ filter (stands at) all
  places_run = run_between (below_place at) (upto_place at) (stands at) (more_places at) (early_place at) (late_place at) (within_place at) all i j short start end places_ordered
