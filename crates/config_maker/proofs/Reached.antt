-- Places up to which the hops stand before those from one location to another.
use Rattle.std.proofs.Common.{◌≡◌, ℕ, ◌+◌, ◌-◌, ◌<◌, ◌≤◌, true, false, List, [], ◌∷◌, ◌++◌, length, length-append, drop, get_or, Some, zero, suc, ap, subst, sym, ◌∙◌, arith, inl, inr}
use Rattle.std.specs.Prelude.{slice_get, slice_set, nat_lt}
use Rattle.std.specs.List.{prefix_len}
use Rattle.std.specs.List.Sorted.{IsStrictlySortedBy, IsPartitionedBy, IsPartitionPoint}
use Rattle.std.proofs.lemmas.Bool.{cases_lt, cases_eq, ltb-true, lt-ltb, true≢false, false_from_ne_true}
use Rattle.std.proofs.lemmas.List.{get_or-drop, get_or_push, length-drop}
use Rattle.std.proofs.lemmas.List.Sums.{prefix_len_passes, prefix_len_stops}
use Rattle.std.proofs.lemmas.Option.{slice_get-get_or, get_or_from_slice_get, slice_get_within}
use Rattle.list_law.proofs.Items.{slice_get-append_left}
use Rattle.list_law.proofs.SortedRuns.{IsPartitionedBy-from_sorted}
use Rattle.config_maker.specs.declared.hop.Hop.{Hop}
use Rattle.config_maker.specs.Hops.{hop_order, is_before, IsReached, AreReached}
use Rattle.config_maker.proofs.Runs.{before-by, before-from, before_parts, ends_up}

-- what is reached is reached for each later location
pub reached_later : (hops : List Hop) (place from to later : ℕ) → to ≤ later → IsReached hops place from to → IsReached hops place from later
reached_later hops place from to later le h = (
  h.0,
  λ k x l at. before-from from later x (elim (before-by from to x (h.1 k x l at)) [ inl t ↦ inl t | inr t ↦ inr (t.0, omega (arith, t.1, le)) ]),
)

pub all_later : (hops : List Hop) (places : List ℕ) (to later : ℕ) → to ≤ later → AreReached hops places to → AreReached hops places later
all_later hops places to later le h from place at = reached_later hops place from to later le (h from place at)

-- a place is put for a location
pub all_set : (hops : List Hop) (places : List ℕ) (at place to : ℕ) → AreReached hops places to → IsReached hops place at to → AreReached hops (slice_set places at place) to
all_set hops places at place to all one from p here = elim (cases_eq at from) [
  | inl e ↦ subst (λ n. IsReached hops n from to) (sym (at_set places at place from p e here)) (subst (λ n. IsReached hops place n to) e one)
  | inr ne ↦ all from p (off_set places at place from p ne here)
]
  where
    at_set : (ps : List ℕ) (i x j y : ℕ) → i ≡ j → slice_get (slice_set ps i x) j ≡ Some y → y ≡ x
    at_set [] i x j y e h = absurd (omega (arith, slice_get_within [] j y h))
    at_set (p ∷ ps) zero x zero y e h = cc
    at_set (p ∷ ps) zero x (suc j) y e h = absurd (omega (arith, e))
    at_set (p ∷ ps) (suc i) x zero y e h = absurd (omega (arith, e))
    at_set (p ∷ ps) (suc i) x (suc j) y e h = at_set ps i x j y (omega (arith, e)) h

    off_set : (ps : List ℕ) (i x j y : ℕ) → (i ≡ j → ⊥) → slice_get (slice_set ps i x) j ≡ Some y → slice_get ps j ≡ Some y
    off_set [] i x j y ne h = h
    off_set (p ∷ ps) zero x zero y ne h = absurd (ne (omega arith))
    off_set (p ∷ ps) zero x (suc j) y ne h = h
    off_set (p ∷ ps) (suc i) x zero y ne h = h
    off_set (p ∷ ps) (suc i) x (suc j) y ne h = off_set ps i x j y (λ e. ne (omega (arith, e))) h

-- one more is put
pub all_pushed : (hops : List Hop) (places : List ℕ) (place to : ℕ) → AreReached hops places to → IsReached hops place (length places) to → AreReached hops (places ++ place ∷ []) to
all_pushed hops places place to all one from p at = elim (cases_lt from (length places)) [
  | inl less ↦ all from p (sym (slice_get-append_left places (place ∷ []) from less) ∙ at)
  | inr past ↦ (
      let last : from ≡ length places = omega (arith, past, slice_get_within (places ++ place ∷ []) from p at, length-append places (place ∷ [])) in
      let same : place ≡ p = sym (get_or_push places place 0 from (sym last)) ∙ get_or_from_slice_get (places ++ place ∷ []) from p 0 at in
      subst (λ k. IsReached hops k from to) same (subst (λ n. IsReached hops place n to) (sym last) one))
]

-- where the hops from a location begin
pub first_reached : (hops : List Hop) (place from : ℕ) → place ≤ length hops
    → IsPartitionPoint (λ (x : Hop). nat_lt x.from from ≡ true) (λ (x : Hop). nat_lt x.from from ≡ false) hops place → IsReached hops place from 0
first_reached hops place from short point = (
  short,
  λ k x l at. before-from from 0 x (inl (ltb-true x.from from (subst (λ (y : Hop). nat_lt y.from from ≡ true) (get_or_from_slice_get hops k x x at) (point.0 k x (omega arith) l)))),
)

pub lower_parts : (from : ℕ) (hops : List Hop) → IsStrictlySortedBy hop_order hops → IsPartitionedBy (λ (x : Hop). nat_lt x.from from) hops
lower_parts from hops sorted = IsPartitionedBy-from_sorted hop_order (λ (x : Hop). nat_lt x.from from) (λ a b up h. lt-ltb a.from from (elim (ends_up a b up) [
  | inl t ↦ omega (arith, t, ltb-true b.from from h)
  | inr t ↦ omega (arith, t.0, ltb-true b.from from h)
])) hops sorted

-- where the hops from one location to another begin, from a place on that is reached
module _ (from to : ℕ) (hops : List Hop) (place : ℕ) (reached : IsReached hops place from to) where
  abbrev pub skipped : ℕ
  skipped = prefix_len (is_before from to) (drop place hops)

  in_front : (k : ℕ) (d : Hop) → k < place + skipped → is_before from to (get_or hops k d) ≡ true
  in_front k d l = elim (cases_lt k place) [
    | inl t ↦ reached.1 k (get_or hops k d) t (slice_get-get_or hops k d (omega (arith, t, reached.0)))
    | inr t ↦
        let at : is_before from to (get_or (drop place hops) (k - place) d) ≡ true = prefix_len_passes (is_before from to) (drop place hops) (k - place) d (omega (arith, t, l)) in
        let here : get_or (drop place hops) (k - place) d ≡ get_or hops k d = get_or-drop place hops (k - place) d ∙ ap (λ n. get_or hops n d) (omega (arith, t)) in
        subst (λ h. is_before from to h ≡ true) here at
  ]

  at_start : (d : Hop) → place + skipped < length hops → is_before from to (get_or hops (place + skipped) d) ≡ false
  at_start d l =
      subst (λ h. is_before from to h ≡ false) (get_or-drop place hops skipped d)
      (prefix_len_stops (is_before from to) (drop place hops) d (omega (arith, l, length-drop place hops)))

  pub start_point : IsStrictlySortedBy hop_order hops → IsPartitionPoint (λ x. is_before from to x ≡ true) (λ x. is_before from to x ≡ false) hops (place + skipped)
  start_point sorted = (
    λ k d le l. in_front k d l,
    λ k d le l. false_from_ne_true _ (λ u. true≢false (sym (before_parts from to hops sorted (place + skipped) k d le l u) ∙ at_start d (omega (arith, le, l)))),
  )

  pub start_reached : place + skipped ≤ length hops → IsReached hops (place + skipped) from to
  start_reached short = (
    short,
    λ k x l at. subst (λ h. is_before from to h ≡ true) (get_or_from_slice_get hops k x x at) (in_front k x l),
  )
