-- An order has each router once.
use Rattle.std.proofs.Common.{◌≡◌, ℕ, ◌≤◌, ◌<◌, Bool, true, false, not, ◌||◌, eqb, List, [], ◌∷◌, length, Option, sym, ap, ◌∙◌, refl, inl, inr}
use Rattle.std.specs.Prelude.{is_some, None}
use Rattle.std.specs.List.{AllByRecursion, IsDistinct, list_any}
use Rattle.std.proofs.lemmas.Bool.{and_parts, both_ways, eq-eqb, eqb-true, false_from_ne_true, not-false, or_cases, or_left, or_parts, or_right}
use Rattle.std.proofs.lemmas.Map.Keys.{IsDistinct-cons}
use Rattle.std.proofs.lemmas.Map.Steps.{length-le_from_distinct_below}
use Rattle.event_base.specs.World.{Speakers, World, at, running}
use Rattle.rest_law.specs.Orders.{IsOrder, Order, Takes, rests}
use Rattle.rest_law.proofs.Trails.{none_distinct}

all_of : (P : ℕ → Type 0) (xs : List ℕ) → ((q : ℕ) → list_any (eqb q) xs ≡ true → P q) → AllByRecursion P xs
all_of P [] h = tt
all_of P (x ∷ xs) h = (h x (or_left (eqb x x) (list_any (eqb x) xs) (eq-eqb x x refl)), all_of P xs (λ q t. h q (or_right (eqb q x) (list_any (eqb q) xs) t)))

module _ {R : Type 0} (net : Speakers R) (w : World R) (takes : Takes R) (no_later : Order R) (outcome : ℕ → Option R) where
  later_off : (S : ℕ → Bool) (vs : List ℕ) → IsOrder net w takes no_later outcome S vs → (q : ℕ) → list_any (eqb q) vs ≡ true → S q ≡ false
  later_off S [] order q h = absurd (both_ways false refl h)
  later_off S (v ∷ vs) order q h = elim (or_cases (eqb q v) (list_any (eqb q) vs) h) [
    | inl here ↦ ap S (eqb-true q v here) ∙ order.0
    | inr there ↦ (or_parts (S q) (at v q) (later_off (λ r. S r || at v r) vs order.2 q there)).0
  ]

  order_distinct : (S : ℕ → Bool) (vs : List ℕ) → IsOrder net w takes no_later outcome S vs → IsDistinct eqb vs
  order_distinct S [] order = none_distinct
  order_distinct S (v ∷ vs) order =
      IsDistinct-cons eqb v vs (all_of (λ u. eqb v u ≡ false) vs (λ q h. false_from_ne_true (eqb v q) (λ t.
      both_ways (at v q) (or_parts (S q) (at v q) (later_off (λ r. S r || at v r) vs order.2 q h)).1 (eq-eqb q v (sym (eqb-true v q t))))))
      (order_distinct (λ r. S r || at v r) vs order.2)

  -- where all routers are below a number, it has no more
  pub order_short : (bound : ℕ) → ((r : ℕ) → net.is_router r ≡ true → r < bound) → (vs : List ℕ) → IsOrder net w takes no_later outcome (rests net w) vs → length vs ≤ bound
  order_short bound below vs order =
      length-le_from_distinct_below vs bound (order_distinct (rests net w) vs order) (λ q h.
      let off = later_off (rests net w) vs order q h in
      let runs = not-false (running net w q) (or_parts (not (running net w q)) (is_some (net.choose q (λ u. None))) off).0 in
      below q (and_parts (net.is_router q) (not (w.down q)) runs).0)
