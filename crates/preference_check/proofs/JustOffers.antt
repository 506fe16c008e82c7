-- A row that has what offers cost and no other numbers.
use Rattle.std.proofs.Common.{◌≡◌, ℕ, ◌+◌, ◌<◌, true, eqb, leb, List, Option, Some, None, length, get_or, sym, ap, ◌∙◌, inl, inr, arith, IsTrue, subst}
use Rattle.std.specs.Option.{IsSome}
use Rattle.std.specs.List.{list_any}
use Rattle.std.proofs.lemmas.Bool.{cases_lt, and_parts, and_from, eq-eqb, eqb-true}
use Rattle.std.proofs.lemmas.List.{get_or_default}
use Rattle.std.proofs.lemmas.List.Folds.{list_any_at}
use Rattle.std.proofs.lemmas.Option.{get_or_from_slice_get, slice_get_within}
use Rattle.list_law.proofs.Tests.{list_any_parts}
use Rattle.list_law.proofs.Truth.{same_tests}
use Rattle.preference_check.specs.Offers.{is_offer, is_offered}
use Rattle.preference_check.specs.Rows.{IsLevel, has_upto, is_upto}
use Rattle.preference_check.specs.declared.offers.Offer.{Offer}
use Rattle.preference_check.proofs.RowLemmas.{is_upto_some}

-- the first of the offers are level with the first of the places
abbrev pub AreLevel : List (Option ℕ) → List ℕ → List Offer → ℕ → Type 0
AreLevel row places offers count = (j d : ℕ) (o : Offer) → j < count → IsLevel row (get_or places j d) (get_or offers j o)

-- one more is
pub level_more : (row : List (Option ℕ)) (places : List ℕ) (offers : List Offer) (i : ℕ) (e : Offer) → i < length places → i < length offers → IsLevel row (get_or places i 0) (get_or offers i e)
    → AreLevel row places offers i → AreLevel row places offers (i + 1)
level_more row places offers i e in_places in_offers here before j d o lt = elim (cases_lt j i) [
  | inl less ↦ before j d o less
  | inr past ↦ (
      let same : i ≡ j = omega (arith, lt, past) in
      subst (λ k. IsLevel row (get_or places k d) (get_or offers k o)) same
      (subst (λ x. IsLevel row x (get_or offers i o)) (get_or_default places i 0 d in_places) (subst (IsLevel row (get_or places i 0)) (get_or_default offers i e o in_offers) here)))
]

module _ (row : List (Option ℕ)) (places : List ℕ) (offers : List Offer) (size : length offers ≡ length places) (level : AreLevel row places offers (length offers))
    (listed : (p : ℕ) → IsSome (get_or row p None) → IsTrue (list_any (λ x. eqb x p) places)) where
  none : Offer
  none = record { at = 0; cost = 0 }

  to : (p n : ℕ) → has_upto row p n ≡ true → is_offered offers p n ≡ true
  to p n h =
      let found = list_any_parts (λ x. eqb x p) places (listed p (is_upto_some (get_or row p None) n h)) in
      let j = found.0 in
      let within : j < length offers = let lt = slice_get_within places j found.1 found.2 in omega (arith, lt, size) in
      let here = level j 0 none within in
      let place : get_or places j 0 ≡ p = get_or_from_slice_get places j found.1 0 found.2 ∙ eqb-true found.1 p found.3 in
      let is : get_or row p None ≡ Some (get_or offers j none).cost = ap (λ l. get_or row l None) (sym place) ∙ here.1 in
      list_any_at (is_offer p n) offers j none within
      (and_from (eqb (get_or offers j none).at p) (leb (get_or offers j none).cost n) (eq-eqb (get_or offers j none).at p (sym here.0 ∙ place)) (sym (ap (λ x. is_upto x n) is) ∙ h))

  back : (p n : ℕ) → is_offered offers p n ≡ true → has_upto row p n ≡ true
  back p n h =
      let found = list_any_parts (is_offer p n) offers h in
      let j = found.0 in
      let o = found.1 in
      let parts = and_parts (eqb o.at p) (leb o.cost n) found.3 in
      let here = level j 0 none (slice_get_within offers j o found.2) in
      let read : get_or offers j none ≡ o = get_or_from_slice_get offers j o none found.2 in
      let place : get_or places j 0 ≡ p = here.0 ∙ ap (λ (x : Offer). x.at) read ∙ eqb-true o.at p parts.0 in
      let is : get_or row p None ≡ Some o.cost = ap (λ l. get_or row l None) (sym place) ∙ here.1 ∙ ap (λ (x : Offer). Some x.cost) read in
      ap (λ x. is_upto x n) is ∙ parts.1

  pub row_is_offered : (p n : ℕ) → has_upto row p n ≡ is_offered offers p n
  row_is_offered p n = same_tests (has_upto row p n) (is_offered offers p n) (to p n) (back p n)
