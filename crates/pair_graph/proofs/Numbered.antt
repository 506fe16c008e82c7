-- The number of a pair among those that were found.
use Rattle.std.proofs.Common.{◌≡◌, ◌⊎◌, ℕ, ◌+◌, ◌<◌, Bool, true, false, not, List, [], ◌∷◌, ◌++◌, length, Some, cond, get_or, take, refl, sym, ap, ◌∙◌, subst, arith, inl, inr}
use Rattle.std.specs.Prelude.{◌==◌, slice_get}
use Rattle.std.specs.List.{list_any}
use Rattle.std.specs.Option.{option_eq}
use Rattle.std.proofs.lemmas.Bool.{and_from, and_parts, both_ways, cases_lt, cond-false, cond-true, eq-eqb, eqb-true, not-true, not-false}
use Rattle.std.proofs.Math.ListN.{get_or-append}
use Rattle.std.proofs.Math.Seq.{get_or-append_seam}
use Rattle.std.proofs.lemmas.List.{length-append, take_more}
use Rattle.std.proofs.lemmas.Option.{get_or_from_slice_get, slice_get_within}
use Rattle.list_law.proofs.Items.{slice_get_in_front, slice_get-there, from_front}
use Rattle.list_law.proofs.Members.{list_any-from_IsIn}
use Rattle.list_law.proofs.Options.{is-option_eq, option_eq-is}
use Rattle.pair_graph.specs.declared.pair.NodePair.{NodePair}
use Rattle.pair_graph.specs.contracts.pair.NodePairPartialEq.TheImpl as block
use Rattle.pair_graph.specs.Growth.{IsExtended, finder}

abbrev pub same : NodePair → NodePair → Bool
same = block.ghosts.eq

pub same-is : (x y : NodePair) → same x y ≡ true → x ≡ y
same-is x y h =
    let outer = and_parts (x.place == y.place) _ h in
    let inner = and_parts (option_eq (λ a b. a == b) x.first y.first) (option_eq (λ a b. a == b) x.second y.second) outer.1 in
    let place : x.place ≡ y.place = eqb-true x.place y.place outer.0 in
    let first : x.first ≡ y.first = option_eq-is x.first y.first inner.0 in
    let second : x.second ≡ y.second = option_eq-is x.second y.second inner.1 in
    λ i. record { place = place i; first = first i; second = second i }

-- one more pair of those in order
pub take_next : (pairs : List NodePair) (i : ℕ) (x : NodePair) → slice_get pairs i ≡ Some x → take (i + 1) pairs ≡ take i pairs ++ x ∷ []
take_next pairs i x at = take_more pairs i x (slice_get_within pairs i x at) ∙ ap (λ y. take i pairs ++ y ∷ []) (get_or_from_slice_get pairs i x x at)

pub same-itself : (y z : NodePair) → z ≡ y → same y z ≡ true
same-itself y z e = subst (λ x. same y x ≡ true) (sym e) (and_from (y.place == y.place) _ (eq-eqb y.place y.place refl) (and_from _ _ (is-option_eq y.first y.first refl) (is-option_eq y.second y.second refl)))

module _ (pairs : List NodePair) (before : List ℕ) (k : ℕ) (y : NodePair) (few : length pairs < 4294967000) (size : length before ≡ length pairs) where
  -- it was there
  pub extended_kept : (n : ℕ) (x : NodePair) → slice_get pairs n ≡ Some x → same y x ≡ true → IsExtended pairs before k y n pairs before
  extended_kept n x at is = record {
    few = omega (arith, few);
    size = size;
    longer = omega arith;
    kept = λ m z got. got;
    finders = λ m lt. refl;
    number = at ∙ ap Some (sym (same-is y x is));
    new = λ m z got. inl got;
  }

  -- it was put behind the others
  pub extended_new : (n : ℕ) (x : NodePair) → list_any (same y) pairs ≡ false → slice_get (pairs ++ y ∷ []) n ≡ Some x → same y x ≡ true
      → IsExtended pairs before k y n (pairs ++ y ∷ []) (before ++ k ∷ [])
  extended_new n x none at is = record {
    few = omega (arith, few, longer);
    size = omega (arith, length-append before (k ∷ []), longer, size);
    longer = omega (arith, longer);
    kept = λ m z got. slice_get_in_front pairs (y ∷ []) m z got;
    finders = λ m lt. get_or-append before (k ∷ []) 0 m (omega (arith, lt, size));
    number = ap (slice_get (pairs ++ y ∷ [])) last ∙ slice_get-there pairs y [];
    new = news;
  }
    where
      longer : length (pairs ++ y ∷ []) ≡ length pairs + 1
      longer = length-append pairs (y ∷ [])

      last : n ≡ length pairs
      last = elim (cases_lt n (length pairs)) [
        | inl less ↦ absurd (both_ways _ none (list_any-from_IsIn (same y) pairs x (n, from_front pairs (y ∷ []) n x at less) is))
        | inr ge ↦ omega (arith, ge, slice_get_within (pairs ++ y ∷ []) n x at, longer)
      ]

      news : (m : ℕ) (z : NodePair) → slice_get (pairs ++ y ∷ []) m ≡ Some z → (slice_get pairs m ≡ Some z) ⊎ ((m ≡ length pairs) × (z ≡ y) × (m ≡ n) × (finder (before ++ k ∷ []) m ≡ k) × ((j : ℕ) → slice_get pairs j ≡ Some z → ⊥))
      news m z got = elim (cases_lt m (length pairs)) [
        | inl less ↦ inl (from_front pairs (y ∷ []) m z got less)
        | inr ge ↦ (
            let here : m ≡ length pairs = omega (arith, ge, slice_get_within (pairs ++ y ∷ []) m z got, longer) in
            let item : Some z ≡ Some y = sym got ∙ ap (slice_get (pairs ++ y ∷ [])) here ∙ slice_get-there pairs y [] in
            let back : m ≡ length before = omega (arith, here, size) in
            inr (
              here,
              cc,
              omega (arith, here, last),
              ap (λ j. get_or (before ++ k ∷ []) j 0) back ∙ get_or-append_seam before k [] 0,
              λ j old. both_ways _ none (list_any-from_IsIn (same y) pairs z (j, old) (same-itself y z (let one : z ≡ y = cc in one))),
            ))
      ]

  -- what the table of pairs says of one that was inserted
  module _ (more : List NodePair) (is_new : Bool) (n : ℕ) (x : NodePair) (keys : more ≡ cond (list_any (same y) pairs) pairs (pairs ++ y ∷ [])) (fresh : is_new ≡ not (list_any (same y) pairs))
      (at : slice_get more n ≡ Some x) (is : same y x ≡ true) where
    pub numbered_kept : is_new ≡ false → IsExtended pairs before k y n more before
    numbered_kept old =
        let there : list_any (same y) pairs ≡ true = not-false _ (sym fresh ∙ old) in
        let all : more ≡ pairs = keys ∙ cond-true _ _ _ there in
        subst (λ xs. IsExtended pairs before k y n xs before) (sym all) (extended_kept n x (ap (λ xs. slice_get xs n) (sym all) ∙ at) is)

    pub numbered_new : (later : List ℕ) → is_new ≡ true → later ≡ before ++ k ∷ [] → IsExtended pairs before k y n more later
    numbered_new later new finder_is =
        let none : list_any (same y) pairs ≡ false = not-true _ (sym fresh ∙ new) in
        let all : more ≡ pairs ++ y ∷ [] = keys ∙ cond-false _ _ _ none in
        subst (λ xs. IsExtended pairs before k y n more xs) (sym finder_is)
        (subst (λ xs. IsExtended pairs before k y n xs (before ++ k ∷ [])) (sym all) (extended_new n x none (ap (λ xs. slice_get xs n) (sym all) ∙ at) is))
