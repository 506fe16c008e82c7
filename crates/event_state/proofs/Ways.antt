-- An entry for a direction is one of a pair of locations, and of no other.
use Rattle.std.proofs.Common.{◌≡◌, ℕ, zero, suc, ◌+◌, ◌<◌, true, false, eqb, ltb, ◌⊎◌, List, [], ◌∷◌, length, Option, Some, None, inl, inr, arith, refl, sym, ap, ◌∙◌}
use Rattle.std.specs.Prelude.{is_some, slice_get, slice_index_or, slice_set, if◌then◌else◌}
use Rattle.std.specs.List.{position}
use Rattle.std.specs.Option.{option_map_or}
use Rattle.std.proofs.lemmas.Bool.{and_parts, and_from, both_ways, cases_Bool, cond-true, cond-false, eq-eqb, eqb-true, false_from_ne_true, lt-ltb, le-ltb}
use Rattle.std.proofs.lemmas.Option.{slice_get_within}
use Rattle.list_law.proofs.Each.{AllByRecursion_at}
use Rattle.list_law.proofs.Options.{option_map_parts, is_some-option_map}
use Rattle.list_law.proofs.Positions.{find-position, list_any-at_position}
use Rattle.list_law.proofs.Tests.{find-any, find_parts}
use Rattle.net_base.specs.Network.{PlainNet, IsLink, IsNet, joins, linked}
use Rattle.net_base.proofs.LinkSearch.{is_some-position}
use Rattle.net_base.proofs.Links.{joins_ends}
use Rattle.event_base.specs.World.{is}
use Rattle.event_state.specs.Directions.{at_direction, direction}

-- the link at the place joins a and b
place_link : (a b : ℕ) (ls : List (ℕ × ℕ)) (l : ℕ) → position (joins a b) ls ≡ Some l → (k : ℕ × ℕ) × (slice_get ls l ≡ Some k) × (joins a b k ≡ true) × (l < length ls)
place_link a b ls l h =
    let one = find-any (joins a b) ls (list_any-at_position (joins a b) ls l h) in
    let there : slice_get ls l ≡ Some one.0 = sym (find-position (joins a b) ls l h) ∙ one.1 in
    (one.0, there, (find_parts (joins a b) ls one.0 one.1).2, slice_get_within ls l one.0 there)

-- linked locations have a direction, each way
pub has_way : (net : PlainNet) (a b : ℕ) → linked net a b ≡ true → is_some (direction net a b) ≡ true
has_way net a b h = is_some-option_map (λ place. if ltb a b then place else length net.links + place) (position (joins a b) net.links) ∙ is_some-position (joins a b) net.links ∙ h

-- an entry that is written, and the others
pub set_same : {A : Type 0} (xs : List A) (d : ℕ) (v nothing : A) → d < length xs → slice_index_or (slice_set xs d v) d nothing ≡ v
set_same [] d v nothing less = absurd (omega (arith, less))
set_same (x ∷ xs) zero v nothing less = refl
set_same (x ∷ xs) (suc d) v nothing less = set_same xs d v nothing (omega (arith, less))

pub set_other : {A : Type 0} (xs : List A) (d e : ℕ) (v nothing : A) → (d ≡ e → ⊥) → slice_index_or (slice_set xs d v) e nothing ≡ slice_index_or xs e nothing
set_other [] d e v nothing apart = refl
set_other (x ∷ xs) zero zero v nothing apart = absurd (apart refl)
set_other (x ∷ xs) zero (suc e) v nothing apart = refl
set_other (x ∷ xs) (suc d) zero v nothing apart = refl
set_other (x ∷ xs) (suc d) (suc e) v nothing apart = set_other xs d e v nothing (λ h. apart (ap suc h))

module _ (net : PlainNet) (rules : IsNet net) where
  -- a direction, by its link and the order of its ends
  pub record Way (a b d : ℕ) : Type 0 where
    pub place : ℕ
    pub link : ℕ × ℕ
    pub at : slice_get net.links place ≡ Some link
    pub below : place < length net.links
    pub order : link.0 < link.1
    pub either : ((a ≡ link.0) × (b ≡ link.1) × (d ≡ place)) ⊎ ((a ≡ link.1) × (b ≡ link.0) × (d ≡ length net.links + place))

  pub way_of : (a b d : ℕ) → direction net a b ≡ Some d → Way a b d
  way_of a b d h =
      let p = option_map_parts (λ place. if ltb a b then place else length net.links + place) (position (joins a b) net.links) d h in
      let k = place_link a b net.links p.0 p.1 in
      let order = (AllByRecursion_at (IsLink net) net.links p.0 k.0 rules.links k.1).0 in
      record {
        place = p.0;
        link = k.0;
        at = k.1;
        below = k.3;
        order = order;
        either = elim (joins_ends a b k.0 k.2) [
          | inl e ↦ (
              let less : ltb a b ≡ true = lt-ltb a b (omega (arith, order, e.0, e.1)) in
              inl (sym e.0, sym e.1, sym p.2 ∙ cond-true (ltb a b) p.0 (length net.links + p.0) less))
          | inr e ↦ (
              let more : ltb a b ≡ false = le-ltb a b (omega (arith, order, e.0, e.1)) in
              inr (sym e.1, sym e.0, sym p.2 ∙ cond-false (ltb a b) p.0 (length net.links + p.0) more))
        ];
      }

  -- two pairs with one direction are one
  pub one_direction : (a b x y d : ℕ) → direction net a b ≡ Some d → direction net x y ≡ Some d → (x ≡ a) × (y ≡ b)
  one_direction a b x y d h g = by (way_of a b d h) (way_of x y d g)
    where
      by : Way a b d → Way x y d → (x ≡ a) × (y ≡ b)
      by v w = elim v.either [
        | inl e ↦ elim w.either [
          | inl f ↦ (let k = same_link v w (omega (arith, e.2, f.2)) in (f.0 ∙ ap (λ (z : ℕ × ℕ). z.0) (sym k) ∙ sym e.0, f.1 ∙ ap (λ (z : ℕ × ℕ). z.1) (sym k) ∙ sym e.1))
          | inr f ↦ absurd (omega (arith, e.2, f.2, v.below, w.below))
        ]
        | inr e ↦ elim w.either [
          | inl f ↦ absurd (omega (arith, e.2, f.2, v.below, w.below))
          | inr f ↦ (let k = same_link v w (omega (arith, e.2, f.2)) in (f.0 ∙ ap (λ (z : ℕ × ℕ). z.1) (sym k) ∙ sym e.0, f.1 ∙ ap (λ (z : ℕ × ℕ). z.0) (sym k) ∙ sym e.1))
        ]
      ]
        where
          same_link : (v : Way a b d) (w : Way x y d) → v.place ≡ w.place → v.link ≡ w.link
          same_link v w e = (let is : Some v.link ≡ Some w.link = sym v.at ∙ ap (slice_get net.links) e ∙ w.at in cc)

  -- A write at the direction from a to b changes what stands there, and nothing else.
  pub written : {A : Type 0} (xs : List A) (nothing v : A) (a b d : ℕ) → direction net a b ≡ Some d → d < length xs → (x y : ℕ)
      → at_direction net (slice_set xs d v) nothing x y ≡ (if is a b x y then v else at_direction net xs nothing x y)
  written {A} xs nothing v a b d at less x y = by (direction net x y) refl
    where
      apart : (o : Option ℕ) → direction net x y ≡ o → (o ≡ Some d → ⊥) → is a b x y ≡ false
      apart o e no_way = false_from_ne_true (is a b x y) (λ t.
          let p = and_parts (eqb x a) (eqb y b) t in
          let same : direction net x y ≡ Some d = ap (λ z. direction net z y) (eqb-true x a p.0) ∙ ap (direction net a) (eqb-true y b p.1) ∙ at in
          no_way (sym e ∙ same))

      by : (o : Option ℕ) → direction net x y ≡ o
          → option_map_or (λ e. slice_index_or (slice_set xs d v) e nothing) (direction net x y) nothing
          ≡ (if is a b x y then v else option_map_or (λ e. slice_index_or xs e nothing) (direction net x y) nothing)
      by None e = ap (λ o. option_map_or (λ e. slice_index_or (slice_set xs d v) e nothing) o nothing) e
          ∙ sym (cond-false (is a b x y) v (option_map_or (λ e. slice_index_or xs e nothing) (direction net x y) nothing) (apart None e (λ h. cc))
          ∙ ap (λ o. option_map_or (λ e. slice_index_or xs e nothing) o nothing) e)
      by (Some c) e = ap (λ o. option_map_or (λ e. slice_index_or (slice_set xs d v) e nothing) o nothing) e ∙ elim (cases_Bool (eqb d c)) [
        | inl t ↦ (
            let same = eqb-true d c t in
            let ends_same = one_direction a b x y d at (e ∙ ap Some (sym same)) in
            let here : is a b x y ≡ true = and_from (eqb x a) (eqb y b) (eq-eqb x a ends_same.0) (eq-eqb y b ends_same.1) in
            ap (λ k. slice_index_or (slice_set xs d v) k nothing) (sym same) ∙ set_same xs d v nothing less
            ∙ sym (cond-true (is a b x y) v (option_map_or (λ e. slice_index_or xs e nothing) (direction net x y) nothing) here))
        | inr f ↦ (
            let other : d ≡ c → ⊥ = λ h. both_ways (eqb d c) f (eq-eqb d c h) in
            set_other xs d c v nothing other
            ∙ sym (cond-false (is a b x y) v (option_map_or (λ e. slice_index_or xs e nothing) (direction net x y) nothing) (apart (Some c) e (λ h. other (let back : c ≡ d = cc in sym back)))
            ∙ ap (λ o. option_map_or (λ e. slice_index_or xs e nothing) o nothing) e))
      ]
