-- Where no two nodes stand at one location, none stands lower than another.
use Rattle.std.proofs.Common.{◌≡◌, ℕ, zero, suc, ◌+◌, Bool, true, false, not, ◌&&◌, length, arith, inl, inr, refl, sym, ap, subst, ◌∙◌}
use Rattle.std.specs.Prelude.{if◌then◌else◌}
use Rattle.std.proofs.lemmas.Bool.{cases_Bool, and_left, and_parts, and_right}
use Rattle.net_base.specs.Network.{PlainNet, is_router}
use Rattle.graph_base.specs.Graphs.{PlainGraph}
use Rattle.graph_base.specs.Runs.{place_of}
use Rattle.relation_law.specs.Evidence.{at_routers}
use Rattle.relation_law.specs.Numbers.{count_below, is_first, is_lower, number_of}
use Rattle.relation_law.specs.Views.{view_of}
use Rattle.relation_law.proofs.Rounds.{pair_from}
use Rattle.state_simulation.specs.Apart.{StandApart}
use Rattle.state_simulation.specs.Held.{IsRelationOf, PlainRelation, has}
use Rattle.state_simulation.proofs.Holding.{together}
use Rattle.preference_numbers.specs.Inferred.{inferred}

none_below : (n : ℕ) (p : ℕ → Bool) → ((k : ℕ) → p k ≡ false) → count_below n p ≡ 0
none_below zero p none = refl
none_below (suc n) p none = ap (λ b. (if b then 1 else 0) + count_below n p) (none n) ∙ omega (arith, none_below n p none)

never_both : (b : Bool) → (b && not b) ≡ false
never_both true = refl
never_both false = refl

module _ (g : PlainGraph) (r : PlainRelation) (is : IsRelationOf g r) (apart : StandApart g) (m : ℕ) where
  alone : (p : ℕ) → has r m p ≡ true → m ≡ p
  alone p both =
      let pair = pair_from (view_of g r.claimed) m p (sym (together g r is.places m p) ∙ (and_parts _ _ both).0) in
      apart m p pair.left pair.right pair.place

  none_lower : (p : ℕ) → is_lower (has r) p m ≡ false
  none_lower p = elim (cases_Bool (has r m p)) [
    | inl both ↦ subst (λ k. (has r m k && not (has r k m)) ≡ false) (alone p both) (never_both (has r m m))
    | inr none ↦ and_left _ _ none
  ]

  number_apart : number_of (length g.nodes) (has r) m ≡ 100
  number_apart = ap (λ z. 100 + z) (none_below (length g.nodes) (λ p. is_first (has r) p && is_lower (has r) p m) (λ p. and_right _ _ (none_lower p)))

  pub inferred_apart : (net : PlainNet) → at_routers net g (λ _. 100) m ≡ inferred net g r m
  inferred_apart net = ap (λ z. if is_router net (place_of g m) then z else 0) (sym number_apart)
