-- What is given over links tells a router's choice.
use Rattle.std.proofs.Common.{◌≡◌, ℕ, ◌≤◌, Bool, true, false, not, List, [], ◌∷◌, Option, Some, None, refl, sym, ap, ◌∙◌, IsTrue, inl, inr, arith}
use Rattle.std.specs.Prelude.{◌&&◌, ◌||◌, ◌==◌, ◌↔◌, nat_lt}
use Rattle.std.specs.List.{list_any}
use Rattle.std.specs.Option.{option_map_or}
use Rattle.std.proofs.lemmas.Bool.{and_from, and_parts, eqb-true, or_cases, or_right, not-true}
use Rattle.std.proofs.lemmas.Bool.Decides.{eqb_tells, nat_tests}
use Rattle.list_law.proofs.Options.{when_parts}
use Rattle.net_base.specs.Network.{PlainNet, joins, linked}
use Rattle.net_base.specs.Prefixes.{PlainPrefix}
use Rattle.policy_base.specs.Policies.{PlainPolicy}
use Rattle.config_base.specs.declared.route.Route.{Route}
use Rattle.config_base.specs.Configs.{PlainConfig}
use Rattle.outcome_base.specs.Outcomes.{Failures, Outcome, is_live, route_at, given, Chooses}
use Rattle.scenarios.specs.Tests.{is_route, exceeds, is_higher, far_end}
use Rattle.scenarios.proofs.RouteTests.{is_route-is, is_route-refl}

pub far : (z r : ℕ) (link : ℕ × ℕ) → joins z r link ≡ true → far_end r link ≡ Some z
far z r link h = elim (or_cases (link.0 == z && link.1 == r) (link.0 == r && link.1 == z) h) [
  | inl both ↦ first (and_parts (link.0 == z) (link.1 == r) both)
  | inr both ↦ second (and_parts (link.0 == r) (link.1 == z) both)
]
  where
    first : ((link.0 == z) ≡ true) × ((link.1 == r) ≡ true) → far_end r link ≡ Some z
    first both =
        let a = eqb-true link.0 z both.0 in
        let b = eqb-true link.1 r both.1 in
        elim (eqb_tells link.0 r) [
          | inl e ↦ rw e.0 (ap (λ x. Some x) (b ∙ sym e.1 ∙ a))
          | inr e ↦ rw (e.0, both.1) (ap (λ x. Some x) a)
        ]

    second : ((link.0 == r) ≡ true) × ((link.1 == z) ≡ true) → far_end r link ≡ Some z
    second both = rw both.0 (ap (λ x. Some x) (eqb-true link.1 z both.1))

-- a neighbour that passes a test is the far end of some link
at_far_end : (t : ℕ → Bool) (links : List (ℕ × ℕ)) (z r : ℕ) → list_any (joins z r) links ≡ true → t z ≡ true
    → list_any (λ link. option_map_or t (far_end r link) false) links ≡ true
at_far_end t [] z r joined passes = absurd (cc)
at_far_end t (link ∷ links) z r joined passes = elim (or_cases (joins z r link) (list_any (joins z r) links) joined) [
  | inl here ↦ ap (λ o. option_map_or t o false || list_any (λ l. option_map_or t (far_end r l) false) links) (far z r link here)
      ∙ ap (λ b. b || list_any (λ l. option_map_or t (far_end r l) false) links) passes
  | inr later ↦ or_right _ _ (at_far_end t links z r later passes)
]

one_passes : (t : ℕ → Bool) (o : Option ℕ) → option_map_or t o false ≡ true → (z : ℕ) × (t z ≡ true)
one_passes t None h = absurd (cc)
one_passes t (Some z) h = (z, h)

-- and some far end that passes is a location that does
from_far_end : (t : ℕ → Bool) (links : List (ℕ × ℕ)) (r : ℕ) → list_any (λ link. option_map_or t (far_end r link) false) links ≡ true → (z : ℕ) × (t z ≡ true)
from_far_end t [] r h = absurd (cc)
from_far_end t (link ∷ links) r h = elim (or_cases (option_map_or t (far_end r link) false) (list_any (λ l. option_map_or t (far_end r l) false) links) h) [
  | inl here ↦ one_passes t (far_end r link) here
  | inr later ↦ from_far_end t links r later
]

higher_route : (o : Option Route) (best : Option ℕ) → is_higher o best ≡ true → (g : Route) × (o ≡ Some g) × (exceeds g.pref best ≡ true)
higher_route None best h = absurd (cc)
higher_route (Some g) best h = (g, refl, h)

module _ (net : PlainNet) (policy : PlainPolicy) (config : PlainConfig) (f : Failures) (p : PlainPrefix) (outcome : Outcome) (r : ℕ) where
  -- over the link a neighbour gives the router this route
  abbrev gives : Route → ℕ × ℕ → Bool
  gives h link = option_map_or (λ z. is_route (given net policy config f p outcome z r) h) (far_end r link) false

  -- over the link a neighbour gives the router a route of a higher preference
  abbrev outdoes : Option ℕ → ℕ × ℕ → Bool
  outdoes best link = option_map_or (λ z. is_higher (given net policy config f p outcome z r) best) (far_end r link) false

  pub linked_if : (z : ℕ) (g : Route) → given net policy config f p outcome z r ≡ Some g → linked net z r ≡ true
  linked_if z g h =
      let live = (when_parts (is_live net f z r) _ g h).0 in
      (and_parts (linked net z r) _ (and_parts _ _ (and_parts _ _ live).0).0).0

  pub giver : (h : Route) → list_any (gives h) net.links ≡ true → (z : ℕ) × (given net policy config f p outcome z r ≡ Some h)
  giver h some =
      let at = from_far_end (λ z. is_route (given net policy config f p outcome z r) h) net.links r some in
      (at.0, is_route-is _ h at.1)

  pub has_giver : (h : Route) (z : ℕ) → given net policy config f p outcome z r ≡ Some h → list_any (gives h) net.links ≡ true
  has_giver h z is = at_far_end (λ z. is_route (given net policy config f p outcome z r) h) net.links z r (linked_if z h is) (is_route-refl _ h is)

  outdoer : (best : Option ℕ) → list_any (outdoes best) net.links ≡ true
      → (z : ℕ) × (g : Route) × (given net policy config f p outcome z r ≡ Some g) × (exceeds g.pref best ≡ true)
  outdoer best some =
      let at = from_far_end (λ z. is_higher (given net policy config f p outcome z r) best) net.links r some in
      let route = higher_route _ best at.1 in
      (at.0, route.0, route.1, route.2)

  is_outdone : (best : Option ℕ) (z : ℕ) (g : Route) → given net policy config f p outcome z r ≡ Some g → exceeds g.pref best ≡ true
      → list_any (outdoes best) net.links ≡ true
  is_outdone best z g is more =
      at_far_end (λ z. is_higher (given net policy config f p outcome z r) best) net.links z r (linked_if z g is) (ap (λ o. is_higher o best) is ∙ more)

  abbrev Choice : Type 0
  Choice = Chooses net policy config f p outcome r

  abbrev outdone : Option ℕ → Bool
  outdone best = list_any (outdoes best) net.links

  none_outdoes : (best : Option ℕ) → ((z : ℕ) (g : Route) → given net policy config f p outcome z r ≡ Some g → exceeds g.pref best ≡ false) → outdone best ≡ false
  none_outdoes best all = go (outdone best) refl
    where
      go : (b : Bool) → outdone best ≡ b → b ≡ false
      go true is = let o = outdoer best is in let no = all o.0 o.1 o.2 in let yes = o.3 in absurd (cc)
      go false is = refl

  never_exceeds : (best : Option ℕ) → outdone best ≡ false → (z : ℕ) (g : Route) → given net policy config f p outcome z r ≡ Some g → exceeds g.pref best ≡ false
  never_exceeds best none z g is = go (exceeds g.pref best) refl
    where
      go : (b : Bool) → exceeds g.pref best ≡ b → exceeds g.pref best ≡ false
      go true more = let yes = is_outdone best z g is more in absurd (cc)
      go false less = less

  -- a router with no route
  pub chooses_none : (b : Bool) → route_at outcome r ≡ None → b ≡ outdone None → IsTrue (not b) ↔ Choice
  chooses_none b empty is = (
    λ t. record {
      given_by = λ h e. absurd (cc);
      best = λ z g e. let more = never_exceeds None (sym is ∙ not-true b t) z g e in absurd (cc);
    },
    λ c. ap not (is ∙ none_outdoes None (λ z g e. let held = c.best z g e in absurd (no_route held.0 held.1))),
  )
    where
      no_route : (h : Route) → route_at outcome r ≡ Some h → ⊥
      no_route h e = cc

  -- a router with a route
  pub chooses_some : (a b : Bool) (h : Route) → route_at outcome r ≡ Some h → a ≡ list_any (gives h) net.links → b ≡ outdone (Some h.pref) → IsTrue (a && not b) ↔ Choice
  chooses_some a b h held given_by is = (
    λ t.
        let both = and_parts a (not b) t in
        let g = giver h (sym given_by ∙ both.0) in
        record {
          given_by = λ k e. (g.0, g.1 ∙ sym held ∙ e);
          best = λ z g e. (h, held, at_most h.pref g.pref (never_exceeds (Some h.pref) (sym is ∙ not-true b both.1) z g e));
        },
    λ c.
        let g = c.given_by h held in
        and_from a (not b) (given_by ∙ has_giver h g.0 g.1)
        (ap not (is ∙ none_outdoes (Some h.pref) (λ z g e. let other = c.best z g e in at_least h.pref g.pref other.0.pref (same_pref other.0 other.1) other.2))),
  )
    where
      at_most : (m n : ℕ) → nat_lt m n ≡ false → n ≤ m
      at_most m n less = grind (arith, nat_tests)

      at_least : (m n k : ℕ) → k ≡ m → n ≤ k → nat_lt m n ≡ false
      at_least m n k same le = grind (arith, nat_tests)

      same_pref : (k : Route) → route_at outcome r ≡ Some k → k.pref ≡ h.pref
      same_pref k e = let same : Some k ≡ Some h = sym e ∙ held in let is : k ≡ h = cc in ap (λ q. q.pref) is
