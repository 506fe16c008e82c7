-- What a cut and the routes that it moves can touch.
use Rattle.std.proofs.Common.{◌≡◌, ◌≤◌, ◌<◌, ℕ, Bool, true, false, List, [], ◌∷◌, length, Option, Some, None, refl, sym, ap, ap₂, ◌∙◌, inl, inr, arith}
use Rattle.std.specs.Prelude.{◌==◌, ◌&&◌, ◌||◌, filter, nat_lt, not}
use Rattle.std.specs.List.{list_any}
use Rattle.std.specs.Option.{option_and_then}
use Rattle.std.proofs.Math.Bool.{and-false, or_comm}
use Rattle.std.proofs.lemmas.Bool.{cases_Bool, ltb-false, ltb-true, not-false, not-true, or_cases, or_left, or_parts, or_right, true≢false}
use Rattle.std.proofs.lemmas.Option.{slice_get_past}
use Rattle.net_base.specs.declared.loc.LocSet.{LocSet}
use Rattle.net_base.specs.Network.{PlainNet, joins, linked}
use Rattle.net_base.specs.Sets.{holds}
use Rattle.net_base.proofs.Links.{joins_ends}
use Rattle.config_base.specs.declared.route.Route.{Route}
use Rattle.outcome_base.specs.Outcomes.{Failures, Outcome, is_dead, is_dead_link, is_live, is_silent, route_at}
use Rattle.scenarios.proofs.RouteTests.{is_route-is, is_route-refl}
use Rattle.impact_law.specs.Cuts.{is_cut, with_cut}
use Rattle.impact_law.specs.declared.impact.Cut.{Cut}
use Rattle.impact_law.specs.declared.impact.Cut.TheVariants.{Link, Router}
use Rattle.whatif_report.specs.Moves.{is_moved, same_held}
use Rattle.whatif_report.specs.Shifting.{Covers, over_link, touches}

-- ---- what is held

same_held-refl : (o : Option Route) → same_held o o ≡ true
same_held-refl None = refl
same_held-refl (Some h) = is_route-refl (Some h) h refl

same_held-is : (g h : Option Route) → same_held g h ≡ true → g ≡ h
same_held-is None None same = refl
same_held-is None (Some h) same = absurd (cc)
same_held-is (Some g) None same = absurd (cc)
same_held-is (Some g) (Some h) same = is_route-is (Some g) h same

-- who holds the same isn't moved
pub stays_put : (cut : Cut) (outcome : Outcome) (r : ℕ) → is_moved cut outcome outcome r ≡ false
stays_put cut outcome r = ap (λ b. not (is_cut cut r) && not b) (same_held-refl (route_at outcome r)) ∙ and-false (not (is_cut cut r))

-- and who isn't moved holds the same
pub unmoved : (cut : Cut) (before after : Outcome) (r : ℕ) → is_cut cut r ≡ false → is_moved cut before after r ≡ false → route_at before r ≡ route_at after r
unmoved cut before after r off still =
    same_held-is (route_at before r) (route_at after r) (not-false _ (sym (ap (λ b. not b && not (same_held (route_at before r) (route_at after r))) off) ∙ still))

-- so does what is no router
unrouted : (outcome : Outcome) (n z : ℕ) → length outcome ≡ n → n ≤ z → route_at outcome z ≡ None
unrouted outcome n z size past = ap (option_and_then (λ o. o)) (slice_get_past outcome z (omega (arith, size, past)))

pub unmoved_anywhere : (cut : Cut) (before after : Outcome) (n z : ℕ) → length before ≡ n → length after ≡ n → is_cut cut z ≡ false → (z < n → is_moved cut before after z ≡ false)
    → route_at before z ≡ route_at after z
unmoved_anywhere cut before after n z size too off still = elim (cases_Bool (nat_lt z n)) [
  | inl low ↦ unmoved cut before after z off (still (ltb-true z n low))
  | inr past ↦ unrouted before n z size (ltb-false z n past) ∙ sym (unrouted after n z too (ltb-false z n past))
]

-- ---- a link that isn't cut, with its ends

turned : (a b : ℕ) (link : ℕ × ℕ) → joins a b link ≡ joins b a link
turned a b link = or_comm (link.0 == a && link.1 == b) (link.0 == b && link.1 == a)

over_turned : (cut : Cut) (r z : ℕ) → over_link cut r z ≡ over_link cut z r
over_turned (Link a b) r z = turned r z (a, b)
over_turned (Router x) r z = or_comm (x == r) (x == z)

touch_turned : (cut : Cut) (moved : LocSet) (r z : ℕ) → touches cut moved r z ≡ touches cut moved z r
touch_turned cut moved r z = ap₂ (λ a b. a || b) (or_comm (holds moved r) (holds moved z)) (over_turned cut r z)

pub end_uncut : (cut : Cut) (r z : ℕ) → over_link cut r z ≡ false → is_cut cut z ≡ false
end_uncut (Link a b) r z off = refl
end_uncut (Router x) r z off = (or_parts (x == r) (x == z) off).1

pub alive_uncut : (cut : Cut) (f : Failures) (u : ℕ) → not (is_dead (with_cut cut f) u) ≡ true → is_cut cut u ≡ false
alive_uncut (Link a b) f u alive = refl
alive_uncut (Router x) f u alive = (or_parts (x == u) (is_dead f u) (not-true _ alive)).0

pub uncut_lives : (net : PlainNet) (cut : Cut) (f : Failures) (r z : ℕ) → over_link cut r z ≡ false → is_live net f z r ≡ is_live net (with_cut cut f) z r
uncut_lives net (Link a b) f r z off =
    let link : is_dead_link (with_cut (Link a b) f) z r ≡ is_dead_link f z r = ap (λ o. o || is_dead_link f z r) (turned z r (a, b) ∙ off) in
    ap (λ o. linked net z r && not o && not (is_dead f z) && not (is_dead f r)) (sym link)
uncut_lives net (Router x) f r z off =
    let ends = or_parts (x == r) (x == z) off in
    let first : is_dead (with_cut (Router x) f) z ≡ is_dead f z = ap (λ o. o || is_dead f z) ends.1 in
    let second : is_dead (with_cut (Router x) f) r ≡ is_dead f r = ap (λ o. o || is_dead f r) ends.0 in
    ap₂ (λ a b. linked net z r && not (is_dead_link f z r) && not a && not b) (sym first) (sym second)

pub as_silent : (cut : Cut) (f : Failures) (r z : ℕ) → is_silent f r z ≡ is_silent (with_cut cut f) r z
as_silent (Link a b) f r z = refl
as_silent (Router x) f r z = refl

-- ---- lists of links

any_kept : {X : Type 0} (p q : X → Bool) (xs : List X) → ((x : X) → p x ≡ true → q x ≡ true) → list_any p xs ≡ true → list_any p (filter q xs) ≡ true
any_kept p q [] each some = absurd (cc)
any_kept p q (x ∷ xs) each some = elim (cases_Bool (q x)) [
  | inl keep ↦ rw keep (elim (or_cases (p x) (list_any p xs) some) [
    | inl here ↦ or_left (p x) (list_any p (filter q xs)) here
    | inr later ↦ or_right (p x) (list_any p (filter q xs)) (any_kept p q xs each later)
  ])
  | inr drop ↦ rw drop (elim (or_cases (p x) (list_any p xs) some) [
    | inl here ↦ absurd (true≢false (sym (each x here) ∙ drop))
    | inr later ↦ any_kept p q xs each later
  ])
]

module _ (net : PlainNet) (cut : Cut) (moved : LocSet) where
  -- the links that are touched are all of these
  pub touched_cover : (links : List (ℕ × ℕ)) → links ≡ filter (λ (link : ℕ × ℕ). touches cut moved link.0 link.1) net.links → Covers net cut moved links
  touched_cover links are r z on touched =
      ap (list_any (joins z r)) are ∙ any_kept (joins z r) (λ (link : ℕ × ℕ). touches cut moved link.0 link.1) net.links each on
    where
      each : (link : ℕ × ℕ) → joins z r link ≡ true → touches cut moved link.0 link.1 ≡ true
      each link there = elim (joins_ends z r link there) [
        | inl ends ↦ ap₂ (touches cut moved) ends.0 ends.1 ∙ touch_turned cut moved z r ∙ touched
        | inr ends ↦ ap₂ (touches cut moved) ends.0 ends.1 ∙ touched
      ]

-- where nobody moves, the link that is cut is alone
pub alone_covers : (net : PlainNet) (a b : ℕ) (moved : LocSet) → ((l : ℕ) → holds moved l ≡ false) → (links : List (ℕ × ℕ)) → links ≡ (a, b) ∷ [] → Covers net (Link a b) moved links
alone_covers net a b moved none links are r z on touched =
    ap (list_any (joins z r)) are
    ∙ or_left (joins z r (a, b)) false (turned z r (a, b) ∙ sym (ap₂ (λ x y. (x || y) || joins r z (a, b)) (none r) (none z)) ∙ touched)
