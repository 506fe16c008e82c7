-- Nothing goes over a cut exactly where none of the steps does.
use Rattle.std.proofs.Common.{◌≡◌, ℕ, ◌<◌, Bool, true, false, List, ◌∷◌, ◌++◌, ◌⊎◌, length, map, filter, Option, Some, None, refl, sym, ap, ap₂, ◌∙◌, inl, inr, subst}
use Rattle.std.specs.Prelude.{◌&&◌, ◌==◌, is_some, not, slice_get}
use Rattle.std.specs.List.{flat_map, list_any}
use Rattle.std.specs.Option.{option_and_then}
use Rattle.std.proofs.lemmas.Bool.{and_from, and_parts, cases_Bool, eqb-true, false_from_ne_true, lt-ltb, not-true, not_from_false, or_from, true≢false}
use Rattle.list_law.specs.Members.{IsIn}
use Rattle.list_law.proofs.Members.{AllByRecursion-IsIn, IsIn-append_cases, IsIn-append_left, IsIn-append_right, IsIn-filter, IsIn-filter_parts, IsIn-flat_map}
use Rattle.list_law.proofs.Members.{IsIn-flat_map_parts, IsIn-map, IsIn-map_parts, IsIn-nil, list_any-from_IsIn, list_any_member}
use Rattle.list_law.proofs.Options.{is_some_from, is_some_parts, none_or_some, option_and_then_parts}
use Rattle.net_base.specs.Network.{PlainNet, IsLink, IsNet, is_peer, is_router, joins, linked}
use Rattle.net_base.specs.Prefixes.{PlainPrefix}
use Rattle.net_base.proofs.Links.{joins_ends}
use Rattle.net_base.proofs.RoutersAndPeers.{peer_no_router}
use Rattle.policy_base.specs.Policies.{PlainPolicy}
use Rattle.policy_base.specs.Walks.{is_loop_free}
use Rattle.config_base.specs.declared.route.Route.{Route}
use Rattle.config_base.specs.Configs.{PlainConfig}
use Rattle.evidence_law.proofs.Hops.{begins, offer_parts}
use Rattle.outcome_base.specs.Outcomes.{Failures, Outcome, is_dead, is_dead_link, offered, route_at}
use Rattle.outcome_law.proofs.Packets.{packets_follow_paths}
use Rattle.settled_law.specs.Settled.{IsFullyStable}
use Rattle.impact_law.specs.Cuts.{is_cut}
use Rattle.impact_law.specs.declared.impact.Cut.{Cut}
use Rattle.impact_law.specs.declared.impact.Cut.TheVariants.{Link, Router}
use Rattle.drain_report.specs.Uses.{IsUnused, goes_over}
use Rattle.drain_report.proofs.Cutting.{cuts_off, more_off, step_off}
use Rattle.drain_report.proofs.Freeing.{offer_begins}
use Rattle.drain_report.proofs.Keeping.{none_outside}
use Rattle.drain_report.specs.Steps.{held_steps, offer_step, steps_of}
use Rattle.drain_report.proofs.Walking.{begins_apart, between, over, path_over}

-- a link, or a router, of the network
abbrev pub IsKnown : PlainNet → Cut → Type 0
IsKnown net (Link a b) = linked net a b ≡ true
IsKnown net (Router x) = is_router net x ≡ true

-- where nothing that a test accepts is listed
none_of : {A : Type 0} (test : A → Bool) (xs : List A) (x : A) → list_any test xs ≡ false → IsIn xs x → test x ≡ false
none_of test xs x none at = false_from_ne_true (test x) (λ h. true≢false (sym (list_any-from_IsIn test xs x at h) ∙ none))

module _ (net : PlainNet) (policy : PlainPolicy) (config : PlainConfig) (f : Failures) (p : PlainPrefix) (rules : IsNet net) (outcome : Outcome)
    (size : length outcome ≡ length net.routers) (settled : IsFullyStable net policy config f p outcome) where
  abbrev offers_over : ℕ × ℕ → Bool
  offers_over link = is_some (offered net policy config f p outcome link.0 link.1)

  abbrev pub steps : List (ℕ × ℕ)
  steps = flat_map held_steps outcome ++ map offer_step (filter offers_over net.links)

  -- ---- the steps are those of routes, and those from peers to who offers them something

  router_of : (r : ℕ) (h : Route) → route_at outcome r ≡ Some h → is_router net r ≡ true
  router_of r h at = elim (cases_Bool (is_router net r)) [
    | inl router ↦ router
    | inr other ↦ absurd (none_or_some (route_at outcome r) h (none_outside net outcome r size other) at)
  ]

  route_step : (r : ℕ) (h : Route) (e : ℕ × ℕ) → route_at outcome r ≡ Some h → IsIn (steps_of h.path) e → IsIn steps e
  route_step r h e at in_path =
      let x = option_and_then_parts (λ (o : Option Route). o) (slice_get outcome r) h at in
      IsIn-append_left (flat_map held_steps outcome) (map offer_step (filter offers_over net.links)) e
      (IsIn-flat_map held_steps outcome (Some h) e (r, x.1 ∙ ap Some x.2) in_path)

  session_link : (r peer : ℕ) → is_peer net peer ≡ true → linked net r peer ≡ true → IsIn net.links (r, peer)
  session_link r peer off on =
      let x = list_any_member (joins r peer) net.links on in
      elim (joins_ends r peer x.0 x.2) [
        | inl same ↦ (let is : x.0 ≡ (r, peer) = ap₂ (λ (a b : ℕ). (a, b)) same.0 same.1 in subst (IsIn net.links) is x.1)
        | inr other ↦
            let low = (AllByRecursion-IsIn (IsLink net) net.links x.0 rules.links x.1).2 in
            absurd (true≢false (sym (lt-ltb peer (length net.routers) (subst (λ (l : ℕ). l < length net.routers) other.0 low)) ∙ peer_no_router net peer off))
      ]

  offer_step_in : (r peer : ℕ) (path : List ℕ) → offered net policy config f p outcome r peer ≡ Some path → IsIn steps (peer, r)
  offer_step_in r peer path at =
      let x = offer_parts net policy config f p outcome rules r peer path at in
      let joined = (and_parts (linked net r peer) (not (is_dead_link f r peer)) (and_parts (linked net r peer && not (is_dead_link f r peer)) (not (is_dead f r))
      (and_parts (linked net r peer && not (is_dead_link f r peer) && not (is_dead f r)) (not (is_dead f peer)) x.live).0).0).0 in
      IsIn-append_right (flat_map held_steps outcome) (map offer_step (filter offers_over net.links)) (peer, r)
      (IsIn-map offer_step (filter offers_over net.links) (r, peer)
      (IsIn-filter offers_over net.links (r, peer) (session_link r peer x.peer_there joined) (is_some_from (offered net policy config f p outcome r peer) path at)))

  -- of a route, or of an offer
  abbrev Parts : ℕ × ℕ → Type 0
  Parts e =
      ((r : ℕ) × (h : Route) × (route_at outcome r ≡ Some h) × IsIn (steps_of h.path) e)
      ⊎ ((r : ℕ) × (peer : ℕ) × (path : List ℕ) × (offered net policy config f p outcome r peer ≡ Some path) × ((peer, r) ≡ e))

  held_part : (o : Option Route) (e : ℕ × ℕ) → IsIn outcome o → IsIn (held_steps o) e → Parts e
  held_part None e at in_path = absurd (IsIn-nil e in_path)
  held_part (Some h) e at in_path = inl (at.0, h, ap (option_and_then (λ (o : Option Route). o)) at.1, in_path)

  parts : (e : ℕ × ℕ) → IsIn steps e → Parts e
  parts e at = elim (IsIn-append_cases (flat_map held_steps outcome) (map offer_step (filter offers_over net.links)) e at) [
    | inl held ↦ (let x = IsIn-flat_map_parts held_steps outcome e held in held_part x.0 e x.1 x.2)
    | inr offer ↦
        let x = IsIn-map_parts offer_step (filter offers_over net.links) e offer in
        let y = IsIn-filter_parts offers_over net.links x.0 x.1 in
        let path = is_some_parts (offered net policy config f p outcome x.0.0 x.0.1) y.1 in
        inr (x.0.0, x.0.1, path.0, path.1, x.2)
  ]

  -- ---- where nothing goes over the cut no step does

  module _ (cut : Cut) (unused : IsUnused net policy config f p outcome cut) where
    not_of_route : (r : ℕ) (h : Route) (e : ℕ × ℕ) → route_at outcome r ≡ Some h → IsIn (steps_of h.path) e → over cut e ≡ true → ⊥
    not_of_route r h e at in_path on =
        let router = router_of r h at in
        let y = begins net policy config f p outcome rules settled.stable r h router at in
        let here : IsIn (steps_of (r ∷ y.0)) e = subst (λ (q : List ℕ). IsIn (steps_of q) e) y.1 in_path in
        elim (cases_Bool (is_cut cut r)) [
          | inl mine ↦
              let way = packets_follow_paths net policy config rules p f outcome size settled.stable r h router at in
              begins_apart cut r y.0 e mine (subst (λ (q : List ℕ). is_loop_free q ≡ true) y.1 way.free) here on
          | inr other ↦
              let clear = unused.routes r h (and_from (is_router net r) (not (is_cut cut r)) router (not_from_false _ other)) at in
              let off : list_any (over cut) (steps_of (r ∷ y.0)) ≡ false = sym (path_over cut r y.0 other) ∙ subst (λ (q : List ℕ). goes_over cut q ≡ false) y.1 clear in
              true≢false (sym (list_any-from_IsIn (over cut) (steps_of (r ∷ y.0)) e here on) ∙ off)
        ]

    not_of_offer : (r peer : ℕ) (path : List ℕ) → offered net policy config f p outcome r peer ≡ Some path → over cut (peer, r) ≡ true → ⊥
    not_of_offer r peer path at on =
        let x = offer_begins net policy config f p rules cut outcome size settled r peer path at in
        let off = step_off cut peer r x.0 (subst (λ (q : List ℕ). goes_over cut q ≡ false) x.1 (unused.offers r peer path at)) in
        true≢false (sym (between cut peer r on) ∙ off)

    not_over : (e : ℕ × ℕ) → Parts e → over cut e ≡ true → ⊥
    not_over e (inl x) on = not_of_route x.0 x.1 e x.2 x.3 on
    not_over e (inr x) on = not_of_offer x.0 x.1 x.2 x.3 (ap (over cut) x.4 ∙ on)

    pub no_step : list_any (over cut) steps ≡ false
    no_step = false_from_ne_true (list_any (over cut) steps) (λ h. (let x = list_any_member (over cut) steps h in not_over x.0 (parts x.0 x.1) x.2))

  -- ---- where no step goes over the cut nothing does

  apart_ends : (cut : Cut) (r peer : ℕ) → IsKnown net cut → is_peer net peer ≡ true → over cut (peer, r) ≡ false → cuts_off cut peer r ≡ false
  apart_ends (Link a b) r peer known off none = none
  apart_ends (Router x) r peer known off none =
      or_from (x == peer) (x == r) (false_from_ne_true (x == peer) (λ same. true≢false (sym known ∙ ap (is_router net) (eqb-true x peer same) ∙ peer_no_router net peer off))) none

  end_apart : (cut : Cut) (l r : ℕ) → over cut (l, r) ≡ false → is_cut cut r ≡ false
  end_apart (Link a b) l r none = refl
  end_apart (Router x) l r none = none

  module _ (cut : Cut) (known : IsKnown net cut) (none : list_any (over cut) steps ≡ false) where
    route_off : (r : ℕ) (h : Route) → is_router net r ≡ true → is_cut cut r ≡ false → route_at outcome r ≡ Some h → goes_over cut h.path ≡ false
    route_off r h router other at =
        let y = begins net policy config f p outcome rules settled.stable r h router at in
        let off : list_any (over cut) (steps_of h.path) ≡ false = false_from_ne_true (list_any (over cut) (steps_of h.path)) (λ on.
        (let x = list_any_member (over cut) (steps_of h.path) on in true≢false (sym (list_any-from_IsIn (over cut) steps x.0 (route_step r h x.0 at x.1) x.2) ∙ none))) in
        subst (λ (q : List ℕ). goes_over cut q ≡ false) (sym y.1) (path_over cut r y.0 other ∙ subst (λ (q : List ℕ). list_any (over cut) (steps_of q) ≡ false) y.1 off)

    offer_off : (r peer : ℕ) (path : List ℕ) → offered net policy config f p outcome r peer ≡ Some path → goes_over cut path ≡ false
    offer_off r peer path at =
        let x = offer_parts net policy config f p outcome rules r peer path at in
        let y = begins net policy config f p outcome rules settled.stable r x.route x.router x.held in
        let off = none_of (over cut) steps (peer, r) none (offer_step_in r peer path at) in
        let clear = subst (λ (q : List ℕ). goes_over cut q ≡ false) y.1 (route_off r x.route x.router (end_apart cut peer r off) x.held) in
        subst (λ (q : List ℕ). goes_over cut q ≡ false) (sym (x.is ∙ ap (λ (q : List ℕ). peer ∷ q) y.1)) (more_off cut peer r y.0 (apart_ends cut r peer known x.peer_there off) clear)

    pub no_use : IsUnused net policy config f p outcome cut
    no_use = record {
      routes = λ r h other at. (let who = and_parts (is_router net r) (not (is_cut cut r)) other in route_off r h who.0 (not-true (is_cut cut r) who.1) at);
      offers = offer_off;
    }
