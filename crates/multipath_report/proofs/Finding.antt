-- The tests tell who is in a multipath set, and over which links packets go.
use Rattle.std.proofs.Common.{◌≡◌, ◌⊎◌, ℕ, true, false, List, Option, Some, None, length, refl, sym, ◌∙◌, inl, inr}
use Rattle.std.specs.Prelude.{◌↔◌, ◌&&◌, ◌||◌, ◌==◌, is_some, not}
use Rattle.std.proofs.lemmas.Bool.{and_from, and_parts, eq-eqb, eqb-true, lt-ltb, or_cases, or_left, or_right, true≢false}
use Rattle.list_law.specs.Members.{IsIn}
use Rattle.list_law.proofs.Members.{AllByRecursion-IsIn, IsIn-filter_parts}
use Rattle.list_law.proofs.Options.{is_some_from, is_some_parts}
use Rattle.net_base.specs.declared.loc.LocSet.{LocSet}
use Rattle.net_base.specs.Network.{IsLink, IsNet, PlainNet, is_router, linked}
use Rattle.net_base.specs.Prefixes.{PlainPrefix}
use Rattle.net_base.proofs.Links.{linked_flips}
use Rattle.net_base.proofs.RoutersAndPeers.{peer_no_router}
use Rattle.location_names.specs.Neighbours.{is_held}
use Rattle.policy_base.specs.Governing.{is_origin}
use Rattle.policy_base.specs.Policies.{PlainPolicy, policy_of}
use Rattle.config_base.specs.declared.route.Route.{Route}
use Rattle.config_base.specs.Configs.{PlainConfig}
use Rattle.outcome_base.specs.Outcomes.{Failures, Outcome, given, is_dead, is_dead_link, is_live, offered, route_at}
use Rattle.evidence_law.proofs.Hops.{given_parts, offer_parts}
use Rattle.scenarios.specs.Scenarios.{failures_of}
use Rattle.scenarios.specs.declared.situation.Situation.{Situation}
use Rattle.multipath_law.specs.Carried.{IsOffered, IsUsed, live_links}
use Rattle.multipath_law.specs.Multipath.{IsMember}
use Rattle.multipath_report.specs.Idle.{is_used_in, offered_over}
use Rattle.multipath_report.specs.Members.{is_member, is_tied, member_in, ties}

tied_parts : (held given : Option Route) → is_tied held given ≡ true → (h : Route) × (held ≡ Some h) × (g : Route) × (given ≡ Some g) × (ties g h ≡ true)
tied_parts (Some h) (Some g) on = (h, refl, g, refl, on)
tied_parts (Some h) None on = absurd (true≢false (sym on))
tied_parts None given on = absurd (true≢false (sym on))

tied_from : (held given : Option Route) (h g : Route) → held ≡ Some h → given ≡ Some g → ties g h ≡ true → is_tied held given ≡ true
tied_from held given h g holds gives on = (λ i. is_tied (holds i) (gives i)) ∙ on

live_linked : (net : PlainNet) (f : Failures) (a b : ℕ) → is_live net f a b ≡ true → linked net a b ≡ true
live_linked net f a b on =
    (and_parts (linked net a b) (not (is_dead_link f a b)) (and_parts (linked net a b && not (is_dead_link f a b)) (not (is_dead f a))
    (and_parts (linked net a b && not (is_dead_link f a b) && not (is_dead f a)) (not (is_dead f b)) on).0).0).0

module _ (net : PlainNet) (policy : PlainPolicy) (config : PlainConfig) (f : Failures) (p : PlainPrefix) (outcome : Outcome) where
  pub member_from : (r z : ℕ) → is_member net policy config f p outcome r z ≡ true → IsMember net policy config f p outcome r z
  member_from r z on =
      let parts = and_parts (is_router net r && not (is_origin net policy p r)) (is_tied (route_at outcome r) (given net policy config f p outcome z r)) on in
      let x = tied_parts (route_at outcome r) (given net policy config f p outcome z r) parts.1 in
      let h = x.0 in
      let g = x.2 in
      let both = and_parts (g.pref == h.pref) (length g.path == length h.path) x.4 in
      record {
        tied = record { at_router = parts.0; own = h; held = x.1; route = g; gives = x.3; pref = eqb-true g.pref h.pref both.0 };
        numbers = eqb-true (length g.path) (length h.path) both.1;
      }

  pub member_to : (r z : ℕ) → IsMember net policy config f p outcome r z → is_member net policy config f p outcome r z ≡ true
  member_to r z m =
      let t = m.tied in
      let tie = and_from (t.route.pref == t.own.pref) (length t.route.path == length t.own.path) (eq-eqb t.route.pref t.own.pref t.pref)
      (eq-eqb (length t.route.path) (length t.own.path) m.numbers) in
      and_from (is_router net r && not (is_origin net policy p r)) (is_tied (route_at outcome r) (given net policy config f p outcome z r)) t.at_router
      (tied_from (route_at outcome r) (given net policy config f p outcome z r) t.own t.route t.held t.gives tie)

  -- members are neighbours
  pub member_linked : IsNet net → (r z : ℕ) → IsMember net policy config f p outcome r z → linked net r z ≡ true
  member_linked rules r z m =
      let live = (given_parts net policy config f p outcome rules z r m.tied.route m.tied.gives).live in
      linked_flips net r z ∙ live_linked net f z r live

module _ (s : Situation) (rules : IsNet s.net.now) where
  abbrev net : PlainNet
  net = s.net.now

  abbrev policy : PlainPolicy
  policy = policy_of s.policy.now

  abbrev config : PlainConfig
  config = s.config.now

  abbrev f : Failures
  f = failures_of s.scenario.now

  abbrev p : PlainPrefix
  p = s.scenario.now.prefix

  abbrev outcome : Outcome
  outcome = s.outcome.now.routes

  module _ (sets : List LocSet) (are : (r z : ℕ) → is_held sets r z ≡ (linked net r z && member_in s r z)) where
    pub members : (r z : ℕ) → (is_held sets r z ≡ true) ↔ IsMember net policy config f p outcome r z
    members r z = (
      λ on. member_from net policy config f p outcome r z (and_parts (linked net r z) (member_in s r z) (sym (are r z) ∙ on)).1,
      λ m. are r z ∙ and_from (linked net r z) (member_in s r z) (member_linked net policy config f p outcome rules r z m) (member_to net policy config f p outcome r z m),
    )

    used_from : (link : ℕ × ℕ) → is_used_in s sets link ≡ true → IsUsed net policy config f p outcome link.0 link.1
    used_from link on = elim (or_cases (is_held sets link.0 link.1 || is_held sets link.1 link.0) (offered_over s link) on) [
      | inr offer ↦ inr (inl (is_some_parts (offered net policy config f p outcome link.0 link.1) offer))
      | inl near ↦ elim (or_cases (is_held sets link.0 link.1) (is_held sets link.1 link.0) near) [
        | inl forth ↦ inl (inl ((members link.0 link.1).0 forth))
        | inr back ↦ inl (inr ((members link.1 link.0).0 back))
      ]
    ]

    used_to : (link : ℕ × ℕ) → is_router net link.0 ≡ true → IsUsed net policy config f p outcome link.0 link.1 → is_used_in s sets link ≡ true
    used_to link router (inl (inl m)) =
        or_left (is_held sets link.0 link.1 || is_held sets link.1 link.0) (offered_over s link)
        (or_left (is_held sets link.0 link.1) (is_held sets link.1 link.0) ((members link.0 link.1).1 m))
    used_to link router (inl (inr m)) =
        or_left (is_held sets link.0 link.1 || is_held sets link.1 link.0) (offered_over s link)
        (or_right (is_held sets link.0 link.1) (is_held sets link.1 link.0) ((members link.1 link.0).1 m))
    used_to link router (inr (inl offer)) =
        or_right (is_held sets link.0 link.1 || is_held sets link.1 link.0) (offered_over s link)
        (is_some_from (offered net policy config f p outcome link.0 link.1) offer.0 offer.1)
    used_to link router (inr (inr offer)) =
        let x = offer_parts net policy config f p outcome rules link.1 link.0 offer.0 offer.1 in
        absurd (true≢false (sym router ∙ peer_no_router net link.0 x.peer_there))

    -- the first end of a link is a router
    pub used : (link : ℕ × ℕ) → IsIn (live_links net f) link → (is_used_in s sets link ≡ true) ↔ IsUsed net policy config f p outcome link.0 link.1
    used link lives =
        let at = (IsIn-filter_parts (λ (l : ℕ × ℕ). is_live net f l.0 l.1) net.links link lives).0 in
        let low = (AllByRecursion-IsIn (IsLink net) net.links link rules.links at).2 in
        (used_from link, used_to link (lt-ltb link.0 (length net.routers) low))
