-- What a peer is offered by the graph of a prefix's case is what the configuration offers it.
use Rattle.std.proofs.Common.{◌≡◌, ℕ, suc, true, List, Option, Some, None, refl, sym, ap, ◌∙◌, inl, inr, subst}
use Rattle.std.specs.Prelude.{◌&&◌, filter, is_some, not}
use Rattle.std.specs.List.{list_any}
use Rattle.std.specs.Option.{option_and_then}
use Rattle.std.proofs.lemmas.Bool.{and_from, and_parts, cases_Bool, true≢false}
use Rattle.list_law.proofs.Members.{IsIn-filter, IsIn-filter_parts, IsIn-map, IsIn-map_parts, list_any-from_IsIn, list_any_member}
use Rattle.list_law.proofs.Options.{cases_Option, is_some_from}
use Rattle.net_base.specs.declared.numbers.Tag.{Tag}
use Rattle.net_base.specs.Network.{PlainNet, IsNet, is_peer, is_router, joins}
use Rattle.net_base.specs.Prefixes.{PlainPrefix, IsPrefix}
use Rattle.net_base.specs.Sets.{holds}
use Rattle.net_base.proofs.Links.{joins_ends, joins_straight}
use Rattle.net_base.proofs.RoutersAndPeers.{router_no_peer}
use Rattle.policy_base.specs.Policies.{PlainPolicy, PlainStatement, IsPolicyOf}
use Rattle.graph_base.specs.Runs.{has_step, is_listener, is_start, place_of, step_at}
use Rattle.graph_base.proofs.StartsAndSteps.{in_step, step_at-is, step_in, step_nodes}
use Rattle.graph_base.proofs.WellFormed.{heard_at_peers, step_at-of}
use Rattle.config_base.specs.declared.route.Route.{Route}
use Rattle.config_base.specs.Configs.{PlainConfig}
use Rattle.config_base.specs.Lines.{class_of, export_of}
use Rattle.config_base.proofs.SameTags.{same_tag-is, is-same_tag}
use Rattle.evidence_base.specs.Made.{PlainCaseEvidence, case_at, number_at, tag_at}
use Rattle.evidence_law.specs.Passes.{IsCaseGraph, Passes}
use Rattle.evidence_law.proofs.ClassLines.{exports, exports_only}
use Rattle.evidence_law.proofs.Heard.{sent-permitted, sent-refused, sent-unrouted}
use Rattle.evidence_law.proofs.MadeCases.{HasCase, case_or_bare}
use Rattle.evidence_law.proofs.Setting.{graph_of, pair_of, tag_of}
use Rattle.outcome_base.specs.Outcomes.{Failures, Outcome, is_live, offered, route_at}
use Rattle.routing_law.specs.Spells.{StepOver}
use Rattle.scenarios.specs.Tests.{unlooped}
use Rattle.outcome_claims.specs.Offers.{has_tag, is_told, offered_by, told_pairs}

module _ (net : PlainNet) (policy : PlainPolicy) (config : PlainConfig) (cs : List PlainCaseEvidence) (rules : IsNet net)
    (kept : IsPolicyOf net policy) (passes : Passes net policy config cs) (p : PlainPrefix) (prefix : IsPrefix p) (outcome : Outcome) where
  abbrev case_found : Option PlainCaseEvidence
  case_found = option_and_then (case_at cs) (class_of config p)

  module _ (s : PlainStatement) (c : HasCase net policy config cs p s) where
    abbrev on : IsCaseGraph net s c.d
    on = passes.made.graphs c.k c.d s c.at c.is.number

    abbrev Over : ℕ → ℕ → ℕ → ℕ → Type 0
    Over u v n m = StepOver (graph_of c.d.graph (number_at c.d)) u v n m

    abbrev ends : ℕ × ℕ → ℕ × ℕ
    ends e = (place_of c.d.graph e.0, place_of c.d.graph e.1)

    -- ---- where a step leads on, a line permits the route

    -- the second end is that of a node that hears, so it is the peer
    in_order : (e : ℕ × ℕ) (r peer : ℕ) → has_step c.d.graph e.0 e.1 ≡ true → is_listener c.d.graph e.1 ≡ true → is_router net r ≡ true → joins r peer (ends e) ≡ true
        → (place_of c.d.graph e.0 ≡ r) × (place_of c.d.graph e.1 ≡ peer)
    in_order e r peer step hears router joined = elim (joins_ends r peer (ends e) joined) [
      | inl same ↦ same
      | inr turned ↦ (
          let node = (step_nodes c.d.graph e.0 e.1 on.graph step).1 in
          let there = (and_parts (is_peer net (place_of c.d.graph e.1)) (not (is_start c.d.graph e.1)) (sym (on.faithful.formed.listeners e.1 node) ∙ hears)).0 in
          absurd (true≢false (sym there ∙ ap (is_peer net) turned.1 ∙ router_no_peer net r router)))
    ]

    held_tag : (r l : ℕ) (h : Route) (tag : Tag) → route_at outcome r ≡ Some h → l ≡ r → has_tag (route_at outcome l) tag ≡ true → tag ≡ h.tag
    held_tag r l h tag held same has = sym (same_tag-is h.tag tag (sym (ap (λ o. has_tag o tag) (ap (route_at outcome) same ∙ held)) ∙ has))

    permitted : (r peer : ℕ) (h : Route) → is_router net r ≡ true → route_at outcome r ≡ Some h
        → list_any (joins r peer) (told_pairs outcome (Some c.d)) ≡ true → is_some (export_of net config (suc c.k) r peer h.tag) ≡ true
    permitted r peer h router held told =
        let pair = list_any_member (joins r peer) (told_pairs outcome (Some c.d)) told in
        let from = IsIn-map_parts ends (filter (is_told c.d outcome) c.d.graph.steps) pair.0 pair.1 in
        let e = from.0 in
        let kept_step = IsIn-filter_parts (is_told c.d outcome) c.d.graph.steps e from.1 in
        let parts = and_parts (is_listener c.d.graph e.1) (has_tag (route_at outcome (place_of c.d.graph e.0)) (tag_at c.d e.0)) kept_step.1 in
        let step = in_step c.d.graph e.0 e.1 kept_step.0 in
        let order = in_order e r peer step parts.0 router (ap (joins r peer) from.2 ∙ pair.2) in
        let over : Over r peer e.0 e.1 = record {
          node = (step_nodes c.d.graph e.0 e.1 on.graph step).0;
          place = order.0;
          step = ap (step_at c.d.graph e.0) (sym order.1) ∙ step_at-of net (holds c.d.case.origins) c.d.case.external c.d.graph on.faithful.formed e.0 e.1 step;
        } in
        let line = exports net policy cs config p rules passes.made.lines passes.made.tags c.k c.d c.at c.of_class on.graph
        (holds c.d.case.origins) c.d.case.external on.faithful.formed r peer e.0 e.1 router over in
        subst (λ (t : Tag). is_some (export_of net config (suc c.k) r peer t) ≡ true) (held_tag r (place_of c.d.graph e.0) h (tag_at c.d e.0) held order.0 parts.1) line

    -- ---- and where a line permits it, a step leads on

    told_over : (r peer : ℕ) (h : Route) → is_router net r ≡ true → is_peer net peer ≡ true → route_at outcome r ≡ Some h
        → is_some (export_of net config (suc c.k) r peer h.tag) ≡ true → list_any (joins r peer) (told_pairs outcome (Some c.d)) ≡ true
    told_over r peer h router at_peer held line =
        let by = exports_only net policy cs config p rules passes.made.lines passes.made.tags c.k c.d c.at c.of_class on.graph
        (holds c.d.case.origins) c.d.case.external on.faithful.formed r peer (pair_of h.tag) router line in
        let n = by.0 in
        let m = by.1 in
        let is = step_at-is c.d.graph n peer m by.2.step in
        let hears = heard_at_peers net (holds c.d.case.origins) c.d.case.external c.d.graph on.graph on.faithful.formed n m is.0 (ap (is_peer net) is.1 ∙ at_peer) in
        let tag : has_tag (route_at outcome (place_of c.d.graph n)) (tag_at c.d n) ≡ true =
        ap (λ o. has_tag o (tag_at c.d n)) (ap (route_at outcome) by.2.place ∙ held) ∙ is-same_tag h.tag (tag_at c.d n) (sym (ap tag_of by.3)) in
        let told = IsIn-filter (is_told c.d outcome) c.d.graph.steps (n, m) (step_in c.d.graph n m is.0)
        (and_from (is_listener c.d.graph m) (has_tag (route_at outcome (place_of c.d.graph n)) (tag_at c.d n)) hears tag) in
        list_any-from_IsIn (joins r peer) (told_pairs outcome (Some c.d)) (place_of c.d.graph n, place_of c.d.graph m)
        (IsIn-map ends (filter (is_told c.d outcome) c.d.graph.steps) (n, m) told)
        (joins_straight r peer (place_of c.d.graph n, place_of c.d.graph m) by.2.place is.1)

    found : case_found ≡ Some c.d
    found = ap (option_and_then (case_at cs)) c.of_class ∙ c.at

    module _ (f : Failures) (r peer : ℕ) (h : Route) (session : (is_live net f r peer && is_router net r && is_peer net peer) ≡ true)
        (router : is_router net r ≡ true) (at_peer : is_peer net peer ≡ true) (held : route_at outcome r ≡ Some h) where
      routed : offered_by net f outcome case_found r peer ≡ offered net policy config f p outcome r peer
      routed = elim (cases_Option (export_of net config (suc c.k) r peer h.tag)) [
        | inr tag ↦ (
            let told = told_over r peer h router at_peer held (is_some_from (export_of net config (suc c.k) r peer h.tag) tag.0 tag.1) in
            let out = sent-permitted net policy config f p outcome (suc c.k) rules c.of_class r peer h tag.0 (router_no_peer net r router) held tag.1 in
            let here : offered_by net f outcome case_found r peer ≡ unlooped peer h.path = rw (found, session, told, held) refl in
            let there : offered net policy config f p outcome r peer ≡ unlooped peer h.path = rw (session, out) refl in
            here ∙ sym there)
        | inl none ↦ (
            let out = sent-refused net policy config f p outcome (suc c.k) rules c.of_class r peer h (router_no_peer net r router) held none in
            let there : offered net policy config f p outcome r peer ≡ None = rw (session, out) refl in
            elim (cases_Bool (list_any (joins r peer) (told_pairs outcome (Some c.d)))) [
              | inl told ↦ absurd (true≢false (sym (permitted r peer h router held told) ∙ ap is_some none))
              | inr untold ↦ (let here : offered_by net f outcome case_found r peer ≡ None = rw (found, session, untold) refl in here ∙ sym there)
            ])
      ]

  module _ (f : Failures) (r peer : ℕ) (session : (is_live net f r peer && is_router net r && is_peer net peer) ≡ true) (router : is_router net r ≡ true) where
    -- who holds no route offers none
    unrouted : route_at outcome r ≡ None → offered_by net f outcome case_found r peer ≡ offered net policy config f p outcome r peer
    unrouted none = elim (cases_Bool (list_any (joins r peer) (told_pairs outcome case_found))) [
      | inl told ↦ (let here : offered_by net f outcome case_found r peer ≡ None = rw (session, told, none) refl in here ∙ sym there)
      | inr untold ↦ (let here : offered_by net f outcome case_found r peer ≡ None = rw (session, untold) refl in here ∙ sym there)
    ]
      where
        there : offered net policy config f p outcome r peer ≡ None
        there = elim (cases_Option (class_of config p)) [
          | inl free ↦ rw (session, free, router_no_peer net r router) refl
          | inr class ↦ rw (session, sent-unrouted net policy config f p outcome class.0 rules class.1 r peer (router_no_peer net r router) none) refl
        ]

    -- and so where the prefix has no class
    bare : class_of config p ≡ None → offered_by net f outcome case_found r peer ≡ offered net policy config f p outcome r peer
    bare free =
        let here : offered_by net f outcome case_found r peer ≡ None = rw (session, free) refl in
        let there : offered net policy config f p outcome r peer ≡ None = rw (session, free, router_no_peer net r router) refl in
        here ∙ sym there

  pub offers_are : (f : Failures) (r peer : ℕ) → offered_by net f outcome case_found r peer ≡ offered net policy config f p outcome r peer
  offers_are f r peer = elim (cases_Bool (is_live net f r peer && is_router net r && is_peer net peer)) [
    | inr off ↦ (
        let here : offered_by net f outcome case_found r peer ≡ None = rw off refl in
        let there : offered net policy config f p outcome r peer ≡ None = rw off refl in
        here ∙ sym there)
    | inl session ↦ (
        let ends = and_parts (is_live net f r peer && is_router net r) (is_peer net peer) session in
        let router = (and_parts (is_live net f r peer) (is_router net r) ends.0).1 in
        elim (case_or_bare net policy config cs rules kept passes.made p prefix) [
          | inr free ↦ bare f r peer session router free
          | inl c ↦ elim (cases_Option (route_at outcome r)) [
            | inl none ↦ unrouted f r peer session router none
            | inr h ↦ routed c.0 c.2 f r peer h.0 session router ends.1 h.1
          ]
        ])
  ]
