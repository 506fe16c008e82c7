-- A stable outcome of a configuration is one of the lines of a class, and what peers are offered is the same.
use Rattle.std.proofs.Common.{◌≡◌, ℕ, ◌≤◌, Bool, true, false, List, ◌∷◌, Some, None, refl, sym, ap, ◌∙◌, subst, inl, inr}
use Rattle.std.specs.Prelude.{◌&&◌, not, if◌then◌else◌, option_map}
use Rattle.std.proofs.lemmas.Bool.{and_parts, and_from, cases_Bool, not-false}
use Rattle.list_law.proofs.Options.{cases_Option, option_map_parts}
use Rattle.net_base.specs.declared.numbers.Tag.{Tag}
use Rattle.net_base.specs.Network.{PlainNet, IsNet, is_peer, is_router}
use Rattle.net_base.specs.Prefixes.{PlainPrefix}
use Rattle.policy_base.specs.Policies.{PlainPolicy}
use Rattle.policy_base.specs.Governing.{is_origin}
use Rattle.config_base.specs.declared.route.Route.{Route}
use Rattle.config_base.specs.Configs.{PlainConfig}
use Rattle.config_base.specs.Lines.{class_of, export_of}
use Rattle.outcome_base.specs.Outcomes.{Failures, Outcome, is_dead, is_live, route_at, sent, given, offered, IsStable}
use Rattle.evidence_law.proofs.Setting.{network_of, alive_of, lines_of, lines_at, line_of}
use Rattle.net_base.proofs.RoutersAndPeers.{router_no_peer}
use Rattle.evidence_law.proofs.Heard.{given-heard, sent-unrouted, sent-refused, sent-permitted}
use Rattle.routing_law.specs.Network as law
use Rattle.routing_law.specs.Lines as line

module _ (net : PlainNet) (policy : PlainPolicy) (config : PlainConfig) (f : Failures) (p : PlainPrefix) (outcome : Outcome) (class : ℕ)
    (rules : IsNet net) (of_class : class_of config p ≡ Some class) where
  abbrev pub Origin : ℕ → Bool
  Origin = is_origin net policy p

  -- who chooses there chooses here
  pub choosing : (v : ℕ) → law.chooses (network_of net Origin) (alive_of net f) v ≡ true → (is_router net v ≡ true) × ((is_router net v && not (Origin v) && not (is_dead f v)) ≡ true)
  choosing v h =
      let parts = and_parts (is_router net v) (not (is_dead f v) && not (Origin v)) h in
      let rest = and_parts (not (is_dead f v)) (not (Origin v)) parts.1 in
      (parts.0, and_from (is_router net v && not (Origin v)) (not (is_dead f v)) (and_from (is_router net v) (not (Origin v)) parts.0 rest.1) rest.0)

  pub stable_lines : IsStable net policy config f p outcome → line.LinesStable (network_of net Origin) (alive_of net f) (lines_of net config p class) (lines_at outcome)
  stable_lines stable = record {
    dead = λ v router down. ap (option_map line_of) (stable.dead v (not-false (is_dead f v) down));
    own = λ v router origin lives. ap (option_map line_of) (stable.own v (and_from (is_router net v && Origin v) (not (is_dead f v)) (and_from (is_router net v) (Origin v) router origin) lives));
    given = λ v x chooses has.
        let who = choosing v chooses in
        let h = option_map_parts line_of (route_at outcome v) x has in
        let by = (stable.chooses v who.1).given_by h.0 h.1 in
        (by.0, sym (given-heard net policy config f p outcome class rules of_class by.0 v who.0) ∙ ap (option_map line_of) by.1 ∙ ap Some h.2);
    best = λ v u y chooses heard.
        let who = choosing v chooses in
        let g = option_map_parts line_of (given net policy config f p outcome u v) y (given-heard net policy config f p outcome class rules of_class u v who.0 ∙ heard) in
        let b = (stable.chooses v who.1).best u g.0 g.1 in
        (line_of b.0, ap (option_map line_of) b.1, subst (λ (z : line.LineRoute). z.pref ≤ b.0.pref) g.2 b.2);
  }

  module _ (u peer : ℕ) (live : is_live net f u peer ≡ true) (router : is_router net u ≡ true) (at_peer : is_peer net peer ≡ true) where
    off : is_peer net u ≡ false
    off = router_no_peer net u router

    -- towards a peer the route's path is what counts
    offer_unsent : sent net policy config f p outcome u peer ≡ None → offered net policy config f p outcome u peer ≡ None
    offer_unsent s = rw (s, live, router, at_peer) refl

    offer_sent : (path : List ℕ) (t : Tag) → sent net policy config f p outcome u peer ≡ Some (path, t)
        → offered net policy config f p outcome u peer ≡ (if law.stands_on peer path then None else Some (peer ∷ path))
    offer_sent path t s = rw (s, live, router, at_peer) refl

    law_unrouted : route_at outcome u ≡ None → line.offered (alive_of net f) (lines_of net config p class) (lines_at outcome) u peer ≡ None
    law_unrouted r = rw (r, live, off) refl

    law_refused : (h : Route) → route_at outcome u ≡ Some h → export_of net config class u peer h.tag ≡ None
        → line.offered (alive_of net f) (lines_of net config p class) (lines_at outcome) u peer ≡ None
    law_refused h r e = rw (r, e, live, off) refl

    law_permitted : (h : Route) (t : Tag) → route_at outcome u ≡ Some h → export_of net config class u peer h.tag ≡ Some t
        → line.offered (alive_of net f) (lines_of net config p class) (lines_at outcome) u peer ≡ (if law.stands_on peer h.path then None else Some (peer ∷ h.path))
    law_permitted h t r e = rw (r, e, live, off) refl

    offered_live : offered net policy config f p outcome u peer ≡ line.offered (alive_of net f) (lines_of net config p class) (lines_at outcome) u peer
    offered_live = elim (cases_Option (route_at outcome u)) [
      | inl r ↦ offer_unsent (sent-unrouted net policy config f p outcome class rules of_class u peer off r) ∙ sym (law_unrouted r)
      | inr r ↦ elim (cases_Option (export_of net config class u peer r.0.tag)) [
        | inl e ↦ offer_unsent (sent-refused net policy config f p outcome class rules of_class u peer r.0 off r.1 e) ∙ sym (law_refused r.0 r.1 e)
        | inr e ↦ offer_sent r.0.path e.0 (sent-permitted net policy config f p outcome class rules of_class u peer r.0 e.0 off r.1 e.1) ∙ sym (law_permitted r.0 e.0 r.1 e.1)
      ]
    ]

  -- what a peer is offered is what the laws of routing say
  pub offered_lines : (u peer : ℕ) → is_router net u ≡ true → is_peer net peer ≡ true
      → offered net policy config f p outcome u peer ≡ line.offered (alive_of net f) (lines_of net config p class) (lines_at outcome) u peer
  offered_lines u peer router at_peer = elim (cases_Bool (is_live net f u peer)) [
    | inl t ↦ offered_live u peer t router at_peer
    | inr t ↦ rw (t) refl
  ]
