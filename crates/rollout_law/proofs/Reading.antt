-- Parts that read the routes of one part as it does send and choose what it does.
use Rattle.std.proofs.Common.{◌≡◌, ℕ, Bool, true, false, [], ◌∷◌, Option, Some, None, refl, sym, ap, ◌∙◌, subst, inl, inr}
use Rattle.std.specs.Prelude.{option_map, ◌&&◌}
use Rattle.std.proofs.lemmas.Bool.{and_from, and_parts, cases_Bool, true≢false}
use Rattle.net_base.specs.declared.numbers.Tag.{Tag}
use Rattle.net_base.specs.Network.{PlainNet, is_router}
use Rattle.net_base.specs.Prefixes.{PlainPrefix}
use Rattle.net_base.specs.Locations.{neighbours}
use Rattle.net_base.proofs.RoutersAndPeers.{router_no_peer}
use Rattle.policy_base.specs.Governing.{is_origin}
use Rattle.config_base.specs.declared.route.Route.{Route}
use Rattle.config_base.specs.Lines.{own_route}
use Rattle.event_base.specs.Speaking.{chosen_by, exported_by, extended, first_of, message, taken_by}
use Rattle.event_law.specs.Kinds.{Held, IsKind}
use Rattle.rollout_base.specs.Lines.{GivesTag, ReadsAs, takes}
use Rattle.rollout_base.specs.Mixtures.{Mixture, Part, all_run, announced_if, mixed}
use Rattle.rollout_law.proofs.Speaking.{chosen_other, chosen_own, chosen_parts, exported_none, exported_some, sent_parts, sent_to_router, taken_none, taken_some}

module _ (net : PlainNet) (says : ℕ → Bool) (p : PlainPrefix) (x : Part) where
  abbrev pub Tagged : ℕ → Route → Type 0
  Tagged r h = GivesTag net p x r h.tag

  abbrev pub Sent : ℕ → ℕ → Route → Type 0
  Sent a b m = (is_router net a && is_router net b) ≡ true → GivesTag net p x a m.tag

  -- ---- its own tags are kept

  sent_tagged : (a b : ℕ) (m : Option Route) → is_router net a ≡ true → Held (Tagged a) m → Held (Sent a b) (exported_by net x.config p a b m)
  sent_tagged a b m router held y e = λ both.
      let s = sent_parts net x.config p a b m y e in
      let to = (and_parts (is_router net a) (is_router net b) both).1 in
      let tag : s.1 ≡ s.0.tag = sent_to_router net x.config p a b s.0.tag s.1 (router_no_peer net b to) s.3 in
      subst (GivesTag net p x a) (sym tag ∙ ap (λ (h : Route). h.tag) s.4) (held s.0 s.2)

  said_tagged : (a b : ℕ) → is_router net a ≡ false → Held (Sent a b) (announced_if says a)
  said_tagged a b off y e = λ both. absurd (true≢false (sym (and_parts (is_router net a) (is_router net b) both).0 ∙ off))

  chosen_tagged : (r : ℕ) (offer : ℕ → Option Route) → is_router net r ≡ true → ((u : ℕ) → Held (Sent u r) (offer u)) → Held (Tagged r) (chosen_by net x.policy x.config p r offer)
  chosen_tagged r offer router held y e = elim (cases_Bool (is_origin net x.policy p r)) [
    | inl origin ↦ (
        let is : Some (own_route net x.config p r) ≡ Some y = sym (chosen_own net x.policy x.config p r offer origin) ∙ e in
        let same : own_route net x.config p r ≡ y = cc in
        inl (origin, ap (λ (h : Route). h.tag) same))
    | inr other ↦ (
        let c = chosen_parts net x.policy x.config p r offer y other e in
        inr (c.0, c.1.path, c.1.tag, c.2.1, c.4 ∙ ap (λ (t : Tag). Some (t, c.2.1)) (ap (λ (h : Route). h.tag) c.5)))
  ]

  pub tagged : IsKind (mixed net says p (all_run x)) Tagged Sent
  tagged = record { exports = sent_tagged; announces = said_tagged; chooses = chosen_tagged }

  -- ---- parts that read as it does

  module _ (m : Mixture) (reads : (r : ℕ) → ReadsAs net p x r (m r)) where
    pub sends_alike : (a b : ℕ) (o : Option Route) → Held (Tagged a) o → exported_by net (m a).config p a b o ≡ exported_by net x.config p a b o
    sends_alike a b None held = exported_none net (m a).config p a b ∙ sym (exported_none net x.config p a b)
    sends_alike a b (Some h) held =
        exported_some net (m a).config p a b h ∙ ap (option_map (message h)) ((reads a).sent b h.tag (held h refl)) ∙ sym (exported_some net x.config p a b h)

    pub takes_alike : (r u : ℕ) (o : Option Route) → is_router net r ≡ true → Held (Sent u r) o → taken_by net (m r).config p r u o ≡ taken_by net x.config p r u o
    takes_alike r u None router held = taken_none net (m r).config p r u ∙ sym (taken_none net x.config p r u)
    takes_alike r u (Some g) router held =
        let same : takes net (m r).config p r u g.path g.tag ≡ takes net x.config p r u g.path g.tag = elim (cases_Bool (is_router net u)) [
          | inl from ↦ (reads r).taken u g.path g.tag from (held g refl (and_from (is_router net u) (is_router net r) from router))
          | inr off ↦ (reads r).heard u g.path g.tag off
        ] in
        taken_some net (m r).config p r u g ∙ ap (option_map (extended r g)) same ∙ sym (taken_some net x.config p r u g)

    pub chooses_alike : (r : ℕ) (offer : ℕ → Option Route) → is_router net r ≡ true → ((u : ℕ) → Held (Sent u r) (offer u))
        → chosen_by net (m r).policy (m r).config p r offer ≡ chosen_by net x.policy x.config p r offer
    chooses_alike r offer router held = elim (cases_Bool (is_origin net x.policy p r)) [
      | inl origin ↦
          chosen_own net (m r).policy (m r).config p r offer ((reads r).origin ∙ origin)
          ∙ ap (λ (t : Tag). Some (record { path = r ∷ []; tag = t; pref = 0 })) ((reads r).own origin) ∙ sym (chosen_own net x.policy x.config p r offer origin)
      | inr other ↦
          chosen_other net (m r).policy (m r).config p r offer ((reads r).origin ∙ other)
          ∙ ap (λ (gives : ℕ → Option Route). option_map (λ (y : ℕ × Route). y.1) (first_of net gives (neighbours net r))) (λ i u. takes_alike r u (offer u) router (held u) i)
          ∙ sym (chosen_other net x.policy x.config p r offer other)
    ]
