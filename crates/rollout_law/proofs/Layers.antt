-- Two layers of routes whose tags are apart stay two layers, whatever mixture of their lines routers run.
use Rattle.std.proofs.Common.{◌≡◌, ℕ, Bool, true, false, ◌⊎◌, List, [], ◌∷◌, Option, Some, sym, ap, ◌∙◌, subst, inl, inr}
use Rattle.std.proofs.lemmas.Bool.{cases_Bool, true≢false}
use Rattle.list_law.proofs.Options.{when_parts}
use Rattle.net_base.specs.declared.numbers.Tag.{Tag}
use Rattle.net_base.specs.Network.{PlainNet, is_peer, is_router}
use Rattle.net_base.specs.Numbers.{no_tag}
use Rattle.net_base.specs.Prefixes.{PlainPrefix}
use Rattle.policy_base.specs.Governing.{is_origin}
use Rattle.config_base.specs.declared.route.Route.{Route}
use Rattle.config_base.specs.Lines.{own_route, own_tag}
use Rattle.event_base.specs.Speaking.{chosen_by, exported_by, message}
use Rattle.event_law.specs.Kinds.{AreKinds, Held, IsKind}
use Rattle.rollout_base.specs.Lines.{AreApart, GivesTag, ReadsTag, SaysNoMore, sends, takes}
use Rattle.rollout_base.specs.Mixtures.{Change, Loaded, Mixture, Part, Running, after, announced_if, begins, mixed}
use Rattle.event_law.proofs.KindsKept.{opening-kinds}
use Rattle.rollout_law.proofs.Loads.{kinds_after}
use Rattle.rollout_law.proofs.Speaking.{chosen_own, chosen_parts, sent_parts}

-- a route with this path and tag
abbrev pub with_pref : List ℕ → Tag → ℕ → Route
with_pref path tag pref = record { path = path; tag = tag; pref = pref }

-- What the lines of a part keep: of routes of a kind at routers they send messages of a kind, and of these they make such routes. The
-- preference of a route is no matter. Such a route has a tag that the part gives.
pub record IsLayer (net : PlainNet) (p : PlainPrefix) (x : Part) (At : ℕ → Route → Type 0) (On : ℕ → ℕ → Route → Type 0) : Type 0 where
  pub sent : (a b : ℕ) (h : Route) (t : Tag) → is_router net a ≡ true → At a h → sends net x.config p a b h.tag ≡ Some t → On a b (message h t)
  pub taken : (r u : ℕ) (m : Route) (t : Tag) (n pref : ℕ) → is_router net r ≡ true → is_router net u ≡ true → On u r m → takes net x.config p r u m.path m.tag ≡ Some (t, n)
      → At r (with_pref (r ∷ m.path) t pref)
  pub heard : (r u : ℕ) (t : Tag) (n pref : ℕ) → is_router net r ≡ true → is_peer net u ≡ true → is_router net u ≡ false → takes net x.config p r u (u ∷ []) no_tag ≡ Some (t, n)
      → At r (with_pref (r ∷ u ∷ []) t pref)
  pub own : (r : ℕ) → is_origin net x.policy p r ≡ true → At r (with_pref (r ∷ []) (own_tag net x.config p r) 0)
  pub held_tag : (r : ℕ) (h : Route) → At r h → GivesTag net p x r h.tag
  pub sent_tag : (a b : ℕ) (m : Route) → On a b m → is_router net b ≡ true → GivesTag net p x a m.tag

module _ (net : PlainNet) (says : ℕ → Bool) (p : PlainPrefix) (x y : Part) (apart : AreApart net p x y)
    (peers : (a : ℕ) → says a ≡ true → is_peer net a ≡ true)
    (At1 At2 : ℕ → Route → Type 0) (On1 On2 : ℕ → ℕ → Route → Type 0) (one : IsLayer net p x At1 On1) (two : IsLayer net p y At2 On2) where
  abbrev pub Held_at : ℕ → Route → Type 0
  Held_at r h = At1 r h ⊎ At2 r h

  pub record OnTheWay (a b : ℕ) (m : Route) : Type 0 where
    pub router : is_router net a ≡ true → On1 a b m ⊎ On2 a b m
    pub peer : is_router net a ≡ false → (is_peer net a ≡ true) × (m.path ≡ a ∷ []) × (m.tag ≡ no_tag)

  -- what one gives the other doesn't read
  clash : (r : ℕ) (t : Tag) → is_router net r ≡ true → GivesTag net p x r t → ReadsTag net p y r t → ⊥
  clash r t router = apart.one r t router

  clash' : (r : ℕ) (t : Tag) → is_router net r ≡ true → GivesTag net p y r t → ReadsTag net p x r t → ⊥
  clash' r t router = apart.other r t router

  sent_on : (a b : ℕ) (h : Route) (t : Tag) → is_router net a ≡ true → Held_at a h → (sends net x.config p a b h.tag ≡ Some t) ⊎ (sends net y.config p a b h.tag ≡ Some t)
      → On1 a b (message h t) ⊎ On2 a b (message h t)
  sent_on a b h t router (inl k) (inl s) = inl (one.sent a b h t router k s)
  sent_on a b h t router (inl k) (inr s) = absurd (clash a h.tag router (one.held_tag a h k) (inl (b, t, s)))
  sent_on a b h t router (inr k) (inl s) = absurd (clash' a h.tag router (two.held_tag a h k) (inl (b, t, s)))
  sent_on a b h t router (inr k) (inr s) = inr (two.sent a b h t router k s)

  -- a line of the one or of the other takes it
  abbrev Takes : ℕ → ℕ → List ℕ → Tag → Tag → Type 0
  Takes r u path tag t = ((n : ℕ) × (takes net x.config p r u path tag ≡ Some (t, n))) ⊎ ((n : ℕ) × (takes net y.config p r u path tag ≡ Some (t, n)))

  from_router : (r u : ℕ) (m : Route) (t : Tag) (pref : ℕ) → is_router net r ≡ true → is_router net u ≡ true → On1 u r m ⊎ On2 u r m → Takes r u m.path m.tag t
      → Held_at r (with_pref (r ∷ m.path) t pref)
  from_router r u m t pref to from (inl k) (inl s) = inl (one.taken r u m t s.0 pref to from k s.1)
  from_router r u m t pref to from (inl k) (inr s) = absurd (clash u m.tag from (one.sent_tag u r m k to) (inr (r, m.path, (t, s.0), to, s.1)))
  from_router r u m t pref to from (inr k) (inl s) = absurd (clash' u m.tag from (two.sent_tag u r m k to) (inr (r, m.path, (t, s.0), to, s.1)))
  from_router r u m t pref to from (inr k) (inr s) = inr (two.taken r u m t s.0 pref to from k s.1)

  from_peer : (r u : ℕ) (t : Tag) (pref : ℕ) → is_router net r ≡ true → is_peer net u ≡ true → is_router net u ≡ false → Takes r u (u ∷ []) no_tag t → Held_at r (with_pref (r ∷ u ∷ []) t pref)
  from_peer r u t pref to peer off (inl s) = inl (one.heard r u t s.0 pref to peer off s.1)
  from_peer r u t pref to peer off (inr s) = inr (two.heard r u t s.0 pref to peer off s.1)

  module _ (m : Mixture) (says_no_more : (r : ℕ) → SaysNoMore net p x y r (m r)) where
    exports : (a b : ℕ) (o : Option Route) → is_router net a ≡ true → Held (Held_at a) o → Held (OnTheWay a b) (exported_by net (m a).config p a b o)
    exports a b o router held z e =
        let s = sent_parts net (m a).config p a b o z e in
        let way = sent_on a b s.0 s.1 router (held s.0 s.2) ((says_no_more a).sent b s.0.tag s.1 s.3) in
        record {
          router = λ t. subst (λ (g : Route). On1 a b g ⊎ On2 a b g) s.4 way;
          peer = λ f. absurd (true≢false (sym router ∙ f));
        }

    announces : (a b : ℕ) → is_router net a ≡ false → Held (OnTheWay a b) (announced_if says a)
    announces a b off z e =
        let parts = when_parts (says a) (Some (with_pref (a ∷ []) no_tag 0)) z e in
        let same : with_pref (a ∷ []) no_tag 0 ≡ z = (let both : Some (with_pref (a ∷ []) no_tag 0) ≡ Some z = parts.1 in cc) in
        record {
          router = λ t. absurd (true≢false (sym t ∙ off));
          peer = λ f. (peers a parts.0, ap (λ (g : Route). g.path) (sym same), ap (λ (g : Route). g.tag) (sym same));
        }

    chooses : (r : ℕ) (offer : ℕ → Option Route) → is_router net r ≡ true → ((u : ℕ) → Held (OnTheWay u r) (offer u))
        → Held (Held_at r) (chosen_by net (m r).policy (m r).config p r offer)
    chooses r offer router held z e = elim (cases_Bool (is_origin net (m r).policy p r)) [
      | inl origin ↦ (
          let is : Some (own_route net (m r).config p r) ≡ Some z = sym (chosen_own net (m r).policy (m r).config p r offer origin) ∙ e in
          let same : own_route net (m r).config p r ≡ z = cc in
          subst (Held_at r) same (own_kind ((says_no_more r).own origin)))
      | inr other ↦ (
          let c = chosen_parts net (m r).policy (m r).config p r offer z other e in
          let way = held c.0 c.1 c.3 in
          subst (Held_at r) c.5 (elim (cases_Bool (is_router net c.0)) [
            | inl from ↦ from_router r c.0 c.1 c.2.0 c.2.1 router from (way.router from) ((says_no_more r).taken c.0 c.1.path c.1.tag c.2.0 c.2.1 c.4)
            | inr off ↦ (
                let at = way.peer off in
                let bare : takes net (m r).config p r c.0 (c.0 ∷ []) no_tag ≡ Some (c.2.0, c.2.1) =
                sym (ap (λ (ls : List ℕ). takes net (m r).config p r c.0 ls c.1.tag) at.1 ∙ ap (takes net (m r).config p r c.0 (c.0 ∷ [])) at.2) ∙ c.4 in
                subst (λ (ls : List ℕ). Held_at r (with_pref (r ∷ ls) c.2.0 c.2.1)) (sym at.1)
                (from_peer r c.0 c.2.0 c.2.1 router at.0 off ((says_no_more r).taken c.0 (c.0 ∷ []) no_tag c.2.0 c.2.1 bare)))
          ]))
    ]
      where
        own_kind : ((is_origin net x.policy p r ≡ true) × (own_tag net (m r).config p r ≡ own_tag net x.config p r)) ⊎ ((is_origin net y.policy p r ≡ true) × (own_tag net (m r).config p r ≡ own_tag net y.config p r))
            → Held_at r (own_route net (m r).config p r)
        own_kind (inl o) = inl (subst (λ (t : Tag). At1 r (with_pref (r ∷ []) t 0)) (sym o.1) (one.own r o.0))
        own_kind (inr o) = inr (subst (λ (t : Tag). At2 r (with_pref (r ∷ []) t 0)) (sym o.1) (two.own r o.0))

    pub kinds : IsKind (mixed net says p m) Held_at OnTheWay
    kinds = record { exports = exports; announces = announces; chooses = chooses }

  -- ---- events and loads

  pub after-kinds : (es : List Change) (s : Running) → ((r : ℕ) → SaysNoMore net p x y r (s.runs r)) → Loaded (SaysNoMore net p x y) es
      → AreKinds Held_at OnTheWay s.world → AreKinds Held_at OnTheWay (after net says p es s).world
  after-kinds es s no_more loaded k = kinds_after net says p (SaysNoMore net p x y) Held_at OnTheWay kinds es s no_more loaded k

  pub begins-kinds : (m : Mixture) → ((r : ℕ) → SaysNoMore net p x y r (m r)) → AreKinds Held_at OnTheWay (begins net says p m).world
  begins-kinds m no_more = opening-kinds (mixed net says p m) Held_at OnTheWay (kinds m no_more)
