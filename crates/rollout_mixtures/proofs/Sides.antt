-- Routes with tags of one side go among routers over its lines, or not at all.
use Rattle.std.proofs.Common.{◌≡◌, ℕ, Bool, true, false, List, Option, Some, None, refl, sym, ap, ◌∙◌, subst, inl, inr}
use Rattle.std.specs.Prelude.{option_map}
use Rattle.std.proofs.lemmas.Bool.{cases_Bool}
use Rattle.list_law.proofs.Options.{none_or_some}
use Rattle.net_base.specs.declared.numbers.Tag.{Tag}
use Rattle.net_base.specs.Network.{PlainNet, is_router}
use Rattle.net_base.specs.Prefixes.{PlainPrefix}
use Rattle.net_base.proofs.RoutersAndPeers.{router_no_peer}
use Rattle.config_base.specs.declared.route.Route.{Route}
use Rattle.event_base.specs.Speaking.{exported_by, extended, message, taken_by}
use Rattle.event_law.specs.Kinds.{Held}
use Rattle.rollout_base.specs.Lines.{GivesTag, takes}
use Rattle.rollout_base.specs.Mixtures.{Mixture, Part}
use Rattle.rollout_law.proofs.Speaking.{exported_some, sent_parts, sent_to_router, taken_none, taken_parts, taken_some}
use Rattle.rollout_mixtures.specs.Between.{HasLines, LacksLines}

-- a line of x at v gave h
abbrev pub Given : PlainNet → PlainPrefix → Part → ℕ → Route → Type 0
Given net p x v h = (u : ℕ) × (path : List ℕ) × (t : Tag) × (takes net x.config p v u path t ≡ Some (h.tag, h.pref))

module _ (net : PlainNet) (p : PlainPrefix) (x : Part) where
  pub given_of : (v u : ℕ) (o : Option Route) (h : Route) → taken_by net x.config p v u o ≡ Some h → Given net p x v h
  given_of v u o h e =
      let k = taken_parts net x.config p v u o h e in
      (u, k.0.path, k.0.tag, k.3 ∙ ap (λ (g : Route). Some (g.tag, g.pref)) k.4)

  pub given_tag : (v : ℕ) (h : Route) → Given net p x v h → GivesTag net p x v h.tag
  given_tag v h g = inr (g.0, g.1, g.2, h.pref, g.3)

  module _ (m : Mixture) (has : ℕ → Bool) (lines : (r : ℕ) → has r ≡ true → HasLines net p x r (m r)) (lacks : (r : ℕ) → has r ≡ false → LacksLines net p x r (m r)) where
    abbrev Of : ℕ → Route → Type 0
    Of u y = GivesTag net p x u y.tag

    sent_same : (u v : ℕ) (y : Route) → has u ≡ true → Of u y → exported_by net (m u).config p u v (Some y) ≡ exported_by net x.config p u v (Some y)
    sent_same u v y on gives =
        exported_some net (m u).config p u v y ∙ ap (option_map (message y)) ((lines u on).sent v y.tag gives) ∙ sym (exported_some net x.config p u v y)

    sent_none : (u v : ℕ) (y : Route) → has u ≡ false → Of u y → exported_by net (m u).config p u v (Some y) ≡ None
    sent_none u v y off gives = exported_some net (m u).config p u v y ∙ ap (option_map (message y)) ((lacks u off).sent v y.tag gives)

    -- what is sent to a router keeps its tag
    sent_held : (u v : ℕ) (y : Route) → is_router net v ≡ true → Of u y → Held (Of u) (exported_by net x.config p u v (Some y))
    sent_held u v y to gives g e =
        let s = sent_parts net x.config p u v (Some y) g e in
        let same : y ≡ s.0 = (let here = s.2 in cc) in
        let tag : s.1 ≡ s.0.tag = sent_to_router net x.config p u v s.0.tag s.1 (router_no_peer net v to) s.3 in
        subst (GivesTag net p x u) (ap (λ (k : Route). k.tag) same ∙ sym tag ∙ ap (λ (k : Route). k.tag) s.4) gives

    taken_same : (v u : ℕ) (o : Option Route) → is_router net u ≡ true → has v ≡ true → Held (Of u) o → taken_by net (m v).config p v u o ≡ taken_by net x.config p v u o
    taken_same v u None from on held = taken_none net (m v).config p v u ∙ sym (taken_none net x.config p v u)
    taken_same v u (Some g) from on held =
        taken_some net (m v).config p v u g ∙ ap (option_map (extended v g)) ((lines v on).taken u g.path g.tag from (held g refl)) ∙ sym (taken_some net x.config p v u g)

    untaken_of : (v u : ℕ) (o : Option Route) → is_router net u ≡ true → has v ≡ false → Held (Of u) o → taken_by net (m v).config p v u o ≡ None
    untaken_of v u None from off held = taken_none net (m v).config p v u
    untaken_of v u (Some g) from off held = taken_some net (m v).config p v u g ∙ ap (option_map (extended v g)) ((lacks v off).taken u g.path g.tag from (held g refl))

    -- where both have the lines
    pub both_same : (u v : ℕ) (y : Route) → is_router net u ≡ true → is_router net v ≡ true → has u ≡ true → has v ≡ true → Of u y
        → taken_by net (m v).config p v u (exported_by net (m u).config p u v (Some y)) ≡ taken_by net x.config p v u (exported_by net x.config p u v (Some y))
    both_same u v y from to on_u on_v gives =
        ap (taken_by net (m v).config p v u) (sent_same u v y on_u gives) ∙ taken_same v u (exported_by net x.config p u v (Some y)) from on_v (sent_held u v y to gives)

    -- what is taken of such a route both have lines for
    pub taken_down : (u v : ℕ) (y h : Route) → is_router net u ≡ true → is_router net v ≡ true → Of u y
        → taken_by net (m v).config p v u (exported_by net (m u).config p u v (Some y)) ≡ Some h
        → (has u ≡ true) × (has v ≡ true) × (taken_by net x.config p v u (exported_by net x.config p u v (Some y)) ≡ Some h)
    taken_down u v y h from to gives e = elim (cases_Bool (has u)) [
      | inr off ↦ absurd (none_or_some _ h (ap (taken_by net (m v).config p v u) (sent_none u v y off gives) ∙ taken_none net (m v).config p v u) e)
      | inl on ↦ elim (cases_Bool (has v)) [
        | inr gone ↦ absurd (none_or_some _ h
            (ap (taken_by net (m v).config p v u) (sent_same u v y on gives) ∙ untaken_of v u (exported_by net x.config p u v (Some y)) from gone (sent_held u v y to gives)) e)
        | inl there ↦ (on, there, sym (both_same u v y from to on there gives) ∙ e)
      ]
    ]
