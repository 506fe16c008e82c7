-- The routers of a configured network choose the first of what they take.
use Rattle.std.proofs.Common.{◌≡◌, ℕ, ◌<◌, true, false, ◌∷◌, length, Option, Some, None, refl, sym, ap, ◌∙◌, inl, inr, arith}
use Rattle.std.specs.Prelude.{suc, option_map}
use Rattle.std.specs.Option.{option_and_then}
use Rattle.std.proofs.lemmas.Bool.{cases_Bool, cond-true, cond-false}
use Rattle.net_base.specs.Network.{PlainNet, IsNet, linked}
use Rattle.net_base.specs.Prefixes.{PlainPrefix}
use Rattle.policy_base.specs.Policies.{PlainPolicy}
use Rattle.policy_base.specs.Governing.{is_origin}
use Rattle.net_base.specs.Locations.{neighbours}
use Rattle.net_base.proofs.Links.{linked_flips}
use Rattle.config_base.specs.declared.route.Route.{Route}
use Rattle.config_base.specs.Configs.{PlainConfig}
use Rattle.config_base.specs.Lines.{class_of, export_of, import_of, own_route}
use Rattle.list_law.proofs.Options.{option_and_then_parts, option_map_parts, option_and_then-never}
use Rattle.event_base.specs.Speaking.{chosen_by, exported_by, extended, first_of, message, speakers_of, taken_by}
use Rattle.event_law.proofs.Messages.{same_as_itself}
use Rattle.rest_law.specs.Orders.{AreChoosers}
use Rattle.event_law.proofs.First.{NoLater, first_covers}
use Rattle.event_law.proofs.Running.{first_is_given}
use Rattle.event_law.proofs.Quiet.{are_speakers}

module _ (net : PlainNet) (policy : PlainPolicy) (config : PlainConfig) (p : PlainPrefix) where
  pub untaken : (r u : ℕ) → taken_by net config p r u None ≡ None
  untaken r u = option_and_then-never (λ (k : ℕ). option_and_then (λ (m : Route). option_map (extended r m) (import_of net config k r u m.path m.tag)) None) (class_of config p) (λ k. refl)

  unsent : (a b : ℕ) → exported_by net config p a b None ≡ None
  unsent a b = option_and_then-never (λ (k : ℕ). option_and_then (λ (h : Route). option_map (message h) (export_of net config k a b h.tag)) None) (class_of config p) (λ k. refl)

  -- what is taken was said, and has one more in front
  pub taken_parts : (r u : ℕ) (o : Option Route) (h : Route) → taken_by net config p r u o ≡ Some h
      → (k : ℕ) × (m : Route) × (o ≡ Some m) × ((line : _) × (import_of net config k r u m.path m.tag ≡ Some line)) × (h.path ≡ r ∷ m.path)
  taken_parts r u o h e =
      let k = option_and_then_parts (λ (k : ℕ). option_and_then (λ (m : Route). option_map (extended r m) (import_of net config k r u m.path m.tag)) o) (class_of config p) h e in
      let m = option_and_then_parts (λ (m : Route). option_map (extended r m) (import_of net config k.0 r u m.path m.tag)) o h k.2 in
      let q = option_map_parts (extended r m.0) (import_of net config k.0 r u m.0.path m.0.tag) h m.2 in
      (k.0, m.0, m.1, (q.0, q.1), ap (λ (z : Route). z.path) (sym q.2))

  pub sent_parts : (a b : ℕ) (o : Option Route) (m : Route) → exported_by net config p a b o ≡ Some m → (h : Route) × (o ≡ Some h) × (m.path ≡ h.path)
  sent_parts a b o m e =
      let k = option_and_then_parts (λ (k : ℕ). option_and_then (λ (h : Route). option_map (message h) (export_of net config k a b h.tag)) o) (class_of config p) m e in
      let h = option_and_then_parts (λ (h : Route). option_map (message h) (export_of net config k.0 a b h.tag)) o m k.2 in
      let t = option_map_parts (message h.0) (export_of net config k.0 a b h.0.tag) m h.2 in
      (h.0, h.1, ap (λ (z : Route). z.path) (sym t.2))

  module _ (r : ℕ) (offer : ℕ → Option Route) where
    abbrev gives : ℕ → Option Route
    gives u = taken_by net config p r u (offer u)

    abbrev rest : Option Route
    rest = option_map (λ (x : ℕ × Route). x.1) (first_of net gives (neighbours net r))

    pub chosen_own : is_origin net policy p r ≡ true → chosen_by net policy config p r offer ≡ Some (own_route net config p r)
    chosen_own t = cond-true (is_origin net policy p r) (Some (own_route net config p r)) rest t

    pub chosen_first : is_origin net policy p r ≡ false → chosen_by net policy config p r offer ≡ rest
    chosen_first f = cond-false (is_origin net policy p r) (Some (own_route net config p r)) rest f

    pub chosen_parts : (h : Route) → is_origin net policy p r ≡ false → chosen_by net policy config p r offer ≡ Some h → (u : ℕ) × (taken_by net config p r u (offer u) ≡ Some h)
    chosen_parts h f e =
        let x = option_map_parts (λ (x : ℕ × Route). x.1) (first_of net gives (neighbours net r)) h (sym (chosen_first f) ∙ e) in
        (x.0.0, first_is_given net gives (neighbours net r) x.0 x.1 ∙ ap Some x.2)

  -- who holds nothing of its own is no origin
  pub no_origin : (r : ℕ) → chosen_by net policy config p r (λ u. None) ≡ None → is_origin net policy p r ≡ false
  no_origin r none = elim (cases_Bool (is_origin net policy p r)) [
    | inr f ↦ f
    | inl t ↦ (let e : Some (own_route net config p r) ≡ None = sym (chosen_own r (λ u. None) t) ∙ none in absurd (cc))
  ]

  own : (r : ℕ) (offer : ℕ → Option Route) (h : Route) → chosen_by net policy config p r (λ u. None) ≡ Some h → chosen_by net policy config p r offer ≡ Some h
  own r offer h e = elim (cases_Bool (is_origin net policy p r)) [
    | inl t ↦ chosen_own r offer t ∙ sym (chosen_own r (λ u. None) t) ∙ e
    | inr f ↦ (
        let g = chosen_parts r (λ u. None) h f e in
        let none : None ≡ Some h = sym (untaken r g.0) ∙ g.1 in
        absurd (cc))
  ]

  first : IsNet net → (r u : ℕ) (offer : ℕ → Option Route) (g : Route) → chosen_by net policy config p r (λ u. None) ≡ None → linked net u r ≡ true → taken_by net config p r u (offer u) ≡ Some g
      → (x : ℕ × Route) × (chosen_by net policy config p r offer ≡ Some x.1) × (taken_by net config p r x.0 (offer x.0) ≡ Some x.1) × NoLater net x (u, g)
  first rules r u offer g none link e =
      let near = (are_speakers net policy config p rules).near r u (linked_flips net r u ∙ link) in
      let x = first_covers net (gives r offer) (neighbours net r) u near g e in
      (x.0, chosen_first r offer (no_origin r none) ∙ ap (option_map (λ (y : ℕ × Route). y.1)) x.1, first_is_given net (gives r offer) (neighbours net r) x.0 x.1, x.2)

  longer : (r u : ℕ) (g h : Route) → taken_by net config p r u (exported_by net config p u r (Some g)) ≡ Some h → length g.path < length h.path
  longer r u g h e =
      let m = taken_parts r u (exported_by net config p u r (Some g)) h e in
      let k = sent_parts u r (Some g) m.1 m.2 in
      let same : g ≡ k.0 = (let q = k.1 in cc) in
      let long : length h.path ≡ suc (length m.1.path) = ap length m.4 in
      let alike : length m.1.path ≡ length g.path = ap length (k.2 ∙ ap (λ (z : Route). z.path) (sym same)) in
      omega (arith, long, alike)

  pub are_choosers : IsNet net → AreChoosers (speakers_of net policy config p) (taken_by net config p) (NoLater net) (λ h. length h.path)
  are_choosers rules = record {
    alike = same_as_itself;
    unsent = unsent;
    untaken = untaken;
    own = own;
    given = λ r offer h none e. chosen_parts r offer h (no_origin r none) e;
    first = first rules;
    longer = longer;
  }
