-- A router chooses the same in both worlds: the first of what it makes of what it has heard is what the neighbour with the lowest identifier gives
-- of those whose routes are first.
use Rattle.std.proofs.Common.{◌≡◌, ℕ, ◌≤◌, true, false, [], ◌++◌, length, Option, Some, None, refl, sym, ap, ◌∙◌, subst, inl, inr, arith}
use Rattle.std.specs.Prelude.{◌&&◌, not, option_map, unwrap_or, if◌then◌else◌}
use Rattle.std.specs.Option.{option_and_then}
use Rattle.std.proofs.lemmas.Bool.{and_parts, cases_Bool, cond-true, cond-false}
use Rattle.std.proofs.lemmas.List.{length-append}
use Rattle.std.proofs.lemmas.Option.{same_Some}
use Rattle.list_law.proofs.Options.{cases_Option, none_from, none_or_some, option_map_parts}
use Rattle.net_base.specs.declared.numbers.Tag.{Tag}
use Rattle.net_base.specs.Locations.{neighbours}
use Rattle.net_base.specs.Network.{PlainNet, IsNet, id_of, is_router, linked}
use Rattle.net_base.specs.Prefixes.{PlainPrefix}
use Rattle.net_base.proofs.Links.{linked_flips}
use Rattle.policy_base.specs.Policies.{PlainPolicy}
use Rattle.policy_base.specs.Governing.{is_origin}
use Rattle.config_base.specs.declared.route.Route.{Route}
use Rattle.config_base.specs.Configs.{PlainConfig}
use Rattle.config_base.specs.Lines.{class_of, import_of, is_looped, own_route}
use Rattle.event_base.specs.Speaking.{chosen_by, extended, first_of, taken_by}
use Rattle.event_base.specs.World.{World, choice, live, offers, running}
use Rattle.event_law.specs.Kept.{among}
use Rattle.event_law.proofs.First.{NoLater, first_covers}
use Rattle.event_law.proofs.Quiet.{are_speakers}
use Rattle.event_law.proofs.Running.{first_is_given}
use Rattle.outcome_base.specs.Announcements.{FullRoute, Sent, taken_under}
use Rattle.outcome_law.proofs.Inside.{refuses_same, taken-none, taken-refused, taken-some}
use Rattle.routing_law.specs.Network.{giver}
use Rattle.motion_law.specs.Events.{held_alone, sent_alone}
use Rattle.motion_law.specs.Motion.{Motion, choice_of, gift, picked}
use Rattle.motion_law.proofs.Taken.{line_at}
use Rattle.motion_law.proofs.Within.{AreKinds}
use Rattle.named_rest.specs.Named.{lowest, lowest_gift}
use Rattle.named_rest.proofs.Lowest.{gift_first, gift_giver, gift_none, gift_parts, same_id}
use Rattle.named_rest.proofs.Naming.{AllHoldFirst, picks_lowest}
use Rattle.event_motion.specs.Playing.{Corresponds}
use Rattle.event_motion.proofs.Says.{S}

module _ (net : PlainNet) (policy : PlainPolicy) (config : PlainConfig) (p : PlainPrefix) (rules : IsNet net) where
  -- on a session that isn't live nothing has been heard
  abbrev pub AreGone : World Route → Type 0
  AreGone e = (a b : ℕ) → live (S net policy config p) e a b ≡ false → e.heard a b ≡ None

  taken_same : (class r u : ℕ) (m : Route) → is_router net r ≡ true
      → taken_under net config class r u (sent_alone m) ≡ option_map held_alone (option_map (extended r m) (import_of net config class r u m.path m.tag))
  taken_same class r u m router = elim (cases_Bool (is_looped net r u m.path)) [
    | inl t ↦
        taken-refused net config class r u (sent_alone m) (refuses_same net r u m.path [] router refl ∙ t)
        ∙ sym (ap (λ (o : Option (Tag × ℕ)). option_map held_alone (option_map (extended r m) o)) (cond-true (is_looped net r u m.path) None (line_at net config class r u m.tag) t))
    | inr f ↦ elim (cases_Option (line_at net config class r u m.tag)) [
      | inl none ↦
          taken-none net config class r u (sent_alone m) none
          ∙ sym (ap (λ (o : Option (Tag × ℕ)). option_map held_alone (option_map (extended r m) o)) (cond-false (is_looped net r u m.path) None (line_at net config class r u m.tag) f ∙ none))
      | inr q ↦
          taken-some net config class r u (sent_alone m) q.0 (refuses_same net r u m.path [] router refl ∙ f) q.1
          ∙ sym (ap (λ (o : Option (Tag × ℕ)). option_map held_alone (option_map (extended r m) o)) (cond-false (is_looped net r u m.path) None (line_at net config class r u m.tag) f ∙ q.1))
    ]
  ]

  made_same : (r u : ℕ) (o : Option Route) → is_router net r ≡ true
      → option_and_then (λ class. option_and_then (taken_under net config class r u) (option_map sent_alone o)) (class_of config p) ≡ option_map held_alone (taken_by net config p r u o)
  made_same r u o router = by (class_of config p) o
    where
      by : (k : Option ℕ) (o : Option Route) → option_and_then (λ class. option_and_then (taken_under net config class r u) (option_map sent_alone o)) k
          ≡ option_map held_alone (option_and_then (λ class. option_and_then (λ (m : Route). option_map (extended r m) (import_of net config class r u m.path m.tag)) o) k)
      by None o = refl
      by (Some class) None = refl
      by (Some class) (Some m) = taken_same class r u m router

  taken_none : (r u : ℕ) → taken_by net config p r u None ≡ None
  taken_none r u = by (class_of config p)
    where
      by : (k : Option ℕ) → option_and_then (λ class. option_and_then (λ (m : Route). option_map (extended r m) (import_of net config class r u m.path m.tag)) None) k ≡ None
      by None = refl
      by (Some class) = refl

  module _ (e : World Route) (w : Motion) (c : Corresponds net policy config p e w) (gone : AreGone e) (kinds : AreKinds net policy config p rules w) (first : AllHoldFirst net policy config p rules w) where
    abbrev g : ℕ → ℕ → Option Route
    g r u = taken_by net config p r u (offers (S net policy config p) e r u)

    gift_same : (r u : ℕ) → is_router net r ≡ true → gift net policy config p w r u ≡ option_map held_alone (g r u)
    gift_same r u router =
        ap (λ (o : Option Sent). option_and_then (λ class. option_and_then (taken_under net config class r u) o) (class_of config p)) (c.heard u r ∙ ap (option_map sent_alone) (sym offered))
        ∙ made_same r u (offers (S net policy config p) e r u) router
      where
        offered : offers (S net policy config p) e r u ≡ e.heard u r
        offered = elim (cases_Bool (live (S net policy config p) e u r)) [
          | inl t ↦ cond-true (live (S net policy config p) e u r) (e.heard u r) None t
          | inr f ↦ cond-false (live (S net policy config p) e u r) (e.heard u r) None f ∙ sym (gone u r f)
        ]

    -- who gives a route is linked
    gives_linked : (r u : ℕ) (h : Route) → g r u ≡ Some h → linked net r u ≡ true
    gives_linked r u h e' = elim (cases_Bool (live (S net policy config p) e u r)) [
      | inl t ↦ linked_flips net r u ∙ (and_parts (linked net u r) _ t).0
      | inr f ↦ absurd (none_or_some (g r u) h (ap (taken_by net config p r u) (cond-false (live (S net policy config p) e u r) (e.heard u r) None f) ∙ taken_none r u) e')
    ]

    near : (r u : ℕ) → linked net r u ≡ true → among (neighbours net r) u ≡ true
    near = (are_speakers net policy config p rules).near

    alone_long : (h : Route) → length (h.path ++ []) ≡ length h.path
    alone_long h = (let l = length-append h.path [] in omega (arith, l))

    first_same : (r : ℕ) → is_router net r ≡ true → lowest_gift net policy config p w r ≡ option_map held_alone (option_map (λ (x : ℕ × Route). x.1) (first_of net (g r) (neighbours net r)))
    first_same r router = by (first_of net (g r) (neighbours net r)) refl
      where
        covers : (v : ℕ) (k : Route) → g r v ≡ Some k → (x : ℕ × Route) × (first_of net (g r) (neighbours net r) ≡ Some x) × NoLater net x (v, k)
        covers v k e' = first_covers net (g r) (neighbours net r) v (near r v (gives_linked r v k e')) k e'

        -- what is given by name is given in the world of events
        given : (x : FullRoute) → lowest_gift net policy config p w r ≡ Some x → (v : ℕ) × (k : Route) × (g r v ≡ Some k) × (held_alone k ≡ x) × (gift net policy config p w r v ≡ Some x)
        given x e' =
            let a = gift_parts net policy config p rules w r x e' in
            let k = option_map_parts held_alone (g r a.0) x (sym (gift_same r a.0 router) ∙ a.2) in
            (a.0, k.0, k.1, k.2, a.2)

        by : (o : Option (ℕ × Route)) → first_of net (g r) (neighbours net r) ≡ o → lowest_gift net policy config p w r ≡ option_map held_alone (option_map (λ (x : ℕ × Route). x.1) o)
        by None is = none_from (lowest_gift net policy config p w r) (λ x e'.
            let v = given x e' in
            let y = covers v.0 v.1 v.2 in
            none_or_some (first_of net (g r) (neighbours net r)) y.0 is y.1)
        by (Some y) is = chosen (lowest_gift net policy config p w r) refl
          where
            gives : g r y.0 ≡ Some y.1
            gives = first_is_given net (g r) (neighbours net r) y is

            on : linked net r y.0 ≡ true
            on = gives_linked r y.0 y.1 gives

            there : gift net policy config p w r y.0 ≡ Some (held_alone y.1)
            there = gift_same r y.0 router ∙ ap (option_map held_alone) gives

            chosen : (o : Option FullRoute) → lowest_gift net policy config p w r ≡ o → lowest_gift net policy config p w r ≡ Some (held_alone y.1)
            chosen None e' = absurd (none_or_some (gift net policy config p w r y.0) (held_alone y.1) (gift_none net policy config p rules w r e' y.0 on) there)
            chosen (Some x) e' =
                let v = given x e' in
                let z = covers v.0 v.1 v.2 in
                let same : y ≡ z.0 = same_Some y z.0 (sym is ∙ z.1) in
                let no : NoLater net y (v.0, v.1) = subst (λ (q : ℕ × Route). NoLater net q (v.0, v.1)) (sym same) z.2 in
                let na = gift_first net policy config p rules w r kinds x e' y.0 (held_alone y.1) on there in
                let px : v.1.pref ≡ x.route.pref = ap (λ (q : FullRoute). q.route.pref) v.3 in
                let lx : length v.1.path ≡ length (x.route.path ++ x.behind) = sym (alone_long v.1) ∙ ap (λ (q : FullRoute). length (q.route.path ++ q.behind)) v.3 in
                let ly = alone_long y.1 in
                let h1 : v.1.pref ≤ y.1.pref = no.higher in
                let h2 : y.1.pref ≤ x.route.pref = na.higher in
                let q1 : v.1.pref ≡ y.1.pref = omega (arith, h1, h2, px) in
                let q2 : y.1.pref ≡ x.route.pref = sym q1 ∙ px in
                let f1 : length y.1.path ≤ length v.1.path = no.fewer q1 in
                let f2 : length (x.route.path ++ x.behind) ≤ length (y.1.path ++ []) = na.fewer q2 in
                let l1 : length y.1.path ≡ length v.1.path = omega (arith, f1, f2, lx, ly) in
                let l2 : length (x.route.path ++ x.behind) ≡ length (y.1.path ++ []) = omega (arith, l1, lx, ly) in
                let i1 : id_of net y.0 ≤ id_of net v.0 = no.lower q1 l1 in
                let i2 : id_of net (giver x.route.path) ≤ id_of net (giver y.1.path) = na.lower q2 l2 in
                let gx = ap (id_of net) (gift_giver net policy config p rules w r kinds v.0 x v.4) in
                let gy : id_of net (giver y.1.path) ≡ id_of net y.0 = ap (id_of net) (gift_giver net policy config p rules w r kinds y.0 (held_alone y.1) there) in
                let one : v.0 ≡ y.0 = same_id net rules r v.0 y.0 (gives_linked r v.0 v.1 v.2) on (omega (arith, i1, i2, gx, gy)) in
                let hs : Some v.1 ≡ Some y.1 = sym v.2 ∙ ap (g r) one ∙ gives in
                let h : v.1 ≡ y.1 = same_Some v.1 y.1 hs in
                e' ∙ ap (λ (q : FullRoute). Some q) (sym v.3) ∙ ap (λ (q : Route). Some (held_alone q)) h

    pub chooses_same : (r : ℕ) → choice_of net policy config p w r (unwrap_or (lowest net policy config p w r) r) ≡ option_map held_alone (choice (S net policy config p) e r)
    chooses_same r = elim (cases_Bool (is_router net r && not (e.down r))) [
      | inr f ↦
          cond-false (is_router net r && not (w.down r)) _ None (ap (λ z. is_router net r && not z) (c.down r) ∙ f)
          ∙ sym (ap (option_map held_alone) (cond-false (running (S net policy config p) e r) (chosen_by net policy config p r (offers (S net policy config p) e r)) None f))
      | inl t ↦
          cond-true (is_router net r && not (w.down r)) _ None (ap (λ z. is_router net r && not z) (c.down r) ∙ t)
          ∙ up (and_parts (is_router net r) _ t).0
          ∙ sym (ap (option_map held_alone) (cond-true (running (S net policy config p) e r) (chosen_by net policy config p r (offers (S net policy config p) e r)) None t))
    ]
      where
        named : ℕ
        named = unwrap_or (lowest net policy config p w r) r

        up : is_router net r ≡ true → (if is_origin net policy p r then Some (record { route = own_route net config p r; behind = [] }) else picked net policy config p w r named)
            ≡ option_map held_alone (chosen_by net policy config p r (offers (S net policy config p) e r))
        up router = elim (cases_Bool (is_origin net policy p r)) [
          | inl o ↦
              cond-true (is_origin net policy p r) (Some (record { route = own_route net config p r; behind = [] })) (picked net policy config p w r named) o
              ∙ sym (ap (option_map held_alone) (cond-true (is_origin net policy p r) (Some (own_route net config p r)) (option_map (λ (x : ℕ × Route). x.1) (first_of net (g r) (neighbours net r))) o))
          | inr o ↦
              cond-false (is_origin net policy p r) (Some (record { route = own_route net config p r; behind = [] })) (picked net policy config p w r named) o
              ∙ picks_lowest net policy config p rules w r named kinds (first r) o (λ z e'. ap (λ (q : Option ℕ). unwrap_or q r) e')
              ∙ first_same r router
              ∙ sym (ap (option_map held_alone) (cond-false (is_origin net policy p r) (Some (own_route net config p r)) (option_map (λ (x : ℕ × Route). x.1) (first_of net (g r) (neighbours net r))) o))
        ]
