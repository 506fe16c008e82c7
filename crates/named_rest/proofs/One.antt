-- A fully stable outcome is one of the graph of the prefix's case in which ties go by identifier, and there is one of these.
use Rattle.std.proofs.Common.{◌≡◌, ℕ, ◌+◌, suc, Bool, true, false, List, [], ◌∷◌, ◌++◌, length, Option, Some, None, refl, sym, ap, ◌∙◌, subst, inl, inr, arith}
use Rattle.std.specs.Prelude.{◌&&◌, not, option_map}
use Rattle.std.specs.Option.{option_and_then}
use Rattle.std.proofs.lemmas.Bool.{and_from, and_parts, cases_Bool, cond-false, lt-ltb, not_from_false}
use Rattle.std.proofs.lemmas.List.{length-append, length-map}
use Rattle.std.proofs.lemmas.Option.{same_Some}
use Rattle.list_law.proofs.Items.{same_options}
use Rattle.list_law.proofs.Options.{none_from, none_or_some, option_and_then_parts}
use Rattle.net_base.specs.declared.numbers.Tag.{Tag}
use Rattle.net_base.specs.Locations.{numbers_below}
use Rattle.net_base.specs.Network.{PlainNet, IsNet, id_of, is_peer, is_router}
use Rattle.net_base.specs.Prefixes.{PlainPrefix, IsPrefix}
use Rattle.net_base.proofs.NumbersBelow.{length-numbers_below}
use Rattle.net_base.proofs.RoutersAndPeers.{router_no_peer}
use Rattle.policy_base.specs.Policies.{PlainPolicy, IsPolicyOf}
use Rattle.policy_base.specs.Governing.{is_origin}
use Rattle.config_base.specs.Configs.{PlainConfig}
use Rattle.config_base.specs.Lines.{class_of}
use Rattle.evidence_base.specs.Made.{PlainCaseEvidence}
use Rattle.outcome_base.specs.Announcements.{Announcements, FullOutcome, FullRoute, full_at, given_under}
use Rattle.outcome_base.specs.Outcomes.{Failures, is_dead, is_dead_link, is_live, is_silent, no_failures}
use Rattle.evidence_law.specs.Passes.{Passes}
use Rattle.evidence_law.proofs.Setting.{network_of, pair_of, pairs_of, tag_of}
use Rattle.outcome_law.proofs.Inside.{given-parts, none_given}
use Rattle.settled_law.proofs.Fully.{names_differ}
use Rattle.settled_law.proofs.SettledLaw.{CaseFound, case_or_bare}
use Rattle.routing_law.specs.Graph as graph
use Rattle.routing_law.specs.Network as law
use Rattle.routing_law.specs.Outcome as outcomes
use Rattle.routing_law.proofs.Heard.{chooses_from, heard_parts}
use Rattle.event_law.proofs.Offers.{lines_here}
use Rattle.tie_law.specs.Ties.{IsSize}
use Rattle.steady_law.specs.Histories.{IsTop, TiesAt}
use Rattle.steady_law.specs.Outcomes.{IsNamedOutcome}
use Rattle.steady_law.proofs.One.{named_outcomes_are_one}
use Rattle.motion_law.specs.Motion.{Motion}
use Rattle.motion_law.proofs.Ever.{Fine, Graph, fine}
use Rattle.motion_rest.proofs.Match.{G, Good, chooser_parts, full_held, held, held_chosen, held_none, held_own, match_down, match_up, node_is, node_of, setup}
use Rattle.motion_rest.specs.Rest.{IsScenarioIn, full_of}
use Rattle.named_rest.specs.Named.{FullyStableUnderAreOne, IsFullyStableUnder, IsNoLaterUnder}
use Rattle.named_rest.proofs.Held.{given_held, held as held_so, tail_of}

-- a world in which this is down and cut, the peers say this and these routes are held
abbrev world_of : Failures → Announcements → (ℕ → Option FullRoute) → Motion
world_of f says route = record {
  down = is_dead f;
  cut = is_dead_link f;
  says = says;
  queue = λ a b. [];
  heard = λ a b. None;
  queued = λ a b. None;
  news = λ a b. false;
  route = route;
}

module _ (net : PlainNet) (policy : PlainPolicy) (config : PlainConfig) (cs : List PlainCaseEvidence) (rules : IsNet net)
    (kept : IsPolicyOf net policy) (passes : Passes net policy config cs) (p : PlainPrefix) (prefix : IsPrefix p)
    (c : CaseFound net policy config cs rules kept passes no_failures p) (f : Failures) (says : Announcements) (mute : (r q : ℕ) → (not (is_silent f r q)) ≡ true) where
  abbrev w : Motion
  w = world_of f says (λ r. None)

  abbrev scenario : IsScenarioIn net w f
  scenario = record { dead = λ l. refl; links = λ a b on. refl; silent = mute }

  abbrev S : outcomes.Setup
  S = setup net policy config cs rules kept passes p prefix c f w scenario

  abbrev Gr : graph.Graph
  Gr = G net policy config cs rules kept passes p prefix c f w scenario

  abbrev tail : List ℕ → List ℕ
  tail = tail_of net says

  abbrev size : List ℕ → ℕ
  size q = length q + length (tail q)

  abbrev node : FullRoute → Option outcomes.Route
  node = node_of net policy config cs rules kept passes p prefix c f w scenario

  sized : IsSize S size
  sized = record { some = λ v q. omega arith; grows = λ v u q k. by v u q (router_no_peer net u (and_parts (is_router net u) _ k).0) }
    where
      by : (v u : ℕ) (q : List ℕ) → is_peer net u ≡ false → size (v ∷ u ∷ q) ≡ suc (size (u ∷ q))
      by v u [] off = (let none : length (tail (v ∷ u ∷ [])) ≡ 0 = ap length (cond-false (is_peer net u) _ [] off) in omega (arith, none))
      by v u (z ∷ q) off = omega arith

  -- ---- one outcome

  module _ (full : FullOutcome) (all : length full ≡ length net.routers) (whole : IsFullyStableUnder net policy config f says p full) where
    abbrev X : Motion
    X = world_of f says (full_at full)

    abbrev pub hs : outcomes.Routes
    hs = held net policy config cs rules kept passes p prefix c f w scenario X

    same_full : full_of net X ≡ full
    same_full =
        let long : length (full_of net X) ≡ length full = length-map (numbers_below (length net.routers)) X.route ∙ length-numbers_below (length net.routers) ∙ sym all in
        same_options (full_of net X) full long (λ r l. full_held net X r (lt-ltb r (length net.routers) (omega (arith, l, long, all))))

    given_same : (u r : ℕ) → given_under net config f says p (full_of net X) u r ≡ given_under net config f says p full u r
    given_same u r = ap (λ (o : FullOutcome). given_under net config f says p o u r) same_full

    fine_at : (r : ℕ) (t : FullRoute) → full_at full r ≡ Some t → Fine net policy config cs rules kept passes p prefix c r t
    fine_at r t e = fine net policy config cs rules kept passes p prefix c r t (held_so net policy config f says p full rules all whole.stable r t e).holds

    good : Good net policy config cs rules kept passes p prefix c f w scenario X
    good = record {
      marks = record { down = refl; cut = refl; says = refl };
      fine = fine_at;
      own = λ r router up o.
          whole.stable.own r (and_from (is_router net r && is_origin net policy p r) _ (and_from (is_router net r) (is_origin net policy p r) router o) (not_from_false _ up));
    }

    abbrev Chooses : ℕ → Type 0
    Chooses v = law.chooses S.net S.alive v ≡ true

    parts_of : (v : ℕ) → Chooses v → (is_router net v ≡ true) × (is_dead f v ≡ false) × (is_origin net policy p v ≡ false)
    parts_of v k = chooser_parts net policy config cs rules kept passes p prefix c f w scenario v k

    who_of : (v : ℕ) → Chooses v → (is_router net v && not (is_origin net policy p v) && not (is_dead f v)) ≡ true
    who_of v k =
        let a = parts_of v k in
        and_from (is_router net v && not (is_origin net policy p v)) _ (and_from (is_router net v) _ a.0 (not_from_false _ a.2)) (not_from_false _ a.1)

    hs_is : (v : ℕ) → Chooses v → hs v ≡ option_and_then node (full_at full v)
    hs_is v k = held_chosen net policy config cs rules kept passes p prefix c f w scenario X v (parts_of v k).2 k

    noded : (x : FullRoute) (y : outcomes.Route) → x.route.path ≡ y.path → graph.run Gr y.path ≡ Some y.node → node x ≡ Some y
    noded x y path runs = ap (option_map (λ n. record { path = x.route.path; node = n })) (ap (graph.run Gr) path ∙ runs) ∙ ap (λ q. Some (record { path = q; node = y.node })) path

    measured : (v u : ℕ) (k : Chooses v) (x : FullRoute) (y : outcomes.Route) → given_under net config f says p full u v ≡ Some x → x.route.path ≡ y.path → length (x.route.path ++ x.behind) ≡ size y.path
    measured v u k x y g path =
        let a = parts_of v k in
        let h = given_held net policy config f says p full rules all whole.stable v u x (and_from (is_router net v) _ a.0 (not_from_false _ a.2)) g in
        let l = length-append x.route.path x.behind in
        let b : length x.behind ≡ length (tail y.path) = ap length (h.back ∙ ap tail path) in
        let d : length x.route.path ≡ length y.path = ap length path in
        omega (arith, l, b, d)

    -- what is given, in the graph
    record Twin (v u : ℕ) (x : FullRoute) (y : outcomes.Route) : Type 0 where
      gives : given_under net config f says p full u v ≡ Some x
      hears : outcomes.heard S hs v u ≡ Some y
      noded_is : node x ≡ Some y
      path : x.route.path ≡ y.path
      pref : x.route.pref ≡ S.graph.number y.node
      measure : length (x.route.path ++ x.behind) ≡ size y.path

    down : (v u : ℕ) (k : Chooses v) (x : FullRoute) → given_under net config f says p full u v ≡ Some x → is_live net f u v ≡ true → (y : outcomes.Route) × Twin v u x y
    down v u k x g live =
        let m = match_down net policy config cs rules kept passes p prefix c f w scenario X good u v live (parts_of v k).0 x (given_same u v ∙ g) in
        (m.0, record { gives = g; hears = m.1; noded_is = noded x m.0 m.2.path m.2.runs; path = m.2.path; pref = m.2.pref; measure = measured v u k x m.0 g m.2.path })

    up : (v u : ℕ) (k : Chooses v) (y : outcomes.Route) → outcomes.heard S hs v u ≡ Some y → (x : FullRoute) × Twin v u x y
    up v u k y h =
        let live = (and_parts (is_live net f u v) _ (heard_parts S hs v u y h).carries).0 in
        let m = match_up net policy config cs rules kept passes p prefix c f w scenario X good u v live (parts_of v k).0 y h in
        let g = sym (given_same u v) ∙ m.1 in
        (m.0, record { gives = g; hears = h; noded_is = noded m.0 y m.2.path m.2.runs; path = m.2.path; pref = m.2.pref; measure = measured v u k m.0 y g m.2.path })

    -- what a router that chooses holds is given to it
    mine : (v : ℕ) (k : Chooses v) (x : outcomes.Route) → hs v ≡ Some x → (t : FullRoute) × (full_at full v ≡ Some t) × (u : ℕ) × Twin v u t x
    mine v k x e =
        let t = option_and_then_parts node (full_at full v) x (sym (hs_is v k) ∙ e) in
        let g = (whole.stable.chooses v (who_of v k)).given_by t.0 t.1 in
        let d = down v g.0 k t.0 g.1 (given-parts net policy config f says p full g.0 v t.0 g.1).0 in
        let same : d.0 ≡ x = same_Some d.0 x (sym d.1.noded_is ∙ t.2) in
        (t.0, t.1, g.0, subst (Twin v g.0 t.0) same d.1)

    first : (v u z : ℕ) (k : Chooses v) (t g : FullRoute) (x y : outcomes.Route) → full_at full v ≡ Some t → Twin v u t x → Twin v z g y → IsNoLaterUnder net t g
    first v u z k t g x y e a b = whole.first v z t g (who_of v k) e b.gives

    pub is_named : IsNamedOutcome S size hs
    is_named = record {
      partly = record {
        own = λ v o. held_own net policy config cs rules kept passes p prefix c f w scenario X v o;
        none = λ v o k. held_none net policy config cs rules kept passes p prefix c f w scenario X v o k;
        given = λ v x k e. (let m = mine v k x e in (m.2, m.3.hears));
      };
      top = λ v k. top v k (hs v) refl;
      named = λ v z x y k e h number measure.
          let m = mine v k x e in
          let g = up v z k y h in
          let n = first v m.2 z k m.0 g.0 x y m.1 m.3 g.1 in
          let p1 = m.3.pref in
          let p2 = g.1.pref in
          let m1 = m.3.measure in
          let m2 = g.1.measure in
          let low = n.lower (omega (arith, p1, p2, number)) (omega (arith, m1, m2, measure)) in
          let a : id_of net (law.giver m.0.route.path) ≡ S.net.name (law.giver x.path) = ap (λ (q : List ℕ). id_of net (law.giver q)) m.3.path in
          let b : id_of net (law.giver g.0.route.path) ≡ S.net.name (law.giver y.path) = ap (λ (q : List ℕ). id_of net (law.giver q)) g.1.path in
          omega (arith, low, a, b);
    }
      where
        ties : (v : ℕ) (k : Chooses v) (x : outcomes.Route) → hs v ≡ Some x → (u : ℕ) × TiesAt S size hs v u x
        ties v k x e =
            let m = mine v k x e in (
              m.2,
              (
                m.3.hears,
                λ z y h.
                    let g = up v z k y h in
                    let n = first v m.2 z k m.0 g.0 x y m.1 m.3 g.1 in
                    let p1 = m.3.pref in
                    let p2 = g.1.pref in
                    let m1 = m.3.measure in
                    let m2 = g.1.measure in
                    let high = n.higher in
                    record { number = omega (arith, high, p1, p2); shorter = λ q. (let s = n.fewer (omega (arith, p1, p2, q)) in omega (arith, s, m1, m2)) },
              ),
            )

        top : (v : ℕ) (k : Chooses v) (o : Option outcomes.Route) → hs v ≡ o → IsTop S size hs v (hs v)
        top v k (Some x) e = subst (IsTop S size hs v) (sym e) (ties v k x e)
        top v k None e = subst (IsTop S size hs v) (sym e) (λ u. none_from (outcomes.heard S hs v u) (λ y h.
            let g = up v u k y h in
            let t = (whole.stable.chooses v (who_of v k)).best u g.0 g.1.gives in
            let fx = fine_at v t.0 t.1 in
            let o = (parts_of v k).2 in
            let n = node_is net policy config cs rules kept passes p prefix c f w scenario v t.0 fx o in
            none_or_some (hs v) (record { path = t.0.route.path; node = (fx.other o).node }) e (hs_is v k ∙ ap (option_and_then node) t.1 ∙ n)))

  -- ---- two of them

  module _ (a b : FullOutcome) (size_a : length a ≡ length net.routers) (size_b : length b ≡ length net.routers)
      (fa : IsFullyStableUnder net policy config f says p a) (fb : IsFullyStableUnder net policy config f says p b) where
    meets : graph.MeetsRules (network_of net (is_origin net policy p)) (Graph net policy config cs rules kept passes p prefix c)
    meets = subst (λ (o : ℕ → Bool). graph.MeetsRules (network_of net o) (Graph net policy config cs rules kept passes p prefix c)) c.same c.numbers

    alike : (v : ℕ) → hs a size_a fa v ≡ hs b size_b fb v
    alike v =
        named_outcomes_are_one S size (hs a size_a fa) (hs b size_b fb) (names_differ net (is_origin net policy p) rules) sized
        (lines_here net policy config cs rules kept passes p no_failures c).formed meets (is_named a size_a fa) (is_named b size_b fb) v

    same_pair : (x y : Tag) → pair_of x ≡ pair_of y → x ≡ y
    same_pair x y e = ap tag_of e

    chosen_same : (v : ℕ) → law.chooses S.net S.alive v ≡ true → is_origin net policy p v ≡ false → full_at a v ≡ full_at b v
    chosen_same v k o = by (full_at a v) refl (full_at b v) refl (sym (hs_is a size_a fa v k) ∙ alike v ∙ hs_is b size_b fb v k)
      where
        by : (x : Option FullRoute) → full_at a v ≡ x → (y : Option FullRoute) → full_at b v ≡ y → option_and_then node (full_at a v) ≡ option_and_then node (full_at b v) → full_at a v ≡ full_at b v
        by None e None g n = e ∙ sym g
        by None e (Some y) g n =
            let h = fine_at b size_b fb v y g in
            absurd (none_or_some (option_and_then node (full_at b v)) (record { path = y.route.path; node = (h.other o).node }) (sym n ∙ ap (option_and_then node) e)
            (ap (option_and_then node) g ∙ node_is net policy config cs rules kept passes p prefix c f w scenario v y h o))
        by (Some x) e None g n =
            let h = fine_at a size_a fa v x e in
            absurd (none_or_some (option_and_then node (full_at a v)) (record { path = x.route.path; node = (h.other o).node }) (n ∙ ap (option_and_then node) g)
            (ap (option_and_then node) e ∙ node_is net policy config cs rules kept passes p prefix c f w scenario v x h o))
        by (Some x) e (Some y) g n =
            let hx = fine_at a size_a fa v x e in
            let hy = fine_at b size_b fb v y g in
            let fx = hx.other o in
            let fy = hy.other o in
            let nx = node_is net policy config cs rules kept passes p prefix c f w scenario v x hx o in
            let ny = node_is net policy config cs rules kept passes p prefix c f w scenario v y hy o in
            let one : record { path = x.route.path; node = fx.node } ≡ record { path = y.route.path; node = fy.node } =
            same_Some (record { path = x.route.path; node = fx.node }) (record { path = y.route.path; node = fy.node }) (sym nx ∙ sym (ap (option_and_then node) e) ∙ n ∙ ap (option_and_then node) g ∙ ny) in
            let path : x.route.path ≡ y.route.path = ap (λ (z : outcomes.Route). z.path) one in
            let nodes : fx.node ≡ fy.node = ap (λ (z : outcomes.Route). z.node) one in
            let tag : x.route.tag ≡ y.route.tag = same_pair x.route.tag y.route.tag (fx.tag_is ∙ ap (pairs_of c.d) nodes ∙ sym fy.tag_is) in
            let pref : x.route.pref ≡ y.route.pref = fx.pref_is ∙ ap Gr.number nodes ∙ sym fy.pref_is in
            let back_x = (held_so net policy config f says p a rules size_a fa.stable v x e).back in
            let back_y = (held_so net policy config f says p b rules size_b fb.stable v y g).back in
            let back : x.behind ≡ y.behind = back_x ∙ ap tail path ∙ sym back_y in
            e ∙ (λ i. Some (record { route = record { path = path i; tag = tag i; pref = pref i }; behind = back i })) ∙ sym g

    pub case_one : (v : ℕ) → is_router net v ≡ true → is_dead f v ≡ false → is_origin net policy p v ≡ false → full_at a v ≡ full_at b v
    case_one v router up o = chosen_same v (chooses_from S v router (ap not up) o) o

module _ (net : PlainNet) (policy : PlainPolicy) (config : PlainConfig) (cs : List PlainCaseEvidence) (rules : IsNet net)
    (kept : IsPolicyOf net policy) (passes : Passes net policy config cs) (p : PlainPrefix) (prefix : IsPrefix p) (f : Failures) (says : Announcements)
    (mute : (r q : ℕ) → (not (is_silent f r q)) ≡ true) (a b : FullOutcome) (size_a : length a ≡ length net.routers) (size_b : length b ≡ length net.routers)
    (fa : IsFullyStableUnder net policy config f says p a) (fb : IsFullyStableUnder net policy config f says p b) where
  -- without a class nobody is given anything
  bare : class_of config p ≡ None → (o : FullOutcome) → IsFullyStableUnder net policy config f says p o → (v : ℕ) → (is_router net v && not (is_origin net policy p v) && not (is_dead f v)) ≡ true → full_at o v ≡ None
  bare free o fo v who = none_from (full_at o v) (λ t e.
      let g = (fo.stable.chooses v who).given_by t e in
      none_or_some (given_under net config f says p o g.0 v) t (none_given net policy config f says p o free g.0 v) g.1)

  one_route : (v : ℕ) → is_router net v ≡ true → full_at a v ≡ full_at b v
  one_route v router = elim (cases_Bool (is_dead f v)) [
    | inl d ↦ fa.stable.dead v d ∙ sym (fb.stable.dead v d)
    | inr up ↦ elim (cases_Bool (is_origin net policy p v)) [
      | inl o ↦ (
          let who = and_from (is_router net v && is_origin net policy p v) _ (and_from (is_router net v) _ router o) (not_from_false _ up) in
          fa.stable.own v who ∙ sym (fb.stable.own v who))
      | inr o ↦ elim (case_or_bare net policy config cs rules kept passes no_failures p prefix) [
        | inl c ↦ case_one net policy config cs rules kept passes p prefix c f says mute a b size_a size_b fa fb v router up o
        | inr free ↦ (
            let who = and_from (is_router net v && not (is_origin net policy p v)) _ (and_from (is_router net v) _ router (not_from_false _ o)) (not_from_false _ up) in
            bare free a fa v who ∙ sym (bare free b fb v who))
      ]
    ]
  ]

  pub same_outcome : a ≡ b
  same_outcome = same_options a b (size_a ∙ sym size_b) (λ v l. one_route v (lt-ltb v (length net.routers) (omega (arith, l, size_a))))

pub fully_stable_are_one : FullyStableUnderAreOne
fully_stable_are_one net policy config cs rules kept passes p f says prefix mute a b size_a size_b fa fb = same_outcome net policy config cs rules kept passes p prefix f says mute a b size_a size_b fa fb
