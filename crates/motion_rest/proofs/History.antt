-- What routers hold over time, in the graph: rounds and steadiness, as `steady_law` asks for them.
use Rattle.std.proofs.Common.{◌≡◌, ℕ, ◌<◌, ◌≤◌, ◌+◌, ◌-◌, suc, Bool, true, false, ◌⊎◌, List, [], ◌∷◌, ◌++◌, length, Option, Some, None, refl, sym, ap, ◌∙◌, subst, inl, inr, arith}
use Rattle.std.specs.Prelude.{not, option_map}
use Rattle.std.specs.Option.{option_and_then}
use Rattle.std.proofs.lemmas.Bool.{and_parts, cases_Bool, cond-true, cond-false, ltb-true, not-true, true≢false}
use Rattle.std.proofs.lemmas.List.{length-append}
use Rattle.std.proofs.lemmas.Option.{same_Some}
use Rattle.list_law.proofs.Options.{cases_Option, none_from, none_or_some, option_and_then_parts}
use Rattle.net_base.specs.declared.numbers.Tag.{Tag}
use Rattle.net_base.specs.Network.{PlainNet, IsNet, is_peer, is_router, linked}
use Rattle.net_base.specs.Prefixes.{PlainPrefix, IsPrefix}
use Rattle.net_base.proofs.Links.{linked_flips}
use Rattle.net_base.proofs.RoutersAndPeers.{router_no_peer}
use Rattle.policy_base.specs.Policies.{PlainPolicy, IsPolicyOf}
use Rattle.policy_base.specs.Governing.{is_origin}
use Rattle.config_base.specs.Configs.{PlainConfig}
use Rattle.config_base.specs.Lines.{class_of}
use Rattle.evidence_base.specs.Made.{PlainCaseEvidence}
use Rattle.outcome_base.specs.Announcements.{Announced, FullRoute, Sent, given_under, taken_under}
use Rattle.outcome_base.specs.Outcomes.{Failures, is_dead, is_live, no_failures}
use Rattle.evidence_law.specs.Passes.{Passes}
use Rattle.evidence_law.proofs.Setting.{pair_of, pairs_of, tag_of}
use Rattle.settled_law.proofs.SettledLaw.{CaseFound}
use Rattle.routing_law.specs.Graph as graph
use Rattle.routing_law.specs.Network as law
use Rattle.routing_law.specs.Outcome as outcomes
use Rattle.routing_law.proofs.Heard.{chooses_from, heard_parts}
use Rattle.event_law.proofs.Offers.{lines_here}
use Rattle.tie_law.specs.Ties.{IsSize}
use Rattle.steady_law.proofs.Paths.{short as short_path}
use Rattle.steady_law.specs.Histories.{AreStill, AreTied, History, HoldsRuns, IsRound as IsRoundOf, IsSteady, IsToldOf, IsTop, TiesAt}
use Rattle.motion_law.specs.Motion.{Motion, announced, gift, has_to_say, is_top, live_in, picked, told}
use Rattle.motion_law.specs.Rounds.{IsCalm, IsRound, Schedule, world_at}
use Rattle.motion_law.proofs.Kept.{IsKept}
use Rattle.motion_law.proofs.Memory.{since}
use Rattle.motion_law.proofs.Within.{AreKinds}
use Rattle.motion_rest.proofs.Choices.{picked_held, picked_none, picked_some, top_from, top_parts}
use Rattle.motion_rest.proofs.Match.{Good, G, IsFineAt, chooser_parts, held, held_chosen, held_none, held_own, live_same, match_down, match_up, node_is, node_of, setup}
use Rattle.motion_rest.proofs.Sources.{MadeAt, current_after, current_given, fine_at, from_at, good_at, later, made_at, made_picked, tail}
use Rattle.motion_rest.proofs.Still.{Chose, chooses_picked, heard_is, marks_at, no_news, route_stepped}
use Rattle.motion_rest.specs.Rest.{IsScenarioIn, full_of}

module _ (net : PlainNet) (policy : PlainPolicy) (config : PlainConfig) (cs : List PlainCaseEvidence) (rules : IsNet net)
    (kept : IsPolicyOf net policy) (passes : Passes net policy config cs) (p : PlainPrefix) (prefix : IsPrefix p)
    (c : CaseFound net policy config cs rules kept passes no_failures p) (f : Failures) (w : Motion) (scenario : IsScenarioIn net w f)
    (s : Schedule) (calm : IsCalm s) (keeps : IsKept net policy config p w) (kinds : AreKinds net policy config p rules w)
    (time : ℕ → ℕ) (grows : (k : ℕ) → time k ≤ time (suc k)) (count : ℕ) (rounds : (k : ℕ) → k < count → IsRound net policy config p s w (time k) (time (suc k))) (one : 0 < count)
    (few : length net.routers ≤ count) where
  abbrev X : ℕ → Motion
  X t = world_at net policy config p s w t

  abbrev pub Set : outcomes.Setup
  Set = setup net policy config cs rules kept passes p prefix c f w scenario

  abbrev Gr : graph.Graph
  Gr = G net policy config cs rules kept passes p prefix c f w scenario

  abbrev pub h : History
  h t = held net policy config cs rules kept passes p prefix c f w scenario (X t)

  abbrev GoodAt : ℕ → Type 0
  GoodAt t = Good net policy config cs rules kept passes p prefix c f w scenario (X t)

  good : (t : ℕ) → time 1 ≤ t → GoodAt t
  good = good_at net policy config cs rules kept passes p prefix c f w scenario s calm keeps kinds time grows count rounds one

  abbrev node : FullRoute → Option outcomes.Route
  node = node_of net policy config cs rules kept passes p prefix c f w scenario

  abbrev behind : List ℕ → List ℕ
  behind = tail net policy config cs rules kept passes p prefix c f w scenario s calm keeps kinds time grows count rounds

  -- the number of AS numbers of a whole path
  abbrev pub size : List ℕ → ℕ
  size q = length q + length (behind q)

  pub sized : IsSize Set size
  sized = record { some = λ v q. omega arith; grows = λ v u q k. by v u q (router_no_peer net u (and_parts (is_router net u) _ k).0) }
    where
      by : (v u : ℕ) (q : List ℕ) → is_peer net u ≡ false → size (v ∷ u ∷ q) ≡ suc (size (u ∷ q))
      by v u [] off = (let none : length (behind (v ∷ u ∷ [])) ≡ 0 = ap length (cond-false (is_peer net u) _ [] off) in omega (arith, none))
      by v u (z ∷ q) off = omega arith

  -- ---- from the time on at which all that is held is current

  abbrev pub enough : ℕ
  enough = length net.routers

  -- that isn't before the first round, where there is a router
  first_of : (r i : ℕ) → is_router net r ≡ true → enough ≤ i → time 1 ≤ time i
  first_of r i router l =
      let some = ltb-true r (length net.routers) router in
      let e : 1 + (i - 1) ≡ i = omega (arith, l, some) in
      subst (λ k. time 1 ≤ time k) e (later net policy config cs rules kept passes p prefix c f w scenario s calm keeps kinds time grows count rounds 1 (i - 1))

  after_enough : (i : ℕ) → enough ≤ i → time enough ≤ time i
  after_enough i l = (let e : enough + (i - enough) ≡ i = omega (arith, l) in subst (λ k. time enough ≤ time k) e (later net policy config cs rules kept passes p prefix c f w scenario s calm keeps kinds time grows count rounds enough (i - enough)))

  pub fine : (t r : ℕ) (x : FullRoute) → (X t).route r ≡ Some x → IsFineAt net policy config cs rules kept passes p prefix c f w scenario r x
  fine = fine_at net policy config cs rules kept passes p prefix c f w scenario s calm keeps kinds time grows count rounds

  short : (t r : ℕ) (x : FullRoute) → (X t).route r ≡ Some x → is_origin net policy p r ≡ false → length x.route.path ≤ suc (length net.routers)
  short t r x e o =
      let a = (fine t r x e).other o in
      let few =
      short_path (lines_here net policy config cs rules kept passes p no_failures c).formed (length net.routers) (λ v k. ltb-true v (length net.routers) k) r a.rest a.node (fine t r x e).router
      (ap (graph.run Gr) (sym a.begins) ∙ a.runs) (ap law.loop_free (sym a.begins) ∙ a.free) in
      let same : length x.route.path ≡ length (r ∷ a.rest) = ap length a.begins in
      omega (arith, few, same)

  pub current : (t r : ℕ) (x : FullRoute) → time enough ≤ t → is_origin net policy p r ≡ false → (X t).route r ≡ Some x → x.behind ≡ behind x.route.path
  current t r x late o e =
      current_after net policy config cs rules kept passes p prefix c f w scenario s calm keeps kinds time grows count rounds (length net.routers) few t late r x o e (short t r x e o)

  -- what is given then is current too
  current_gift : (t u r : ℕ) (x : FullRoute) → time enough ≤ t → is_router net r ≡ true → given_under net config f w.says p (full_of net (X t)) u r ≡ Some x → x.behind ≡ behind x.route.path
  current_gift t u r x late router e =
      current_given net policy config cs rules kept passes p prefix c f w scenario s calm keeps kinds time grows count rounds (length x.route.path) t u r x router
      (λ z y o at l. current t z y late o at) e (omega arith)

  -- ---- what is held and what is chosen over, in the graph

  pub holds_runs : HoldsRuns Set h (time enough)
  holds_runs = record {
    own = λ t v late o. held_own net policy config cs rules kept passes p prefix c f w scenario (X t) v o;
    none = λ t v late o k. held_none net policy config cs rules kept passes p prefix c f w scenario (X t) v o k;
    runs = λ t v y late k e.
        let o = (chooser_parts net policy config cs rules kept passes p prefix c f w scenario v k).2 in
        let x = option_and_then_parts node ((X t).route v) y (sym (held_chosen net policy config cs rules kept passes p prefix c f w scenario (X t) v o k) ∙ e) in
        let a = (fine t v x.0 x.1).other o in
        let same : record { path = x.0.route.path; node = a.node } ≡ y =
        same_Some (record { path = x.0.route.path; node = a.node }) y (sym (node_is net policy config cs rules kept passes p prefix c f w scenario v x.0 (fine t v x.0 x.1) o) ∙ x.2) in (
          a.rest,
          ap (λ (z : outcomes.Route). z.path) (sym same) ∙ a.begins,
          subst (λ (z : outcomes.Route). graph.run Gr z.path ≡ Some z.node) same a.runs,
          ap (λ (z : outcomes.Route). law.loop_free z.path) (sym same) ∙ a.free,
        );
  }

  -- what r makes of what it has heard from u by `now`, and the same in the graph
  record Source (since' now r u : ℕ) : Type 0 where
    then' : ℕ
    late : since' ≤ then'
    down : linked net r u ≡ true → (x : FullRoute) → gift net policy config p (X now) r u ≡ Some x
        → (y : outcomes.Route) × (outcomes.heard Set (h then') r u ≡ Some y) × (node x ≡ Some y) × (x.route.pref ≡ Set.graph.number y.node) × (length (x.route.path ++ x.behind) ≡ size y.path)
    up : (y : outcomes.Route) → outcomes.heard Set (h then') r u ≡ Some y → (linked net r u ≡ true) × (x : FullRoute) × (gift net policy config p (X now) r u ≡ Some x)
        × (node x ≡ Some y) × (x.route.pref ≡ Set.graph.number y.node) × (length (x.route.path ++ x.behind) ≡ size y.path)

  module _ (i : ℕ) (within : i < count) (start : enough ≤ i) where
    abbrev round : IsRound net policy config p s w (time i) (time (suc i))
    round = rounds i within

    source : (now r u : ℕ) → round.all_heard ≤ now → is_router net r ≡ true → Source (time i) now r u
    source now r u late router = elim (cases_Bool (linked net r u)) [
      | inr off ↦ record {
        then' = time i;
        late = omega arith;
        down = λ on. absurd (true≢false (sym on ∙ off));
        up = λ y e. absurd (true≢false (sym (carried (time i) y e) ∙ linked_flips net u r ∙ off));
      }
      | inl on ↦ elim (from_at net policy config cs rules kept passes p prefix c f w scenario s calm keeps kinds time grows count rounds i within now u r late on) [
        | inr none ↦ (
            record {
              then' = time i;
              late = omega arith;
              down = λ l x e. absurd (none_or_some (gift net policy config p (X now) r u) x none.1 e);
              up = λ y e. absurd (true≢false (sym (lives (time i) y e) ∙ none.0));
            })
        | inl from ↦ (
            let k = from.since_start in
            let g = good from.then' (let l = first_of r i router start in omega (arith, k, l)) in
            record {
              then' = from.then';
              late = from.since_start;
              down = λ l x e.
                  let given = sym from.is ∙ e in
                  let m = match_down net policy config cs rules kept passes p prefix c f w scenario (X from.then') g u r from.live router x given in
                  (m.0, m.1, noded x m.0 m.2.path m.2.runs, m.2.pref, measured x m.0 m.2.path (current_gift from.then' u r x (let l = after_enough i start in omega (arith, k, l)) router given));
              up = λ y e.
                  let m = match_up net policy config cs rules kept passes p prefix c f w scenario (X from.then') g u r from.live router y e in
                  (on, m.0, from.is ∙ m.1, noded m.0 y m.2.path m.2.runs, m.2.pref, measured m.0 y m.2.path (current_gift from.then' u r m.0 (let l = after_enough i start in omega (arith, k, l)) router m.1));
            })
      ]
    ]
      where
        lives : (t : ℕ) (y : outcomes.Route) → outcomes.heard Set (h t) r u ≡ Some y → is_live net f u r ≡ true
        lives t y e = (and_parts (is_live net f u r) _ (heard_parts Set (h t) r u y e).carries).0

        carried : (t : ℕ) (y : outcomes.Route) → outcomes.heard Set (h t) r u ≡ Some y → linked net u r ≡ true
        carried t y e = (and_parts _ _ (and_parts _ _ (and_parts _ _ (lives t y e)).0).0).0

        noded : (x : FullRoute) (y : outcomes.Route) → x.route.path ≡ y.path → graph.run Gr y.path ≡ Some y.node → node x ≡ Some y
        noded x y path runs = ap (option_map (λ n. record { path = x.route.path; node = n })) (ap (graph.run Gr) path ∙ runs) ∙ ap (λ q. Some (record { path = q; node = y.node })) path

        measured : (x : FullRoute) (y : outcomes.Route) → x.route.path ≡ y.path → x.behind ≡ behind x.route.path → length (x.route.path ++ x.behind) ≡ size y.path
        measured x y path cur =
            let a = length-append x.route.path x.behind in
            let b : length x.behind ≡ length (behind y.path) = ap length (cur ∙ ap behind path) in
            let d : length x.route.path ≡ length y.path = ap length path in
            omega (arith, a, b, d)

    -- what r was told of each location by `now`
    module _ (now r : ℕ) (late : round.all_heard ≤ now) (router : is_router net r ≡ true) where
      abbrev told_then : outcomes.Routes
      told_then u = h (source now r u late router).then' u

      is_told : IsToldOf h (time i) told_then
      is_told u = ((source now r u late router).then', (source now r u late router).late, refl)

      -- what is on top is one of the first of it
      top_ties : (u : ℕ) → is_top net policy config p (X now) r u ≡ true
          → (x : FullRoute) × (gift net policy config p (X now) r u ≡ Some x) × (y : outcomes.Route) × (node x ≡ Some y) × TiesAt Set size told_then r u y
      top_ties u top =
          let t = top_parts net policy config p rules (X now) r u top in
          let d = (source now r u late router).down t.0 t.1 t.2 in (
            t.1,
            t.2,
            d.0,
            d.2,
            (
              d.1,
              λ z y e.
                  let g = (source now r z late router).up y e in
                  let n = t.3 z g.1 g.0 g.2 in
                  let pref = d.3 in
                  let len = d.4 in
                  let pref' = g.4 in
                  let len' = g.5 in
                  let high = n.higher in
                  record { number = omega (arith, high, pref, pref'); shorter = λ q. (let m = n.fewer (omega (arith, q, pref, pref')) in omega (arith, m, len, len')) },
            ),
          )

      -- and the other way round
      ties_top : (u : ℕ) (y : outcomes.Route) → TiesAt Set size told_then r u y
          → (is_top net policy config p (X now) r u ≡ true) × (x : FullRoute) × (gift net policy config p (X now) r u ≡ Some x) × (node x ≡ Some y)
      ties_top u y ties =
          let g = (source now r u late router).up y ties.0 in
          let pref = g.4 in
          let len = g.5 in (
            top_from net policy config p rules (X now) r u g.1 g.0 g.2 (λ z x on e.
                let d = (source now r z late router).down on x e in
                let n = ties.1 z d.0 d.1 in
                let pref' = d.3 in
                let len' = d.4 in
                let high = n.number in
                record { higher = omega (arith, high, pref, pref'); fewer = λ q. (let m = n.shorter (omega (arith, q, pref, pref')) in omega (arith, m, len, len')) }),
            g.1,
            g.2,
            g.3,
          )

      none_told : ((u : ℕ) → linked net r u ≡ true → gift net policy config p (X now) r u ≡ None) → (u : ℕ) → outcomes.heard Set told_then r u ≡ None
      none_told none u = none_from (outcomes.heard Set told_then r u) (λ y e.
          let g = (source now r u late router).up y e in
          none_or_some (gift net policy config p (X now) r u) g.1 (none u g.0) g.2)

    abbrev Chooses : ℕ → Type 0
    Chooses v = law.chooses Set.net Set.alive v ≡ true

    -- what a router that chooses holds
    held_is : (t v : ℕ) → Chooses v → h t v ≡ option_and_then node ((X t).route v)
    held_is t v k = held_chosen net policy config cs rules kept passes p prefix c f w scenario (X t) v (chooser_parts net policy config cs rules kept passes p prefix c f w scenario v k).2 k

    abbrev MadeThen : ℕ → ℕ → Type 0
    MadeThen t v = MadeAt net policy config cs rules kept passes p prefix c f w scenario s calm keeps kinds time grows count rounds i within t v

    made_then : (t v : ℕ) → time (suc i) ≤ t → Chooses v → (m : MadeThen t v) × ((X t).route v ≡ picked net policy config p (X m.time) v m.by)
    made_then t v late k =
        let parts = chooser_parts net policy config cs rules kept passes p prefix c f w scenario v k in
        let m = made_at net policy config cs rules kept passes p prefix c f w scenario s calm keeps kinds time grows count rounds i within v parts.0 t late in
        (m, made_picked net policy config cs rules kept passes p prefix c f w scenario s calm keeps kinds time grows count rounds i within v t m parts.0 parts.1 parts.2)

    is_round : IsRoundOf Set size h (time i) (time (suc i))
    is_round t v late k =
        let router = (chooser_parts net policy config cs rules kept passes p prefix c f w scenario v k).0 in
        let m = made_then t v late k in
        let o = told_then m.0.time v m.0.late router in
        let is = held_is t v k ∙ ap (option_and_then node) m.1 in (
          o,
          is_told m.0.time v m.0.late router,
          elim (cases_Option (picked net policy config p (X m.0.time) v m.0.by)) [
            | inl none ↦
                subst (IsTop Set size o v) (sym (is ∙ ap (option_and_then node) none))
                (none_told m.0.time v m.0.late router (picked_none net policy config p rules (X m.0.time) v m.0.by none))
            | inr x ↦ (
                let top = picked_some net policy config p rules (X m.0.time) v m.0.by x.0 x.1 in
                let t = top_ties m.0.time v m.0.late router top.0 top.1 in
                let same : t.0 ≡ x.0 = same_Some t.0 x.0 (sym t.1 ∙ top.2) in
                subst (IsTop Set size o v) (sym (is ∙ ap (option_and_then node) x.1 ∙ ap node (sym same) ∙ t.3)) (top.0, t.4))
          ],
        )

  -- ---- who holds the same says the same

  same_pair : (x y : Tag) → pair_of x ≡ pair_of y → x ≡ y
  same_pair x y e = ap tag_of e

  pub routes_same : (t t' z : ℕ) → time enough ≤ t → time enough ≤ t' → is_router net z ≡ true → w.down z ≡ false → h t z ≡ h t' z → (X t).route z ≡ (X t').route z
  routes_same t t' z late late' router up same = elim (cases_Bool (is_origin net policy p z)) [
    | inl o ↦ (good t (omega (arith, late, first_of z enough router (omega arith)))).own z router up o ∙ sym ((good t' (omega (arith, late', first_of z enough router (omega arith)))).own z router up o)
    | inr o ↦ (
        let k : law.chooses Set.net Set.alive z ≡ true = chooses_from Set z router (ap not (scenario.dead z ∙ up)) o in
        by o ((X t).route z) refl ((X t').route z) refl
        (sym (held_chosen net policy config cs rules kept passes p prefix c f w scenario (X t) z o k) ∙ same ∙ held_chosen net policy config cs rules kept passes p prefix c f w scenario (X t') z o k))
  ]
    where
      by : is_origin net policy p z ≡ false → (a : Option FullRoute) → (X t).route z ≡ a → (b : Option FullRoute) → (X t').route z ≡ b
          → option_and_then node ((X t).route z) ≡ option_and_then node ((X t').route z) → (X t).route z ≡ (X t').route z
      by o None e None g n = e ∙ sym g
      by o None e (Some y) g n =
          let a = node_is net policy config cs rules kept passes p prefix c f w scenario z y (fine t' z y g) o in
          absurd (none_or_some (option_and_then node ((X t').route z)) (record { path = y.route.path; node = ((fine t' z y g).other o).node }) (sym n ∙ ap (option_and_then node) e) (ap (option_and_then node) g ∙ a))
      by o (Some x) e None g n =
          let a = node_is net policy config cs rules kept passes p prefix c f w scenario z x (fine t z x e) o in
          absurd (none_or_some (option_and_then node ((X t).route z)) (record { path = x.route.path; node = ((fine t z x e).other o).node }) (n ∙ ap (option_and_then node) g) (ap (option_and_then node) e ∙ a))
      by o (Some x) e (Some y) g n =
          let fx = (fine t z x e).other o in
          let fy = (fine t' z y g).other o in
          let a = node_is net policy config cs rules kept passes p prefix c f w scenario z x (fine t z x e) o in
          let b = node_is net policy config cs rules kept passes p prefix c f w scenario z y (fine t' z y g) o in
          let one : record { path = x.route.path; node = fx.node } ≡ record { path = y.route.path; node = fy.node } =
          same_Some (record { path = x.route.path; node = fx.node }) (record { path = y.route.path; node = fy.node }) (sym a ∙ sym (ap (option_and_then node) e) ∙ n ∙ ap (option_and_then node) g ∙ b) in
          let path : x.route.path ≡ y.route.path = ap (λ (v : outcomes.Route). v.path) one in
          let nodes : fx.node ≡ fy.node = ap (λ (v : outcomes.Route). v.node) one in
          let tag : x.route.tag ≡ y.route.tag = same_pair x.route.tag y.route.tag (fx.tag_is ∙ ap (pairs_of c.d) nodes ∙ sym fy.tag_is) in
          let pref : x.route.pref ≡ y.route.pref = fx.pref_is ∙ ap Gr.number nodes ∙ sym fy.pref_is in
          let back : x.behind ≡ y.behind = current t z x late o e ∙ ap behind path ∙ sym (current t' z y late' o g) in
          e ∙ (λ i. Some (record { route = record { path = path i; tag = tag i; pref = pref i }; behind = back i })) ∙ sym g

  pub says_same : (t t' z b : ℕ) → time enough ≤ t → time enough ≤ t' → is_live net f z b ≡ true → h t z ≡ h t' z → has_to_say net policy config p (X t) z b ≡ has_to_say net policy config p (X t') z b
  says_same t t' z b late late' live same = elim (cases_Bool (is_router net z)) [
    | inl router ↦ (
        let dead = not-true (is_dead f z) (and_parts _ (not (is_dead f z)) (and_parts _ (not (is_dead f b)) live).0).1 in
        let routes = routes_same t t' z late late' router (sym (scenario.dead z) ∙ dead) same in
        cond-true (is_router net z) (told net policy config p z b ((X t).route z)) (option_map (announced net policy config p z) ((X t).says z b)) router
        ∙ ap (told net policy config p z b) routes
        ∙ sym (cond-true (is_router net z) (told net policy config p z b ((X t').route z)) (option_map (announced net policy config p z) ((X t').says z b)) router))
    | inr off ↦
        cond-false (is_router net z) (told net policy config p z b ((X t).route z)) (option_map (announced net policy config p z) ((X t).says z b)) off
        ∙ ap (λ (g : ℕ → ℕ → Option Announced). option_map (announced net policy config p z) (g z b)) ((marks_at net policy config p s calm w keeps t).says ∙ sym (marks_at net policy config p s calm w keeps t').says)
        ∙ sym (cond-false (is_router net z) (told net policy config p z b ((X t').route z)) (option_map (announced net policy config p z) ((X t').says z b)) off)
  ]

  -- ---- steadiness

  module _ (i : ℕ) (within : i < count) (start : enough ≤ i) (v : ℕ) (tied : ℕ → Bool) (k : law.chooses Set.net Set.alive v ≡ true)
      (ties : AreTied Set size h (time i) v tied) (still : AreStill h (time i) tied) where
    abbrev ro : IsRound net policy config p s w (time i) (time (suc i))
    ro = rounds i within

    v_router : is_router net v ≡ true
    v_router = (chooser_parts net policy config cs rules kept passes p prefix c f w scenario v k).0

    -- who ties goes on saying the same, and b has heard it
    tied_live : (now z : ℕ) → ro.all_heard ≤ now → tied z ≡ true → is_live net f z v ≡ true
    tied_live now z late t =
        let o = ties (told_then i within start now v late v_router) (is_told i within start now v late v_router) z in
        let y = o.0 t in
        (and_parts (is_live net f z v) _ (heard_parts Set (told_then i within start now v late v_router) v z y.0 y.1.0).carries).0

    from_start : time enough ≤ time i
    from_start = after_enough i start

    same_said : (z : ℕ) → tied z ≡ true → is_live net f z v ≡ true → (t : ℕ) → time i ≤ t → has_to_say net policy config p (X t) z v ≡ has_to_say net policy config p (X (time i)) z v
    same_said z t live j l = says_same j (time i) z v (let m = from_start in omega (arith, m, l)) from_start live (still z t j l)

    alive_in : (z : ℕ) → is_live net f z v ≡ true → live_in net policy config p w z v ≡ true
    alive_in z live = sym (live_same net policy config p f w scenario w (marks_at net policy config p s calm w keeps 0) z v) ∙ live

    tied_heard : (now z : ℕ) → ro.all_heard ≤ now → tied z ≡ true → (X now).heard z v ≡ has_to_say net policy config p (X (time i)) z v
    tied_heard now z late t =
        let live = tied_live now z late t in
        heard_is net policy config p s calm w keeps (time i) (time (suc i)) ro z v (alive_in z live) (has_to_say net policy config p (X (time i)) z v) (same_said z t live) now late

    tied_quiet : (now z : ℕ) → time (suc i) ≤ now → tied z ≡ true → (X now).news z v ≡ false
    tied_quiet now z late t =
        let o = ro.order in
        let live = tied_live now z (omega (arith, o.2, late)) t in
        no_news net policy config p s calm w keeps (time i) (time (suc i)) ro z v (alive_in z live) (has_to_say net policy config p (X (time i)) z v) (same_said z t live) v_router now late

    -- what is on top at some time ties
    top_tied : (now z : ℕ) → ro.all_heard ≤ now → is_top net policy config p (X now) v z ≡ true → tied z ≡ true
    top_tied now z late top =
        let a = top_ties i within start now v late v_router z top in
        (ties (told_then i within start now v late v_router) (is_told i within start now v late v_router) z).1 a.2 a.4

    tied_top : (now z : ℕ) → ro.all_heard ≤ now → tied z ≡ true → is_top net policy config p (X now) v z ≡ true
    tied_top now z late t =
        let y = (ties (told_then i within start now v late v_router) (is_told i within start now v late v_router) z).0 t in
        (ties_top i within start now v late v_router z y.0 y.1).0

    -- so what would be picked is what is held
    picks_again : (t u : ℕ) → time (suc i) ≤ t → picked net policy config p (X t) v u ≡ (X t).route v
    picks_again t u late =
        let o = ro.order in
        let heard' : ro.all_heard ≤ t = omega (arith, o.2, late) in
        let m = made_then i within start t v late k in
        by heard' m (picked net policy config p (X m.0.time) v m.0.by) refl
      where
        by : ro.all_heard ≤ t → (m : (m : MadeThen i within start t v) × ((X t).route v ≡ picked net policy config p (X m.time) v m.by))
            → (x : Option FullRoute) → picked net policy config p (X m.0.time) v m.0.by ≡ x → picked net policy config p (X t) v u ≡ (X t).route v
        by heard' m None e =
            let none : picked net policy config p (X t) v u ≡ None = none_from (picked net policy config p (X t) v u) (λ x g.
            let top = picked_some net policy config p rules (X t) v u x g in
            let then' = tied_top m.0.time top.0 m.0.late (top_tied t top.0 heard' top.1) in
            let parts = top_parts net policy config p rules (X m.0.time) v top.0 then' in
            none_or_some (gift net policy config p (X m.0.time) v top.0) parts.1 (picked_none net policy config p rules (X m.0.time) v m.0.by e top.0 parts.0) parts.2) in
            none ∙ sym (m.1 ∙ e)
        by heard' m (Some x) e =
            let top = picked_some net policy config p rules (X m.0.time) v m.0.by x e in
            let t' = top_tied m.0.time top.0 m.0.late top.1 in
            let heard_same : (X t).heard top.0 v ≡ (X m.0.time).heard top.0 v = tied_heard t top.0 heard' t' ∙ sym (tied_heard m.0.time top.0 m.0.late t') in
            let gives : gift net policy config p (X t) v top.0 ≡ (X t).route v =
            ap (λ (g : Option Sent). option_and_then (λ class. option_and_then (taken_under net config class v top.0) g) (class_of config p)) heard_same ∙ top.2 ∙ sym (m.1 ∙ e) in
            picked_held net policy config p rules (X t) v u top.0 (tied_top t top.0 heard' t') gives (λ z on. tied_quiet t z late (top_tied t z heard' on))

    stays_with : (t : ℕ) → time (suc i) ≤ t → h t v ≡ h (time (suc i)) v
    stays_with = since (λ t. h t v ≡ h (time (suc i)) v) (time (suc i)) refl (λ t late before. held_is i within start (suc t) v k ∙ ap (option_and_then node) (by t late (route_stepped net policy config p (s t) (X t) v (calm t))) ∙ sym (held_is i within start t v k) ∙ before)
      where
        by : (t : ℕ) → time (suc i) ≤ t → ((X (suc t)).route v ≡ (X t).route v) ⊎ Chose net policy config p (s t) (X t) v → (X (suc t)).route v ≡ (X t).route v
        by t late (inl same) = same
        by t late (inr chose) =
            let parts = chooser_parts net policy config cs rules kept passes p prefix c f w scenario v k in
            let down : (X t).down v ≡ false = ap (λ (g : ℕ → Bool). g v) (marks_at net policy config p s calm w keeps t).down ∙ parts.1 in
            chose.2 ∙ chooses_picked net policy config p (X t) v chose.0 parts.0 down parts.2 ∙ picks_again t chose.0 late

  pub is_steady : (i : ℕ) → i < count → enough ≤ i → IsSteady Set size h (time i) (time (suc i))
  is_steady i within start v tied k ties still t late = stays_with i within start v tied k ties still t late

  pub are_rounds : (i : ℕ) → i < count → enough ≤ i → IsRoundOf Set size h (time i) (time (suc i))
  are_rounds = is_round
