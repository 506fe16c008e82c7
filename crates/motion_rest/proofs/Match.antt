-- What a router makes of what a neighbour has to say is what the graph of the prefix's case does with the neighbour's route.
use Rattle.std.proofs.Common.{◌≡◌, ℕ, suc, Bool, true, false, List, [], ◌∷◌, length, Option, Some, None, refl, sym, ap, ◌∙◌, subst, inl, inr}
use Rattle.std.specs.Prelude.{◌&&◌, not, option_map, if◌then◌else◌}
use Rattle.std.specs.List.{list_any}
use Rattle.std.specs.Option.{option_and_then}
use Rattle.std.proofs.Math.Bool.{and_assoc}
use Rattle.std.proofs.lemmas.Bool.{and_left, and_parts, cases_Bool, cond-true, cond-false, ltb-true, not-true}
use Rattle.std.proofs.lemmas.Option.{same_Some, slice_get-map}
use Rattle.list_law.proofs.Options.{none_or_some, option_and_then_parts, option_map_parts}
use Rattle.net_base.specs.declared.numbers.Tag.{Tag}
use Rattle.net_base.specs.Locations.{numbers_below}
use Rattle.net_base.specs.Network.{PlainNet, IsNet, is_peer, is_router, linked}
use Rattle.net_base.specs.Prefixes.{PlainPrefix, IsPrefix}
use Rattle.net_base.proofs.Links.{linked_known}
use Rattle.net_base.proofs.NumbersBelow.{slice_get-numbers_below}
use Rattle.net_base.proofs.RoutersAndPeers.{peer_no_router, router_or_peer}
use Rattle.policy_base.specs.Policies.{PlainPolicy, IsPolicyOf}
use Rattle.policy_base.specs.Governing.{is_origin}
use Rattle.config_base.specs.declared.route.Route.{Route}
use Rattle.config_base.specs.Configs.{PlainConfig}
use Rattle.config_base.specs.Lines.{class_of, export_of, own_route}
use Rattle.evidence_base.specs.Made.{PlainCaseEvidence}
use Rattle.outcome_base.specs.Announcements.{Announced, FullRoute, Sent, full_at, given_under, inside, is_ours, sent_under, silenced, taken_under}
use Rattle.outcome_base.specs.Outcomes.{Failures, is_dead, is_dead_link, is_live, is_silent, no_failures}
use Rattle.evidence_law.specs.Passes.{Passes}
use Rattle.evidence_law.proofs.Heard.{given-heard}
use Rattle.evidence_law.proofs.Setting.{alive_of, line_of, lines_at, lines_of, network_of, pairs_of}
use Rattle.settled_law.proofs.SettledLaw.{CaseFound}
use Rattle.routing_law.specs.Lines as line
use Rattle.routing_law.specs.Network as law
use Rattle.routing_law.specs.Graph as graph
use Rattle.routing_law.specs.Outcome as outcomes
use Rattle.routing_law.specs.Spells as spelled
use Rattle.routing_law.specs.Spells.{StepOver}
use Rattle.routing_law.proofs.Heard.{Heard, chooses_from, heard_parts, no_router, own_parts}
use Rattle.routing_law.proofs.Runs.{node_below, run_place}
use Rattle.routing_law.proofs.Tied.{Behind, Given, heard_down, own_down}
use Rattle.outcome_law.proofs.Inside.{given_same, route_at-inside, route_in, sent-router, sent-router-none, sent-router-refused}
use Rattle.event_law.proofs.Offers.{lines_here}
use Rattle.motion_law.specs.Motion.{Motion, announced, gift, has_to_say, live_in, told, with_tag}
use Rattle.motion_law.proofs.Ever.{Fine, Graph, unlined}
use Rattle.motion_law.proofs.Taken.{line_at}
use Rattle.motion_rest.proofs.Still.{SameMarks}
use Rattle.motion_rest.specs.Rest.{IsScenarioIn, full_of}

-- a router's entry
pub full_held : (net : PlainNet) (w : Motion) (u : ℕ) → is_router net u ≡ true → full_at (full_of net w) u ≡ w.route u
full_held net w u router =
    ap (option_and_then (λ (o : Option FullRoute). o)) (slice_get-map w.route (numbers_below (length net.routers)) u
    ∙ ap (option_map w.route) (slice_get-numbers_below (length net.routers) u (ltb-true u (length net.routers) router)))

assoc : (l a b c : Bool) → (((l && a) && b) && c) ≡ (l && (a && (b && c)))
assoc true a b c = and_assoc a b c
assoc false a b c = refl

-- ---- what is live

module _ (net : PlainNet) (policy : PlainPolicy) (config : PlainConfig) (p : PlainPrefix) (f : Failures) (w : Motion) (scenario : IsScenarioIn net w f) (v : Motion) (marks : SameMarks v w) where
  pub live_same : (a b : ℕ) → is_live net f a b ≡ live_in net policy config p v a b
  live_same a b = assoc (linked net a b) (not (is_dead_link f a b)) (not (is_dead f a)) (not (is_dead f b)) ∙ elim (cases_Bool (linked net a b)) [
    | inl t ↦ ap (λ z. linked net a b && (not z && (not (is_dead f a) && not (is_dead f b)))) (scenario.links a b t ∙ ap (λ (h : ℕ → ℕ → Bool). h a b) (sym marks.cut))
        ∙ ap (λ z. linked net a b && (not (v.cut a b) && (not z && not (is_dead f b)))) (dead a)
        ∙ ap (λ z. linked net a b && (not (v.cut a b) && (not (v.down a) && not z))) (dead b)
    | inr off ↦ and_left _ _ off ∙ sym (and_left _ _ off)
  ]
    where
      dead : (l : ℕ) → is_dead f l ≡ v.down l
      dead l = scenario.dead l ∙ ap (λ (h : ℕ → Bool). h l) (sym marks.down)

  -- ---- what is said is what is sent

  pub says_sent : (u b : ℕ) → IsNet net → linked net u b ≡ true → has_to_say net policy config p v u b ≡ sent_under net config f w.says p (full_of net v) u b
  says_sent u b rules link = elim (cases_Bool (is_peer net u)) [
    | inl peer ↦ (
        let off = peer_no_router net u peer in
        let s = not-true (is_silent f b u) (scenario.silent b u) in
        cond-false (is_router net u) (told net policy config p u b (v.route u)) (option_map (announced net policy config p u) (v.says u b)) off
        ∙ ap (λ (h : ℕ → ℕ → Option Announced). option_map (announced net policy config p u) (h u b)) marks.says ∙ sym (rw (s, peer) refl))
    | inr off ↦ (
        let router = router_or_peer net u (linked_known net u b rules link).0 off in
        cond-true (is_router net u) (told net policy config p u b (v.route u)) (option_map (announced net policy config p u) (v.says u b)) router
        ∙ by router off (v.route u) refl (class_of config p) refl)
  ]
    where
      by : is_router net u ≡ true → is_peer net u ≡ false → (o : Option FullRoute) → v.route u ≡ o → (k : Option ℕ) → class_of config p ≡ k
          → told net policy config p u b (v.route u) ≡ sent_under net config f w.says p (full_of net v) u b
      by router off None e k c = none (class_of config p) ∙ sym (sent-router-none net policy config f w.says p (full_of net v) u b off (full_held net v u router ∙ e))
        where
          none : (k : Option ℕ)
              → option_and_then (λ class. option_and_then (λ (t : FullRoute). option_map (with_tag net policy config p t) (export_of net config class u b t.route.tag)) (v.route u)) k ≡ None
          none None = refl
          none (Some class) = ap (option_and_then (λ (t : FullRoute). option_map (with_tag net policy config p t) (export_of net config class u b t.route.tag))) e
      by router off (Some t) e None c =
          ap (option_and_then (λ class. option_and_then (λ (t : FullRoute). option_map (with_tag net policy config p t) (export_of net config class u b t.route.tag)) (v.route u))) c
          ∙ sym (rw (c, off) refl)
      by router off (Some t) e (Some class) c =
          ap (option_and_then (λ class. option_and_then (λ (t : FullRoute). option_map (with_tag net policy config p t) (export_of net config class u b t.route.tag)) (v.route u))) c
          ∙ ap (option_and_then (λ (t : FullRoute). option_map (with_tag net policy config p t) (export_of net config class u b t.route.tag))) e
          ∙ last (export_of net config class u b t.route.tag) refl
        where
          at : full_at (full_of net v) u ≡ Some t
          at = full_held net v u router ∙ e

          last : (x : Option Tag) → export_of net config class u b t.route.tag ≡ x
              → option_map (with_tag net policy config p t) (export_of net config class u b t.route.tag) ≡ sent_under net config f w.says p (full_of net v) u b
          last None x = ap (option_map (with_tag net policy config p t)) x ∙ sym (sent-router-refused net policy config f w.says p (full_of net v) class c u b t off at x)
          last (Some tag) x = ap (option_map (with_tag net policy config p t)) x ∙ sym (sent-router net policy config f w.says p (full_of net v) class c u b t tag off at x)

  -- where b has heard from u what u has to say in this world, it makes of it what it is given
  pub gift_given : (y : Motion) (b u : ℕ) → IsNet net → is_live net f u b ≡ true → y.heard u b ≡ has_to_say net policy config p v u b
      → gift net policy config p y b u ≡ given_under net config f w.says p (full_of net v) u b
  gift_given y b u rules live heard =
      let link = (and_parts _ _ (and_parts _ _ (and_parts _ _ live).0).0).0 in
      ap (λ (o : Option Sent). option_and_then (λ class. option_and_then (taken_under net config class b u) o) (class_of config p)) (heard ∙ says_sent u b rules link)
      ∙ sym (cond-true (is_live net f u b) (option_and_then (λ class. option_and_then (taken_under net config class b u) (sent_under net config f w.says p (full_of net v) u b)) (class_of config p)) None live)

-- ---- in the graph

module _ (net : PlainNet) (policy : PlainPolicy) (config : PlainConfig) (cs : List PlainCaseEvidence) (rules : IsNet net)
    (kept : IsPolicyOf net policy) (passes : Passes net policy config cs) (p : PlainPrefix) (prefix : IsPrefix p)
    (c : CaseFound net policy config cs rules kept passes no_failures p) (f : Failures) (w : Motion) (scenario : IsScenarioIn net w f) where
  abbrev pub Mute : Failures
  Mute = silenced net w.says f

  abbrev pub G : graph.Graph
  G = Graph net policy config cs rules kept passes p prefix c

  abbrev pub Net : law.Network
  Net = network_of net (is_origin net policy p)

  abbrev pub setup : outcomes.Setup
  setup = record { net = Net; alive = alive_of net Mute; graph = G }

  abbrev pub lines : line.Lines
  lines = lines_of net config p (suc c.k)

  abbrev tag : ℕ → line.Tag
  tag = pairs_of c.d

  written : spelled.Written Net G tag lines
  written = lines_here net policy config cs rules kept passes p no_failures c

  abbrev pub IsFineAt : ℕ → FullRoute → Type 0
  IsFineAt = Fine net policy config cs rules kept passes p prefix c

  -- a world after the same moves that fail nothing, in which origins have chosen
  pub record Good (v : Motion) : Type 0 where
    pub marks : SameMarks v w
    pub fine : (r : ℕ) (t : FullRoute) → v.route r ≡ Some t → IsFineAt r t
    pub own : (r : ℕ) → is_router net r ≡ true → w.down r ≡ false → is_origin net policy p r ≡ true → v.route r ≡ Some (record { route = own_route net config p r; behind = [] })

  abbrev pub node_of : FullRoute → Option outcomes.Route
  node_of t = option_map (λ n. record { path = t.route.path; node = n }) (graph.run G t.route.path)

  -- what a location holds in the graph
  abbrev pub held : Motion → outcomes.Routes
  held v u = if is_origin net policy p u then outcomes.own_route setup u else (if law.chooses Net setup.alive u then option_and_then node_of (v.route u) else None)

  pub held_own : (v : Motion) (u : ℕ) → is_origin net policy p u ≡ true → held v u ≡ outcomes.own_route setup u
  held_own v u o = cond-true (is_origin net policy p u) (outcomes.own_route setup u) (if law.chooses Net setup.alive u then option_and_then node_of (v.route u) else None) o

  pub held_chosen : (v : Motion) (u : ℕ) → is_origin net policy p u ≡ false → law.chooses Net setup.alive u ≡ true → held v u ≡ option_and_then node_of (v.route u)
  held_chosen v u o k =
      cond-false (is_origin net policy p u) (outcomes.own_route setup u) (if law.chooses Net setup.alive u then option_and_then node_of (v.route u) else None) o
      ∙ cond-true (law.chooses Net setup.alive u) (option_and_then node_of (v.route u)) None k

  pub held_none : (v : Motion) (u : ℕ) → is_origin net policy p u ≡ false → law.chooses Net setup.alive u ≡ false → held v u ≡ None
  held_none v u o k =
      cond-false (is_origin net policy p u) (outcomes.own_route setup u) (if law.chooses Net setup.alive u then option_and_then node_of (v.route u) else None) o
      ∙ cond-false (law.chooses Net setup.alive u) (option_and_then node_of (v.route u)) None k

  -- a fine route has its node
  pub node_is : (r : ℕ) (t : FullRoute) (fine : IsFineAt r t) (o : is_origin net policy p r ≡ false) → node_of t ≡ Some (record { path = t.route.path; node = (fine.other o).node })
  node_is r t fine o = ap (option_map (λ n. record { path = t.route.path; node = n })) (fine.other o).runs

  pub chooser_parts : (r : ℕ) → law.chooses Net setup.alive r ≡ true → (is_router net r ≡ true) × (w.down r ≡ false) × (is_origin net policy p r ≡ false)
  chooser_parts r h =
      let a = and_parts (is_router net r) _ h in
      let b = and_parts (not (is_dead f r)) (not (is_origin net policy p r)) a.1 in
      (a.0, sym (scenario.dead r) ∙ not-true (is_dead f r) b.0, not-true _ b.1)

  ends_live : (u b : ℕ) → is_live net f u b ≡ true → is_dead f u ≡ false
  ends_live u b live = (let a = and_parts _ (not (is_dead f b)) live in let x = and_parts _ (not (is_dead f u)) a.0 in not-true _ x.1)

  module _ (v : Motion) (good : Good v) (u b : ℕ) (live : is_live net f u b ≡ true) (to : is_router net b ≡ true) where
    abbrev given : Option FullRoute
    given = given_under net config f w.says p (full_of net v) u b

    abbrev told_lines : line.LineRoutes
    told_lines = lines_at (inside (full_of net v))

    abbrev line_given : Option line.LineRoute
    line_given = line.line_heard Net setup.alive lines told_lines b u

    clean : (u : ℕ) (t : FullRoute) → is_router net u ≡ true → full_at (full_of net v) u ≡ Some t → list_any (is_ours net) t.behind ≡ false
    clean u t router at = (good.fine u t (sym (full_held net v u router) ∙ at)).clean

    no_lines : (class : ℕ) → class_of config p ≡ Some class → (u v : ℕ) → is_peer net u ≡ true → is_router net v ≡ true → is_origin net policy p u ≡ false → (t : Tag) → line_at net config class v u t ≡ None
    no_lines class of_class =
        let same : suc c.k ≡ class = same_Some (suc c.k) class (sym c.of_class ∙ of_class) in
        subst (λ (i : ℕ). (u v : ℕ) → is_peer net u ≡ true → is_router net v ≡ true → is_origin net policy p u ≡ false → (t : Tag) → line_at net config i v u t ≡ None) same
        (unlined net policy config cs rules kept passes p prefix c)

    -- by the lines
    lines_same : option_map line_of (option_map route_in given) ≡ line_given
    lines_same =
        ap (option_map line_of) (given_same net policy config f w.says p (full_of net v) rules clean no_lines u b to)
        ∙ given-heard net policy config Mute p (inside (full_of net v)) (suc c.k) rules c.of_class u b to

    line_at_u : is_router net u ≡ true → told_lines u ≡ option_map line_of (option_map route_in (v.route u))
    line_at_u router = ap (option_map line_of) (route_at-inside (full_of net v) u ∙ ap (option_map route_in) (full_held net v u router))

    chosen_u : is_router net u ≡ true → is_origin net policy p u ≡ false → law.chooses Net setup.alive u ≡ true
    chosen_u router o = chooses_from setup u router (ap not (ends_live u b live)) o

    -- what is given is given in the graph
    pub down : (t : FullRoute) → given ≡ Some t → Given setup tag (held v) b u (line_of t.route)
    down t e =
        let there : line_given ≡ Some (line_of t.route) = sym lines_same ∙ ap (λ (o : Option FullRoute). option_map line_of (option_map route_in o)) e in
        heard_down setup tag lines (lines_here net policy config cs rules kept passes p no_failures c) told_lines (held v) b u (line_of t.route) to there (held_own v)
        (λ z router at path ex. behind z router (sym (line_at_u router) ∙ at) ex)
      where
        behind : (z : line.LineRoute) → is_router net u ≡ true → option_map line_of (option_map route_in (v.route u)) ≡ Some z → lines.exported u b z.tag ≡ true → Behind setup tag (held v) u z
        behind z router at ex =
            let h = option_map_parts line_of (option_map route_in (v.route u)) z at in
            let x = option_map_parts route_in (v.route u) h.0 h.1 in
            let fine = good.fine u x.0 x.1 in
            elim (cases_Bool (is_origin net policy p u)) [
              | inl o ↦
                  own_down setup tag lines (lines_here net policy config cs rules kept passes p no_failures c) told_lines (held v) u b z router o (ap not (ends_live u b live)) (held_own v u o)
                  (ap line_of (sym (fine.own o)) ∙ ap line_of x.2 ∙ h.2) ex
              | inr o ↦ (
                  let r = fine.other o in
                  let path : z.path ≡ u ∷ r.rest = ap (λ (y : line.LineRoute). y.path) (sym h.2) ∙ ap (λ (y : Route). y.path) (sym x.2) ∙ r.begins in
                  record {
                    rest = r.rest;
                    node = r.node;
                    has = held_chosen v u o (chosen_u router o) ∙ ap (option_and_then node_of) x.1 ∙ node_is u x.0 fine o ∙ ap (λ (q : List ℕ). Some (record { path = q; node = r.node })) r.begins;
                    begins = path;
                    runs = ap (graph.run G) (sym r.begins) ∙ r.runs;
                    tag_is = ap (λ (y : line.LineRoute). y.tag) (sym h.2) ∙ ap (λ (y : Route). (line_of y).tag) (sym x.2) ∙ r.tag_is;
                  })
            ]

    -- and the other way round
    pub up : (y : outcomes.Route) → outcomes.heard setup (held v) b u ≡ Some y → (t : FullRoute) × (given ≡ Some t)
    up y h =
        let x = by (heard_parts setup (held v) b u y h) (is_router net u) refl (is_origin net policy p u) refl in
        let l = option_map_parts line_of (option_map route_in given) x.0 (lines_same ∙ x.1) in
        let t = option_map_parts route_in given l.0 l.1 in
        (t.0, t.1)
      where
        extend : (z : line.LineRoute) → is_router net u ≡ true → law.stands_on b z.path ≡ false → lines.exported u b z.tag ≡ true
            → lines.imported b u z.tag ≡ Some (tag y.node, G.number y.node) → setup.alive.carries u b ≡ true → told_lines u ≡ Some z
            → line_given ≡ Some (line.taken_by b z.path (tag y.node, G.number y.node))
        extend z ro off ex im ca e = rw (ca, ro, e, off, ex, im)

        of_router : (rest : List ℕ) (from : outcomes.Route) (z : line.LineRoute) → is_router net u ≡ true → Heard setup (held v) b u y → told_lines u ≡ Some z → z.path ≡ u ∷ rest
            → z.tag ≡ tag from.node → graph.run G (u ∷ rest) ≡ Some from.node → law.stands_on b z.path ≡ false → setup.alive.carries u b ≡ true → G.next from.node b ≡ Some y.node
            → (x : line.LineRoute) × (line_given ≡ Some x)
        of_router rest from z router a at path tagged runs off carries steps =
            let over : StepOver G u b from.node y.node = record { node = node_below written.formed rest u from.node runs; place = run_place written.formed u rest from.node runs; step = steps } in
            let ex : lines.exported u b z.tag ≡ true = ap (lines.exported u b) tagged ∙ written.lines.exports u b from.node y.node router over in
            let im : lines.imported b u z.tag ≡ Some (tag y.node, G.number y.node) = ap (lines.imported b u) tagged ∙ written.lines.imports u b from.node y.node router to over in
            (line.taken_by b z.path (tag y.node, G.number y.node), extend z router off ex im carries at)

        announces : setup.alive.carries u b ≡ true → is_router net u ≡ false → is_origin net policy p u ≡ true → setup.alive.live u ≡ true
            → lines.from_peer b u ≡ Some (tag y.node, G.number y.node) → line_given ≡ Some (line.taken_by b (u ∷ []) (tag y.node, G.number y.node))
        announces ca ro o l im = rw (ca, ro, o, l, im)

        by : Heard setup (held v) b u y → (i : Bool) → is_router net u ≡ i → (j : Bool) → is_origin net policy p u ≡ j → (x : line.LineRoute) × (line_given ≡ Some x)
        by a true router true o =
            let q = own_parts setup u a.from (sym (held_own v u o) ∙ a.has) in
            let up : w.down u ≡ false = sym (scenario.dead u) ∙ ends_live u b live in
            let z = line.own_line lines u in
            let at : told_lines u ≡ Some z = line_at_u router ∙ ap (λ (x : Option FullRoute). option_map line_of (option_map route_in x)) (good.own u router up o) in
            of_router [] a.from z router a at refl (written.lines.own u a.from.node router q.1) q.1 (ap (law.stands_on b) (sym q.2) ∙ a.off) a.carries a.step
        by a true router false o =
            let k = chosen_u router o in
            let x = option_and_then_parts node_of (v.route u) a.from (sym (held_chosen v u o k) ∙ a.has) in
            let fine = good.fine u x.0 x.1 in
            let r = fine.other o in
            let same : record { path = x.0.route.path; node = r.node } ≡ a.from = same_Some (record { path = x.0.route.path; node = r.node }) a.from (sym (node_is u x.0 fine o) ∙ x.2) in
            let node : r.node ≡ a.from.node = ap (λ (n : outcomes.Route). n.node) same in
            let path : x.0.route.path ≡ a.from.path = ap (λ (n : outcomes.Route). n.path) same in
            let z = line_of x.0.route in
            let at : told_lines u ≡ Some z = line_at_u router ∙ ap (λ (t : Option FullRoute). option_map line_of (option_map route_in t)) x.1 in
            of_router r.rest a.from z router a at r.begins (r.tag_is ∙ ap tag node) (ap (graph.run G) (sym r.begins) ∙ r.runs ∙ ap Some node) (ap (law.stands_on b) path ∙ a.off) a.carries a.step
        by a false off true o =
            let q = own_parts setup u a.from (sym (held_own v u o) ∙ a.has) in
            let over : StepOver G u b a.from.node y.node = record { node = (written.formed.start_below u a.from.node q.1).1; place = written.formed.start_place u a.from.node q.1; step = a.step } in
            (line.taken_by b (u ∷ []) (tag y.node, G.number y.node), announces a.carries off o q.0 (written.lines.peers u b a.from.node y.node off to over))
        by a false off false o = absurd (none_or_some (held v u) a.from (held_none v u o (no_router setup u off)) a.has)

    -- a route that is given and one that is heard in the graph
    pub record Match (t : FullRoute) (y : outcomes.Route) : Type 0 where
      pub path : t.route.path ≡ y.path
      pub pref : t.route.pref ≡ G.number y.node
      pub runs : graph.run G y.path ≡ Some y.node

    pub match_down : (t : FullRoute) → given ≡ Some t → (y : outcomes.Route) × (outcomes.heard setup (held v) b u ≡ Some y) × Match t y
    match_down t e =
        let g = down t e in
        (record { path = b ∷ u ∷ g.rest; node = g.node }, g.gives, record { path = g.begins; pref = g.pref_is; runs = g.runs })

    pub match_up : (y : outcomes.Route) → outcomes.heard setup (held v) b u ≡ Some y → (t : FullRoute) × (given ≡ Some t) × Match t y
    match_up y h =
        let t = up y h in
        let d = match_down t.0 t.1 in
        let same : d.0 ≡ y = same_Some d.0 y (sym d.1 ∙ h) in
        (t.0, t.1, subst (Match t.0) same d.2)
