-- What the routers of a configured network say and take is what the graph of the prefix's case does.
use Rattle.std.proofs.Common.{◌≡◌, ℕ, ◌≤◌, ◌<◌, Bool, true, false, not, ◌&&◌, List, [], ◌∷◌, length, Option, Some, None, refl, sym, ap, ◌∙◌, subst, inl, inr, arith}
use Rattle.std.specs.Prelude.{is_some, option_map, if◌then◌else◌, ◌==◌}
use Rattle.std.specs.Option.{option_and_then}
use Rattle.std.proofs.lemmas.Bool.{and_from, and_left, and_parts, cases_Bool, cond-true, cond-false, eqb-true, false_from_ne_true, true_from_ne_false, le-leb, ltb-false}
use Rattle.std.proofs.lemmas.Bool.{ltb-true, not-false, not-true, not_from_false, or_cases, or_from, or_left, or_parts, or_right, true≢false}
use Rattle.std.proofs.Math.Bool.{and_assoc}
use Rattle.net_base.specs.declared.numbers.Tag.{Tag}
use Rattle.net_base.specs.Network.{PlainNet, IsNet, id_of, is_location, is_peer, is_router, linked}
use Rattle.net_base.specs.Numbers.{no_tag}
use Rattle.net_base.specs.Prefixes.{PlainPrefix}
use Rattle.net_base.proofs.RoutersAndPeers.{router_known, router_no_peer}
use Rattle.policy_base.specs.Policies.{PlainPolicy}
use Rattle.policy_base.specs.Governing.{is_origin}
use Rattle.config_base.specs.declared.route.Route.{Route}
use Rattle.config_base.specs.Configs.{PlainConfig}
use Rattle.config_base.specs.Lines.{class_of, export_of, import_of, own_route}
use Rattle.list_law.proofs.Options.{cases_Option, is_some_parts, option_map_parts}
use Rattle.outcome_base.specs.Outcomes.{Failures, is_dead, is_dead_link, is_live, is_silent}
use Rattle.evidence_law.proofs.Setting.{alive_of, gift_of, lines_of, network_of, pair_of, tag_of}
use Rattle.evidence_law.proofs.Heard.{export_to_router}
use Rattle.evidence_law.proofs.Loops.{import_from_peer, import_from_router}
use Rattle.routing_law.specs.Graph as graph
use Rattle.routing_law.specs.Lines as line
use Rattle.routing_law.specs.Network as law
use Rattle.routing_law.specs.Outcome as outcomes
use Rattle.routing_law.specs.Spells as spelled
use Rattle.routing_law.proofs.Heard.{own_from, own_parts}
use Rattle.routing_law.proofs.Runs.{node_below, run_place}
use Rattle.routing_law.proofs.Steps.{announcements_are_steps, imports_are_steps, own_routes_are_starts}
use Rattle.event_base.specs.Speaking.{announced_by, chosen_by, exported_by, extended, message, speakers_of, taken_by}
use Rattle.event_base.specs.World.{Speakers, World, live, running}
use Rattle.rest_law.specs.Orders.{at_rest, rests, said}
use Rattle.event_law.specs.Scenarios.{IsScenarioOf}
use Rattle.event_law.proofs.First.{NoLater}
use Rattle.rest_law.proofs.Choosers.{chosen_own, chosen_parts, no_origin, untaken}
use Rattle.rest_law.proofs.Graphs.{AreOfGraph, Runs, Steps, stepped}

assoc : (l a b c : Bool) → (((l && a) && b) && c) ≡ (l && (a && (b && c)))
assoc true a b c = and_assoc a b c
assoc false a b c = refl

unless : {A : Type 0} (b : Bool) (o : Option A) (q : A) → (if b then None else o) ≡ Some q → (b ≡ false) × (o ≡ Some q)
unless true o q h = absurd (cc)
unless false o q h = (refl, h)

when : {A : Type 0} (b : Bool) (o : Option A) (q : A) → (if b then o else None) ≡ Some q → (b ≡ true) × (o ≡ Some q)
when true o q h = (refl, h)
when false o q h = absurd (cc)

module _ (net : PlainNet) (policy : PlainPolicy) (config : PlainConfig) (p : PlainPrefix) (class : ℕ) (rules : IsNet net) (of_class : class_of config p ≡ Some class)
    (g : graph.Graph) (tag : ℕ → line.Tag) (written : spelled.Written (network_of net (is_origin net policy p)) g tag (lines_of net config p class))
    (known : (l : ℕ) → is_origin net policy p l ≡ true → is_location net l ≡ true) where
  abbrev Net : law.Network
  Net = network_of net (is_origin net policy p)

  abbrev lines : line.Lines
  lines = lines_of net config p class

  abbrev S : Speakers Route
  S = speakers_of net policy config p

  abbrev pub route_of : outcomes.Route → Route
  route_of y = record { path = y.path; tag = tag_of (tag y.node); pref = g.number y.node }

  -- ---- one export and one import

  exported_is : (a b : ℕ) (h : Route) → exported_by net config p a b (Some h) ≡ option_map (message h) (export_of net config class a b h.tag)
  exported_is a b h = ap (option_and_then (λ (k : ℕ). option_map (message h) (export_of net config k a b h.tag))) of_class

  taken_is : (r u : ℕ) (m : Route) → taken_by net config p r u (Some m) ≡ option_map (extended r m) (import_of net config class r u m.path m.tag)
  taken_is r u m = ap (option_and_then (λ (k : ℕ). option_map (extended r m) (import_of net config k r u m.path m.tag))) of_class

  -- h is what v makes of a route with this path, by the line of the node m
  extended_is : (v : ℕ) (m : Route) (q : Tag × ℕ) (n : ℕ) (path : List ℕ) → m.path ≡ path → gift_of q ≡ (tag n, g.number n) → extended v m q ≡ route_of (record { path = v ∷ path; node = n })
  extended_is v m q n path same gift = λ i. record { path = v ∷ same i; tag = tag_of ((gift i).0); pref = (gift i).1 }

  module _ (x v : ℕ) (from : is_router net x ≡ true) (to : is_router net v ≡ true) (h : Route) (rest : List ℕ) (n : ℕ) (begins : h.path ≡ x ∷ rest)
      (runs : graph.run g (x ∷ rest) ≡ Some n) (tagged : pair_of h.tag ≡ tag n) where
    -- what v takes of a route of the router x is a step
    router_down : (k : Route) → taken_by net config p v x (exported_by net config p x v (Some h)) ≡ Some k
        → (m : ℕ) × (law.stands_on v h.path ≡ false) × (g.next n v ≡ Some m) × (k ≡ route_of (record { path = v ∷ h.path; node = m }))
    router_down k e = elim (cases_Option (export_of net config class x v h.tag)) [
      | inl none ↦ (
          let no : None ≡ Some k = sym (ap (taken_by net config p v x) (exported_is x v h ∙ ap (option_map (message h)) none) ∙ untaken net policy config p v x) ∙ e in
          absurd (cc))
      | inr t ↦ (
          let same : t.0 ≡ h.tag = export_to_router net config class x v h.tag t.0 (router_no_peer net v to) t.1 in
          let heard : option_map (extended v (message h t.0)) (import_of net config class v x h.path t.0) ≡ Some k =
          sym (taken_is v x (message h t.0)) ∙ ap (taken_by net config p v x) (sym (exported_is x v h ∙ ap (option_map (message h)) t.1)) ∙ e in
          let q = option_map_parts (extended v (message h t.0)) (import_of net config class v x h.path t.0) k heard in
          let parts =
          unless (law.stands_on v h.path) (import_of net config class v x [] t.0) q.0
          (sym (import_from_router net config class v x h.path t.0 rules (router_known net v to) (router_no_peer net x from)) ∙ q.1) in
          let imported : lines.imported v x (tag n) ≡ Some (gift_of q.0) = ap (lines.imported v x) (sym (ap pair_of same ∙ tagged)) ∙ ap (option_map gift_of) parts.1 in
          let next = imports_are_steps Net g tag lines written x v n rest (gift_of q.0) from to runs imported in
          (next.0, parts.0, next.1, sym q.2 ∙ extended_is v (message h t.0) q.0 next.0 h.path refl next.2))
    ]

    -- and a step is taken
    router_up : (m : ℕ) → law.stands_on v h.path ≡ false → g.next n v ≡ Some m
        → taken_by net config p v x (exported_by net config p x v (Some h)) ≡ Some (route_of (record { path = v ∷ h.path; node = m }))
    router_up m off step =
        let over : spelled.StepOver g x v n m = record { node = node_below written.formed rest x n runs; place = run_place written.formed x rest n runs; step = step } in
        let t = is_some_parts (export_of net config class x v h.tag) (ap (lines.exported x v) tagged ∙ written.lines.exports x v n m from over) in
        let same : t.0 ≡ h.tag = export_to_router net config class x v h.tag t.0 (router_no_peer net v to) t.1 in
        let q =
        option_map_parts gift_of (import_of net config class v x [] t.0) (tag m, g.number m)
        (ap (lines.imported v x) (ap pair_of same ∙ tagged) ∙ written.lines.imports x v n m from to over) in
        let imported : import_of net config class v x h.path t.0 ≡ Some q.0 =
        import_from_router net config class v x h.path t.0 rules (router_known net v to) (router_no_peer net x from)
        ∙ cond-false (law.stands_on v h.path) None (import_of net config class v x [] t.0) off ∙ q.1 in
        ap (taken_by net config p v x) (exported_is x v h ∙ ap (option_map (message h)) t.1) ∙ taken_is v x (message h t.0) ∙ ap (option_map (extended v (message h t.0))) imported
        ∙ ap Some (extended_is v (message h t.0) q.0 m h.path refl q.2)

  -- ---- what a peer announces

  abbrev announcement : ℕ → Route
  announcement x = record { path = x ∷ []; tag = no_tag; pref = 0 }

  apart : (x v : ℕ) → is_router net x ≡ false → is_router net v ≡ true → law.stands_on v (x ∷ []) ≡ false
  apart x v off to = or_from (x == v) false (false_from_ne_true (x == v) (λ same. true≢false (sym to ∙ ap (is_router net) (sym (eqb-true x v same)) ∙ off))) refl

  a_peer : (x : ℕ) → is_router net x ≡ false → is_origin net policy p x ≡ true → is_peer net x ≡ true
  a_peer x off origin = and_from _ _ (le-leb _ _ (ltb-false _ _ off)) (known x origin)

  module _ (x v : ℕ) (off : is_router net x ≡ false) (origin : is_origin net policy p x ≡ true) (to : is_router net v ≡ true) where
    peer_down : (k : Route) → taken_by net config p v x (Some (announcement x)) ≡ Some k
        → (s : ℕ) × (m : ℕ) × (g.start x ≡ Some s) × (g.next s v ≡ Some m) × (k ≡ route_of (record { path = v ∷ x ∷ []; node = m }))
    peer_down k e =
        let q = option_map_parts (extended v (announcement x)) (import_of net config class v x (x ∷ []) no_tag) k (sym (taken_is v x (announcement x)) ∙ e) in
        let given : lines.from_peer v x ≡ Some (gift_of q.0) = ap (option_map gift_of) (sym (import_from_peer net config class v x no_tag rules (a_peer x off origin)) ∙ q.1) in
        let next = announcements_are_steps Net g tag lines written x v (gift_of q.0) off to origin given in
        (next.0, next.1, next.2, next.3, sym q.2 ∙ extended_is v (announcement x) q.0 next.1 (x ∷ []) refl next.4)

    peer_up : (s m : ℕ) → g.start x ≡ Some s → g.next s v ≡ Some m → taken_by net config p v x (Some (announcement x)) ≡ Some (route_of (record { path = v ∷ x ∷ []; node = m }))
    peer_up s m start step =
        let over : spelled.StepOver g x v s m = record { node = (written.formed.start_below x s start).1; place = written.formed.start_place x s start; step = step } in
        let q = option_map_parts gift_of (import_of net config class v x [] no_tag) (tag m, g.number m) (written.lines.peers x v s m off to over) in
        taken_is v x (announcement x)
        ∙ ap (option_map (extended v (announcement x))) (import_from_peer net config class v x no_tag rules (a_peer x off origin) ∙ q.1)
        ∙ ap Some (extended_is v (announcement x) q.0 m (x ∷ []) refl q.2)

  -- ---- over what lives

  module _ (w : World Route) (f : Failures) (scenario : IsScenarioOf net w f) where
    abbrev pub setup : outcomes.Setup
    setup = record { net = Net; alive = alive_of net f; graph = g }

    live_same : (a b : ℕ) → is_live net f a b ≡ live S w a b
    live_same a b = assoc (linked net a b) (not (is_dead_link f a b)) (not (is_dead f a)) (not (is_dead f b)) ∙ elim (cases_Bool (linked net a b)) [
      | inl t ↦ ap (λ z. linked net a b && (not z && (not (is_dead f a) && not (is_dead f b)))) (scenario.links a b t)
          ∙ ap (λ z. linked net a b && (not (w.cut a b) && (not z && not (is_dead f b)))) (scenario.dead a)
          ∙ ap (λ z. linked net a b && (not (w.cut a b) && (not (w.down a) && not z))) (scenario.dead b)
      | inr off ↦ and_left _ _ off ∙ sym (and_left _ _ off)
    ]

    -- who chooses
    choose_none : (r : ℕ) → is_origin net policy p r ≡ false → chosen_by net policy config p r (λ u. None) ≡ None
    choose_none r other = elim (cases_Option (chosen_by net policy config p r (λ u. None))) [
      | inl none ↦ none
      | inr h ↦ (let a = chosen_parts net policy config p r (λ u. None) h.0 other h.1 in let no : None ≡ Some h.0 = sym (untaken net policy config p r a.0) ∙ a.1 in absurd (cc))
    ]

    no_more : (o : Option Route) → is_some o ≡ false → o ≡ None
    no_more None h = refl
    no_more (Some y) h = absurd (cc)

    chooser : (r : ℕ) → rests S w r ≡ false → law.chooses Net setup.alive r ≡ true
    chooser r h =
        let a = or_parts (not (running S w r)) (is_some (chosen_by net policy config p r (λ u. None))) h in
        let b = and_parts (is_router net r) (not (w.down r)) (not-false (running S w r) a.0) in
        and_from (is_router net r) _ b.0
        (and_from (not (is_dead f r)) (not (is_origin net policy p r)) (ap not (scenario.dead r) ∙ b.1) (not_from_false _ (no_origin net policy config p r (no_more _ a.1))))

    chooser_parts : (r : ℕ) → law.chooses Net setup.alive r ≡ true → (is_router net r ≡ true) × (w.down r ≡ false) × (is_origin net policy p r ≡ false)
    chooser_parts r h =
        let a = and_parts (is_router net r) _ h in
        let b = and_parts (not (is_dead f r)) (not (is_origin net policy p r)) a.1 in
        (a.0, not-true (w.down r) (ap not (sym (scenario.dead r)) ∙ b.0), not-true _ b.1)

    rester : (r : ℕ) → law.chooses Net setup.alive r ≡ true → rests S w r ≡ false
    rester r h =
        let a = chooser_parts r h in
        or_from (not (running S w r)) (is_some (chosen_by net policy config p r (λ u. None)))
        (ap not (and_from (is_router net r) (not (w.down r)) a.0 (not_from_false _ a.1))) (ap is_some (choose_none r a.2))

    below : (r : ℕ) → law.chooses Net setup.alive r ≡ true → r < Net.size
    below r h = (let l = ltb-true r (length net.routers) (chooser_parts r h).0 in omega (arith, l))

    order : (v u t : ℕ) (x y : outcomes.Route) (a b : List ℕ) → x.path ≡ v ∷ u ∷ a → y.path ≡ v ∷ t ∷ b → NoLater net (u, route_of x) (t, route_of y) → outcomes.NoLater setup x y
    order v u t x y a b e k later = record {
      number = later.higher;
      fewer = later.fewer;
      lower = λ n l. subst (λ (z : ℕ). id_of net z ≤ id_of net (law.giver y.path)) (sym (ap law.giver e)) (subst (λ (z : ℕ). id_of net u ≤ id_of net z) (sym (ap law.giver k)) (later.lower n l));
    }

    -- what comes over
    carries_router : (x v : ℕ) → is_router net x ≡ true → live S w x v ≡ true → setup.alive.carries x v ≡ true
    carries_router x v router on = and_from (is_live net f x v) _ (live_same x v ∙ on) (ap (λ (b : Bool). not (b && is_silent f v x)) (router_no_peer net x router))

    carries_live : (x v : ℕ) → setup.alive.carries x v ≡ true → live S w x v ≡ true
    carries_live x v c = sym (live_same x v) ∙ (and_parts (is_live net f x v) _ c).0

    silent_same : (x v : ℕ) → live S w x v ≡ true → is_silent f v x ≡ w.silent v x
    silent_same x v on = scenario.silent v x (and_parts (linked net x v) _ on).0

    ups : (x v : ℕ) → live S w x v ≡ true → w.down x ≡ false
    ups x v on =
        let a = and_parts (not (w.cut x v)) _ (and_parts (linked net x v) _ on).1 in
        not-true (w.down x) (and_parts (not (w.down x)) (not (w.down v)) a.1).0

    sent : (x v : ℕ) (o : Option Route) → is_router net x ≡ true → said S w x v o ≡ exported_by net config p x v o
    sent x v o router = cond-true (is_router net x) (exported_by net config p x v o) (if w.silent v x then None else announced_by net policy p x) router

    announced : (x v : ℕ) (o : Option Route) → is_router net x ≡ false → said S w x v o ≡ (if w.silent v x then None else announced_by net policy p x)
    announced x v o off = cond-false (is_router net x) (exported_by net config p x v o) (if w.silent v x then None else announced_by net policy p x) off

    down : (x v : ℕ) (y : outcomes.Route) (h : Route) → law.chooses Net setup.alive x ≡ true → law.chooses Net setup.alive v ≡ true → Runs setup x y
        → live S w x v ≡ true → taken_by net config p v x (said S w x v (Some (route_of y))) ≡ Some h
        → (m : ℕ) × Steps setup x v y m × (h ≡ route_of (stepped v y m))
    down x v y h from to runs on e =
        let router = (chooser_parts x from).0 in
        let a =
        router_down x v router (chooser_parts v to).0 (route_of y) runs.rest y.node runs.begins
        (ap (graph.run g) (sym runs.begins) ∙ runs.runs) refl h
        (ap (taken_by net config p v x) (sym (sent x v (Some (route_of y)) router)) ∙ e) in
        (a.0, record { carries = carries_router x v router on; off = a.1; step = a.2 }, a.3)

    up : (x v : ℕ) (y : outcomes.Route) (m : ℕ) → law.chooses Net setup.alive x ≡ true → law.chooses Net setup.alive v ≡ true → Runs setup x y → Steps setup x v y m
        → (live S w x v ≡ true) × (taken_by net config p v x (said S w x v (Some (route_of y))) ≡ Some (route_of (stepped v y m)))
    up x v y m from to runs steps =
        let router = (chooser_parts x from).0 in (
          carries_live x v steps.carries,
          ap (taken_by net config p v x) (sent x v (Some (route_of y)) router)
              ∙ router_up x v router (chooser_parts v to).0 (route_of y) runs.rest y.node runs.begins (ap (graph.run g) (sym runs.begins) ∙ runs.runs) refl m steps.off steps.step,
        )

    -- an origin's own route runs to its start
    own_run : (x s : ℕ) → g.start x ≡ Some s → graph.run g (x ∷ []) ≡ Some s
    own_run x s start = start

    own_down : (x v : ℕ) (h : Route) → rests S w x ≡ true → law.chooses Net setup.alive v ≡ true → live S w x v ≡ true → taken_by net config p v x (said S w x v (at_rest S w x)) ≡ Some h
        → (is_origin net policy p x ≡ true) × ((y : outcomes.Route) × (m : ℕ) × (outcomes.own_route setup x ≡ Some y) × (y.path ≡ x ∷ []) × Steps setup x v y m × (h ≡ route_of (stepped v y m)))
    own_down x v h rest to on e = elim (cases_Bool (is_router net x)) [
      | inl router ↦ (
          let runs : running S w x ≡ true = and_from (is_router net x) (not (w.down x)) router (not_from_false _ (ups x v on)) in
          let origin : is_origin net policy p x ≡ true =
          true_from_ne_false (is_origin net policy p x)
          (λ other. elim (or_cases (not (running S w x)) (is_some (chosen_by net policy config p x (λ u. None))) rest) [
            | inl down ↦ true≢false (sym runs ∙ not-true (running S w x) down)
            | inr own ↦ true≢false (sym own ∙ ap is_some (choose_none x other))
          ]) in
          let own : at_rest S w x ≡ Some (own_route net config p x) =
          cond-true (running S w x) (chosen_by net policy config p x (λ u. None)) None runs
          ∙ chosen_own net policy config p x (λ u. None) origin in
          let t : taken_by net config p v x (exported_by net config p x v (Some (own_route net config p x))) ≡ Some h =
          ap (λ (o : Option Route). taken_by net config p v x (exported_by net config p x v o)) (sym own)
          ∙ ap (taken_by net config p v x) (sym (sent x v (at_rest S w x) router)) ∙ e in
          let s = started x v h router t origin in
          let a = router_down x v router (chooser_parts v to).0 (own_route net config p x) [] s.0 refl (own_run x s.0 s.1) s.2 h t in (
            origin,
            (
              record { path = x ∷ []; node = s.0 },
              a.0,
              own_from setup x s.0
                  (ap not (scenario.dead x) ∙ not_from_false _ (ups x v on)) s.1,
              refl,
              record
                  { carries = carries_router x v router on; off = a.1; step = a.2 },
              a.3,
            ),
          ))
      | inr off ↦ (
          let t : taken_by net config p v x (if w.silent v x then None else announced_by net policy p x) ≡ Some h = ap (taken_by net config p v x) (sym (announced x v (at_rest S w x) off)) ∙ e in
          elim (cases_Bool (w.silent v x)) [
            | inl mute ↦
                (let no : None
                ≡ Some h = sym (ap (taken_by net config p v x) (cond-true (w.silent v x) None (announced_by net policy p x) mute) ∙ untaken net policy config p v x) ∙ t in absurd (cc))
            | inr speaks ↦ elim (cases_Bool (is_origin net policy p x)) [
              | inr other ↦ (
                  let no : None ≡ Some h =
                  sym (ap (taken_by net config p v x)
                  (cond-false (w.silent v x) None (announced_by net policy p x) speaks ∙ cond-false (is_origin net policy p x) (Some (announcement x)) None other)
                  ∙ untaken net policy config p v x)
                  ∙ t in
                  absurd (cc))
              | inl origin ↦ (
                  let to_router = (chooser_parts v to).0 in
                  let a =
                  peer_down x v off origin to_router h
                  (ap (taken_by net config p v x)
                  (sym (cond-false (w.silent v x) None (announced_by net policy p x) speaks ∙ cond-true (is_origin net policy p x) (Some (announcement x)) None origin))
                  ∙ t)
                  in
                  let carries : setup.alive.carries x v ≡ true =
                  and_from (is_live net f x v) _ (live_same x v ∙ on) (ap (λ (b : Bool). not (is_peer net x && b)) (silent_same x v on ∙ speaks) ∙ quiet_not (is_peer net x)) in (
                    origin,
                    (
                      record { path = x ∷ []; node = a.0 },
                      a.1,
                      own_from setup x a.0
                          (ap not (scenario.dead x) ∙ not_from_false _ (ups x v on)) a.2,
                      refl,
                      record
                          { carries = carries; off = apart x v off to_router; step = a.3 },
                      a.4,
                    ),
                  ))
            ]
          ])
    ]
      where
        quiet_not : (b : Bool) → not (b && false) ≡ true
        quiet_not true = refl
        quiet_not false = refl

        -- what is exported of an own route has a start
        started : (x v : ℕ) (h : Route) → is_router net x ≡ true
            → taken_by net config p v x (exported_by net config p x v (Some (own_route net config p x))) ≡ Some h → is_origin net policy p x ≡ true
            → (s : ℕ) × (g.start x ≡ Some s) × (pair_of (own_route net config p x).tag ≡ tag s)
        started x v h router t origin = elim (cases_Option (export_of net config class x v (own_route net config p x).tag)) [
          | inl none ↦ (
              let no : None ≡ Some h =
              sym (ap (taken_by net config p v x) (exported_is x v (own_route net config p x) ∙ ap (option_map (message (own_route net config p x))) none) ∙ untaken net policy config p v x)
              ∙ t in
              absurd (cc))
          | inr k ↦ own_routes_are_starts Net g tag lines written x v router origin (ap is_some k.1)
        ]

    own_up : (x v : ℕ) (y : outcomes.Route) (m : ℕ) → is_origin net policy p x ≡ true → outcomes.own_route setup x ≡ Some y → law.chooses Net setup.alive v ≡ true → Steps setup x v y m
        → (rests S w x ≡ true) × (live S w x v ≡ true) × (taken_by net config p v x (said S w x v (at_rest S w x)) ≡ Some (route_of (stepped v y m)))
    own_up x v y m origin own to steps =
        let a = own_parts setup x y own in
        let on = carries_live x v steps.carries in
        let to_router = (chooser_parts v to).0 in
        let here : route_of (record { path = v ∷ x ∷ []; node = m }) ≡ route_of (stepped v y m) = ap (λ (z : List ℕ). route_of (record { path = v ∷ z; node = m })) (sym a.2) in
        let alone : law.stands_on v (x ∷ []) ≡ false = ap (law.stands_on v) (sym a.2) ∙ steps.off in
        elim (cases_Bool (is_router net x)) [
          | inl router ↦ (
              let runs : running S w x ≡ true = and_from (is_router net x) (not (w.down x)) router (not_from_false _ (ups x v on)) in
              let chosen : chosen_by net policy config p x (λ u. None) ≡ Some (own_route net config p x) = chosen_own net policy config p x (λ u. None) origin in
              let rest : at_rest S w x ≡ Some (own_route net config p x) = cond-true (running S w x) (chosen_by net policy config p x (λ u. None)) None runs ∙ chosen in (
                or_right (not (running S w x)) _ (ap is_some chosen),
                on,
                ap (λ (o : Option Route). taken_by net config p v x (said S w x v o)) rest ∙ ap (taken_by net config p v x) (sent x v (Some (own_route net config p x)) router)
                    ∙ router_up x v router to_router (own_route net config p x) [] y.node refl (own_run x y.node a.1) (written.lines.own x y.node router a.1) m alone steps.step ∙ ap Some here,
              ))
          | inr off ↦ (
              let peer = a_peer x off origin in
              let speaks : w.silent v x ≡ false =
              sym (silent_same x v on) ∙ not-true (is_silent f v x) (ap (λ (b : Bool). not (b && is_silent f v x)) (sym peer) ∙ (and_parts (is_live net f x v) _ steps.carries).1) in (
                or_left (not (running S w x)) _ (ap not (and_left (is_router net x) _ off)),
                on,
                ap (taken_by net config p v x)
                    (announced x v (at_rest S w x) off ∙ cond-false (w.silent v x) None (announced_by net policy p x) speaks ∙ cond-true (is_origin net policy p x) (Some (announcement x)) None origin)
                    ∙ peer_up x v off origin to_router y.node m a.1 steps.step ∙ ap Some here,
              ))
        ]

    pub are_of_graph : AreOfGraph S w (taken_by net config p) (NoLater net) setup route_of
    are_of_graph = record { chooser = chooser; rester = rester; below = below; order = order; own_down = own_down; own_up = own_up; down = down; up = up }
