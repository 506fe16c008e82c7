-- Rounds of the program are rounds of the law.
use Rattle.std.proofs.Common.{◌≡◌, ◌↔◌, ℕ, zero, suc, ◌<◌, Bool, true, false, cond, List, [], ◌∷◌, Option, Some, None, refl, sym, ap, ◌∙◌, subst, inl, inr, ◌⊎◌, arith}
use Rattle.std.specs.Prelude.{◌&&◌, not, option_map, is_none, is_some}
use Rattle.std.specs.Option.{option_and_then}
use Rattle.std.proofs.lemmas.Bool.{and_from, and_parts, and_right, cases_Bool, cases_lt, eqb-true, eq-eqb, false≢true, false_from_ne_true, true≢false}
use Rattle.list_law.proofs.Options.{cases_Option, is_some_parts, option_and_then_parts, option_map_parts, when_parts}
use Rattle.net_base.specs.declared.loc.LocSet.{LocSet}
use Rattle.net_base.specs.Network.{PlainNet, id_of}
use Rattle.net_base.specs.Sets.{holds}
use Rattle.graph_base.specs.Graphs.{PlainGraph}
use Rattle.graph_base.specs.Runs.{place_of, is_start, has_step}
use Rattle.reach_prune.specs.Searches.{is_among, is_listed}
use Rattle.routing_law.specs.Graph.{run}
use Rattle.routing_law.specs.Network.{chooses}
use Rattle.routing_law.specs.Outcome.{FullyStable, Route, Setup, own_route}
use Rattle.routing_law.specs.Settling.{Tops, has_number, rounds}
use Rattle.routing_law.proofs.Rounds.{backed_at, kept_on}
use Rattle.routing_law.proofs.Runs.{node_below, place_below, run_place}
use Rattle.routing_law.proofs.Sound.{sound_of}
use Rattle.settled_graph.specs.ByFronts.{IsFirstOf, gives, is_fresh, next_route, stepped}
use Rattle.settled_graph.proofs.FrontLaws.{end_of_fronts, next_by_front}
use Rattle.settled_graph.specs.declared.offers.Offer.{Offer}
use Rattle.settled_graph.specs.declared.settled.Settled.{Settled}
use Rattle.graph_base.specs.Preferences.{number_in}
use Rattle.settled_graph.specs.Best.{entry_at}
use Rattle.settled_graph.specs.Grounds.{IsGround, held_in, route_of}
use Rattle.settled_graph.specs.Offers.{AreLowest, IsLowestOrNone}
use Rattle.settled_graph.specs.Rounds.{AreOpening, IsRound, after_offer}
use Rattle.settled_graph.proofs.Tables.{entry_past}

module _ (w : Setup) (t : Tops w) where
  -- a node of the front: that of a route that was settled in just this round
  pub record IsFrontNode (k n : ℕ) : Type 0 where
    pub route : Route
    pub fresh : is_fresh w t.top k (w.graph.place n) ≡ true
    pub holds : rounds w t.top k (w.graph.place n) ≡ Some route
    pub node : route.node ≡ n

  -- the number of the best node, for who chooses and is left
  abbrev pub wanted_in : ℕ → ℕ → Option ℕ
  wanted_in k v = cond (chooses w.net w.alive v && is_none (rounds w t.top k v)) (option_map w.graph.number (t.top v)) None

  pub record AreAt (k : ℕ) (routes : List (Option Settled)) (wanted : List (Option ℕ)) (front : List ℕ) : Type 0 where
    pub held : (v : ℕ) → held_in routes v ≡ rounds w t.top k v
    pub waits : (v : ℕ) → entry_at wanted v ≡ wanted_in k v
    pub nodes : (n : ℕ) → (is_among front n ≡ true) ↔ IsFrontNode k n

module _ (net : PlainNet) (g : PlainGraph) (numbers : List ℕ) (choosers : LocSet) (w : Setup) (ground : IsGround net g numbers choosers w) (t : Tops w) where
  -- ---- the opening

  origin_holds : (v : ℕ) → w.net.origin v ≡ true → rounds w t.top zero v ≡ own_route w v
  origin_holds v o = rw o refl

  pub opening_routes : (routes : List (Option Settled)) → AreOpening g routes → (v : ℕ) → held_in routes v ≡ rounds w t.top zero v
  opening_routes routes are v = by (entry_at routes v) refl
    where
      started : (s : ℕ) → w.graph.start v ≡ Some s → w.alive.live v ≡ true → entry_at routes v ≡ None → ⊥
      started s start live none =
          let at : w.graph.place s ≡ v = ground.formed.start_place v s start in
          let is = (ground.starts s).1 (ap w.alive.live at ∙ live, ap w.graph.start at ∙ start) in
          let some = are.starts s is in
          absurd (false≢true (sym (ap is_some (ap (entry_at routes) (sym (ground.place s) ∙ at) ∙ none)) ∙ some))

      unstarted : (o : Option ℕ) → w.graph.start v ≡ o → (b : Bool) → w.alive.live v ≡ b → entry_at routes v ≡ None → own_route w v ≡ None
      unstarted o start false live none = rw live refl
      unstarted None start true live none = rw (live, start) refl
      unstarted (Some s) start true live none = absurd (started s start live none)

      by : (o : Option Settled) → entry_at routes v ≡ o → option_map route_of o ≡ rounds w t.top zero v
      by None none = elim (cases_Bool (w.net.origin v)) [
        | inl o ↦ sym (origin_holds v o ∙ unstarted (w.graph.start v) refl (w.alive.live v) refl none)
        | inr o ↦ sym (rw o refl)
      ]
      by (Some x) is =
          let only = are.only v x is in
          let start = (ground.starts x.node).0 only.0 in
          let at : w.graph.place x.node ≡ v = ground.place x.node ∙ only.1 in
          let here : w.graph.start v ≡ Some x.node = ap w.graph.start (sym at) ∙ start.1 in
          let live : w.alive.live v ≡ true = ap w.alive.live (sym at) ∙ start.0 in
          let origin : w.net.origin v ≡ true = ground.formed.start_origin v x.node here in
          let path : route_of x ≡ record { path = v ∷ []; node = x.node } = ap (λ p. record { path = p; node = x.node }) only.2 in
          ap Some path ∙ sym (origin_holds v origin ∙ rw (live, here) refl)

  chooser_starts : (v : ℕ) → chooses w.net w.alive v ≡ true → rounds w t.top zero v ≡ None
  chooser_starts v c =
      let parts = and_parts (w.net.router v) _ c in
      let rest = and_parts (w.alive.live v) (not (w.net.origin v)) parts.1 in
      elim (cases_Bool (w.net.origin v)) [
        | inl o ↦ absurd (true≢false (sym rest.1 ∙ ap not o))
        | inr o ↦ rw o refl
      ]

  pub opening_wanted : (v : ℕ) (o : Option ℕ) → o ≡ cond (holds choosers v) (option_map (number_in numbers) (t.top v)) None → o ≡ wanted_in w t zero v
  opening_wanted v o is = is ∙ elim (cases_Bool (holds choosers v)) [
    | inr off ↦
        ap (λ b. cond b (option_map (number_in numbers) (t.top v)) None) off
        ∙ sym (ap (λ b. cond (b && is_none (rounds w t.top zero v)) (option_map w.graph.number (t.top v)) None) (ground.choice v ∙ off))
    | inl on ↦ (
        let c = ground.choice v ∙ on in
        let both : (chooses w.net w.alive v && is_none (rounds w t.top zero v)) ≡ true = and_from _ _ c (ap is_none (chooser_starts v c)) in
        ap (λ b. cond b (option_map (number_in numbers) (t.top v)) None) on ∙ same (t.top v) ∙ sym (ap (λ b. cond b (option_map w.graph.number (t.top v)) None) both))
  ]
    where
      same : (o : Option ℕ) → option_map (number_in numbers) o ≡ option_map w.graph.number o
      same None = refl
      same (Some n) = ap Some (sym (ground.number n))

  pub opening_front : (n : ℕ) → (is_start g n ≡ true) ↔ IsFrontNode w t zero n
  opening_front n = (
    λ is.
        let s = (ground.starts n).0 is in
        let origin : w.net.origin (w.graph.place n) ≡ true = ground.formed.start_origin (w.graph.place n) n s.1 in
        let own : rounds w t.top zero (w.graph.place n) ≡ Some (record { path = w.graph.place n ∷ []; node = n }) = origin_holds (w.graph.place n) origin ∙ rw (s.0, s.1) refl in
        record { route = record { path = w.graph.place n ∷ []; node = n }; fresh = ap is_some own; holds = own; node = refl },
    λ f. elim (cases_Bool (w.net.origin (w.graph.place n))) [
      | inr o ↦ (let none : rounds w t.top zero (w.graph.place n) ≡ None = rw o refl in let clash : None ≡ Some f.route = sym none ∙ f.holds in absurd (cc))
      | inl o ↦ (
          let own : own_route w (w.graph.place n) ≡ Some f.route = sym (origin_holds (w.graph.place n) o) ∙ f.holds in
          let live = when_parts (w.alive.live (w.graph.place n)) _ f.route own in
          let start = option_map_parts (λ s. record { path = w.graph.place n ∷ []; node = s }) (w.graph.start (w.graph.place n)) f.route live.1 in
          let node : start.0 ≡ n = ap (λ (r : Route). r.node) start.2 ∙ f.node in
          (ground.starts n).1 (live.0, start.1 ∙ ap Some node))
    ],
  )

  -- ---- a round

  pub node_there : (k u : ℕ) (x : Route) → rounds w t.top k u ≡ Some x → (w.graph.place x.node ≡ u) × (x.node < w.graph.nodes) × (u < w.net.size)
  node_there k u x has =
      let s = sound_of w (rounds w t.top k) (backed_at w t k) u x has in
      let runs : run w.graph (u ∷ s.rest) ≡ Some x.node = subst (λ p. run w.graph p ≡ Some x.node) s.begins s.runs in
      (run_place ground.formed u s.rest x.node runs, node_below ground.formed s.rest u x.node runs, place_below ground.formed s.rest u x.node runs)

  module _ (k : ℕ) (routes : List (Option Settled)) (wanted : List (Option ℕ)) (front : List ℕ) (are : AreAt w t k routes wanted front)
      (lists : List (List ℕ)) (listed : (a b : ℕ) → is_listed lists a b ≡ has_step g a b)
      (offers : List (Option Offer)) (lowest : AreLowest net g numbers wanted (λ f s. is_among front f && is_listed lists f s) offers) where
    abbrev passes : ℕ → ℕ → Bool
    passes f s = is_among front f && is_listed lists f s

    -- what a location of the front gives by a step
    record Gives (v u f s : ℕ) : Type 0 where
      x : Route
      has : rounds w t.top k u ≡ Some x
      node : x.node ≡ f
      from : w.graph.place f ≡ u
      passed : passes f s ≡ true
      place : w.graph.place s ≡ v
      stepped_is : stepped w (rounds w t.top k) v u ≡ Some (record { path = v ∷ x.path; node = s })

    by_step : (v f s : ℕ) → passes f s ≡ true → place_of g s ≡ v → Gives v (w.graph.place f) f s
    by_step v f s pass place =
        let parts = and_parts (is_among front f) (is_listed lists f s) pass in
        let n = (are.nodes f).0 parts.0 in
        let to : w.graph.place s ≡ v = ground.place s ∙ place in
        let step = (ground.steps f s).0 (sym (listed f s) ∙ parts.1) in
        let next : w.graph.next n.route.node v ≡ Some s = ap (λ m. w.graph.next m v) n.node ∙ ap (w.graph.next f) (sym to) ∙ step.1 in
        let carries : w.alive.carries (w.graph.place f) v ≡ true = ap (w.alive.carries (w.graph.place f)) (sym to) ∙ step.0 in
        record {
          x = n.route;
          has = n.holds;
          node = n.node;
          from = refl;
          passed = pass;
          place = to;
          stepped_is = rw (carries, n.holds, next) refl;
        }

    fresh_at : (v f s : ℕ) → passes f s ≡ true → place_of g s ≡ v → (goal : ℕ) → w.graph.number s ≡ goal → gives w t.top k v goal (w.graph.place f) ≡ true
    fresh_at v f s pass place goal number =
        let by = by_step v f s pass place in
        let n = (are.nodes f).0 (and_parts (is_among front f) (is_listed lists f s) pass).0 in
        and_from (is_fresh w t.top k (w.graph.place f)) _ n.fresh (ap (has_number w goal) by.stepped_is ∙ eq-eqb _ _ number)

    some_number : (goal : ℕ) (o : Option Route) → has_number w goal o ≡ true → (y : Route) × (o ≡ Some y) × (w.graph.number y.node ≡ goal)
    some_number goal None h = absurd (false≢true h)
    some_number goal (Some y) h = (y, refl, eqb-true _ _ h)

    -- whoever gives a number does so by a step of the front
    given_by : (v goal u : ℕ) → gives w t.top k v goal u ≡ true → (f s : ℕ) × Gives v u f s × (w.graph.number s ≡ goal)
    given_by v goal u h =
        let parts = and_parts (is_fresh w t.top k u) (has_number w goal (stepped w (rounds w t.top k) v u)) h in
        let y = some_number goal (stepped w (rounds w t.top k) v u) parts.1 in
        let on = when_parts (w.alive.carries u v) (option_and_then (next_route w v) (rounds w t.top k u)) y.0 y.1 in
        let x = option_and_then_parts (next_route w v) (rounds w t.top k u) y.0 on.1 in
        let s = option_map_parts (λ n. record { path = v ∷ x.0.path; node = n }) (w.graph.next x.0.node v) y.0 x.2 in
        let from = (node_there k u x.0 x.1).0 in
        let to : w.graph.place s.0 ≡ v = ground.formed.next_place x.0.node v s.0 s.1 in
        let among : is_among front x.0.node ≡ true =
        (are.nodes x.0.node).1
        (record { route = x.0; fresh = ap (is_fresh w t.top k) from ∙ parts.0; holds = ap (rounds w t.top k) from ∙ x.1; node = refl }) in
        let step : has_step g x.0.node s.0 ≡ true =
        (ground.steps x.0.node s.0).1
        (ap (λ l. w.alive.carries l (w.graph.place s.0)) from ∙ ap (w.alive.carries u) to ∙ on.0, ap (w.graph.next x.0.node) to ∙ s.1) in
        let node : s.0 ≡ y.0.node = ap (λ (r : Route). r.node) s.2 in (
          x.0.node,
          s.0,
          record {
            x = x.0;
            has = x.1;
            node = refl;
            from = from;
            passed = and_from (is_among front x.0.node) (is_listed lists x.0.node s.0) among (listed x.0.node s.0 ∙ step);
            place = to;
            stepped_is = y.1 ∙ ap Some (sym s.2);
          },
          ap w.graph.number node ∙ y.2,
        )

    -- ---- what an offer tells

    module _ (v n : ℕ) (c : chooses w.net w.alive v ≡ true) (none : rounds w t.top k v ≡ None) (top : t.top v ≡ Some n) where
      abbrev goal : ℕ
      goal = w.graph.number n

      waits : entry_at wanted v ≡ Some goal
      waits = are.waits v ∙ rw (c, none, top) refl

      matches : (s : ℕ) → w.graph.number s ≡ goal → entry_at wanted v ≡ Some (number_in numbers s)
      matches s same = waits ∙ ap Some (sym same ∙ ground.number s)

      goal_of : (s : ℕ) → entry_at wanted v ≡ Some (number_in numbers s) → w.graph.number s ≡ goal
      goal_of s is = let both : Some (number_in numbers s) ≡ Some goal = sym is ∙ waits in ground.number s ∙ cc

      first_of : (o : Option Offer) → IsLowestOrNone net g numbers wanted passes v o → IsFirstOf w (gives w t.top k v goal) (option_map (λ (x : Offer). w.graph.place x.from) o)
      first_of None nobody = λ u less. false_from_ne_true _ (λ on.
          let by = given_by v goal u on in
          nobody by.0 by.1 by.2.passed (sym (ground.place by.1) ∙ by.2.place) (matches by.1 by.3))
      first_of (Some o) is =
          let here = by_step v o.from o.to is.step is.place in
          let there = node_there k (w.graph.place o.from) here.x here.has in (
            there.2,
            fresh_at v o.from o.to is.step is.place goal (goal_of o.to is.number),
            λ u less on.
                let by = given_by v goal u on in
                let least = is.least by.0 by.1 by.2.passed (sym (ground.place by.1) ∙ by.2.place) (matches by.1 by.3) in
                let one : w.net.name (w.graph.place o.from) ≡ id_of net (place_of g o.from) = ground.name _ ∙ ap (id_of net) (ground.place o.from) in
                let other : w.net.name u ≡ id_of net (place_of g by.0) = ap w.net.name (sym by.2.from) ∙ ground.name _ ∙ ap (id_of net) (ground.place by.0) in
                omega (arith, least, one, other),
          )

      after : (o : Option Offer) → IsLowestOrNone net g numbers wanted passes v o
          → rounds w t.top (suc k) v ≡ option_and_then (stepped w (rounds w t.top k) v) (option_map (λ (x : Offer). w.graph.place x.from) o)
      after o is = next_by_front w t ground.formed ground.differ k v n c none top (option_map (λ (x : Offer). w.graph.place x.from) o) (first_of o is)

    -- a location goes on as it is, or takes its offer
    record Takes (v : ℕ) : Type 0 where
      o : Offer
      x : Route
      offer : entry_at offers v ≡ Some o
      left : rounds w t.top k v ≡ None
      giver : rounds w t.top k (w.graph.place o.from) ≡ Some x
      place : w.graph.place o.to ≡ v
      settled : rounds w t.top (suc k) v ≡ Some (record { path = v ∷ x.path; node = o.to })

    abbrev Stays : ℕ → Type 0
    Stays v = (entry_at offers v ≡ None) × (rounds w t.top (suc k) v ≡ rounds w t.top k v)

    -- where nothing is wanted no offer is
    unoffered : (v : ℕ) → entry_at wanted v ≡ None → entry_at offers v ≡ None
    unoffered v none = elim (cases_lt v 768) [
      | inr high ↦ entry_past offers v (omega (arith, lowest.size, high))
      | inl low ↦ by (entry_at offers v) (lowest.each v low)
    ]
      where
        by : (o : Option Offer) → IsLowestOrNone net g numbers wanted passes v o → o ≡ None
        by None h = refl
        by (Some o) is = let clash : None ≡ Some (number_in numbers o.to) = sym none ∙ is.number in absurd (cc)

    moved : (v : ℕ) → Stays v ⊎ Takes v
    moved v = elim (cases_Option (rounds w t.top k v)) [
      | inr x ↦
          inl (
            unoffered v (are.waits v
                ∙ ap (λ b. cond b (option_map w.graph.number (t.top v)) None) (and_right (chooses w.net w.alive v) _ (ap is_none x.1))),
            kept_on w t k v x.0 x.1 ∙ sym x.1,
          )
      | inl none ↦ elim (cases_Bool (chooses w.net w.alive v)) [
        | inr off ↦ inl (unoffered v (are.waits v ∙ ap (λ b. cond (b && is_none (rounds w t.top k v)) (option_map w.graph.number (t.top v)) None) off), rw (none, off) refl)
        | inl c ↦ elim (cases_Option (t.top v)) [
          | inl empty ↦ inl (unoffered v (are.waits v ∙ rw (c, none, empty) refl), rw (none, c, empty) refl)
          | inr n ↦ choosing n.0 c none n.1 (entry_at offers v) refl
        ]
      ]
    ]
      where
        choosing : (n : ℕ) → chooses w.net w.alive v ≡ true → rounds w t.top k v ≡ None → t.top v ≡ Some n → (o : Option Offer) → entry_at offers v ≡ o → Stays v ⊎ Takes v
        choosing n c none top None e = inl (e, after v n c none top None (subst (IsLowestOrNone net g numbers wanted passes v) e (lowest.each v (ground.within v c))) ∙ sym none)
        choosing n c none top (Some o) e =
            let is = subst (IsLowestOrNone net g numbers wanted passes v) e (lowest.each v (ground.within v c)) in
            let here = by_step v o.from o.to is.step is.place in
            inr (record { o = o; x = here.x; offer = e; left = none; giver = here.has; place = here.place; settled = after v n c none top (Some o) is ∙ here.stepped_is })

    -- ---- after the round

    module _ (next : List (Option Settled)) (left : List (Option ℕ)) (later : List ℕ) (round : IsRound g offers routes next wanted left later) where
      held_by : (l : ℕ) (x : Route) → rounds w t.top k l ≡ Some x → (s : Settled) × (entry_at routes l ≡ Some s) × (route_of s ≡ x)
      held_by l x has = option_map_parts route_of (entry_at routes l) x (are.held l ∙ has)

      next_routes : (v : ℕ) → held_in next v ≡ rounds w t.top (suc k) v
      next_routes v = ap (option_map route_of) (round.held v) ∙ elim (moved v) [
        | inl stays ↦ ap (λ o. option_map route_of (after_offer g routes v o)) stays.0 ∙ are.held v ∙ sym stays.1
        | inr takes ↦ (
            let s = held_by (w.graph.place takes.o.from) takes.x takes.giver in
            let at : entry_at routes (place_of g takes.o.from) ≡ Some s.0 = ap (entry_at routes) (sym (ground.place takes.o.from)) ∙ s.1 in
            let path : s.0.path ≡ takes.x.path = ap (λ (r : Route). r.path) s.2 in
            ap (λ o. option_map route_of (after_offer g routes v o)) takes.offer
            ∙ ap (λ o. option_map route_of (option_map (λ (x : Settled). record { path = v ∷ x.path; node = takes.o.to }) o)) at
            ∙ ap (λ p. Some (record { path = v ∷ p; node = takes.o.to })) path
            ∙ sym takes.settled)
      ]

      next_wanted : (v : ℕ) → entry_at left v ≡ wanted_in w t (suc k) v
      next_wanted v = round.waits v ∙ elim (moved v) [
        | inl stays ↦
            ap (λ o. cond (is_some o) None (entry_at wanted v)) stays.0 ∙ are.waits v
            ∙ ap (λ o. cond (chooses w.net w.alive v && is_none o) (option_map w.graph.number (t.top v)) None) (sym stays.1)
        | inr takes ↦
            ap (λ o. cond (is_some o) None (entry_at wanted v)) takes.offer
            ∙ sym (ap (λ b. cond b (option_map w.graph.number (t.top v)) None) (and_right (chooses w.net w.alive v) _ (ap is_none takes.settled)))
      ]

      fresh_parts : (v : ℕ) → is_fresh w t.top (suc k) v ≡ true → is_some (rounds w t.top k v) ≡ false
      fresh_parts v h = let parts = and_parts (is_some (rounds w t.top (suc k) v)) (not (is_some (rounds w t.top k v))) h in elim (cases_Bool (is_some (rounds w t.top k v))) [
        | inr off ↦ off
        | inl on ↦ absurd (true≢false (sym parts.1 ∙ ap not on))
      ]

      next_front : (n : ℕ) → (is_among later n ≡ true) ↔ IsFrontNode w t (suc k) n
      next_front n = (
        λ h.
            let found = (round.later n).0 h in
            elim (moved found.0) [
              | inl stays ↦ (let clash : None ≡ Some found.1 = sym stays.0 ∙ found.2 in absurd (cc))
              | inr takes ↦ (
                  let both : Some takes.o ≡ Some found.1 = sym takes.offer ∙ found.2 in
                  let same : takes.o ≡ found.1 = cc in
                  let node : takes.o.to ≡ n = ap (λ (o : Offer). o.to) same ∙ found.3 in
                  let at : w.graph.place n ≡ found.0 = ap w.graph.place (sym node) ∙ takes.place in
                  let fresh : is_fresh w t.top (suc k) found.0 ≡ true = and_from _ _ (ap is_some takes.settled) (ap (λ o. not (is_some o)) takes.left) in
                  record {
                    route = record { path = found.0 ∷ takes.x.path; node = takes.o.to };
                    fresh = ap (is_fresh w t.top (suc k)) at ∙ fresh;
                    holds = ap (rounds w t.top (suc k)) at ∙ takes.settled;
                    node = node;
                  })
            ],
        λ f. elim (moved (w.graph.place n)) [
          | inl stays ↦ (let off = fresh_parts (w.graph.place n) f.fresh in absurd (false≢true (sym off ∙ ap is_some (sym stays.1 ∙ f.holds))))
          | inr takes ↦ (
              let both : Some (record { path = w.graph.place n ∷ takes.x.path; node = takes.o.to }) ≡ Some f.route = sym takes.settled ∙ f.holds in
              let same : record { path = w.graph.place n ∷ takes.x.path; node = takes.o.to } ≡ f.route = cc in
              (round.later n).1 (w.graph.place n, takes.o, takes.offer, ap (λ (r : Route). r.node) same ∙ f.node))
        ],
      )

      pub round_next : AreAt w t (suc k) next left later
      round_next = record { held = next_routes; waits = next_wanted; nodes = next_front }

  -- where no front is left all is settled
  pub settled_all : (k : ℕ) (routes : List (Option Settled)) (wanted : List (Option ℕ)) (front : List ℕ) → AreAt w t k routes wanted front → front ≡ [] → FullyStable w (held_in routes)
  settled_all k routes wanted front are empty =
      subst (FullyStable w) (λ i v. sym (are.held v) i) (end_of_fronts w t ground.formed ground.rules k (λ u less. false_from_ne_true _ (λ on. nobody u on)))
    where
      nobody : (u : ℕ) → is_fresh w t.top k u ≡ true → ⊥
      nobody u on =
          let has = fresh_has k u on in
          let x = is_some_parts (rounds w t.top k u) has in
          let from = (node_there k u x.0 x.1).0 in
          let among : is_among front x.0.node ≡ true =
          (are.nodes x.0.node).1
          (record { route = x.0; fresh = ap (is_fresh w t.top k) from ∙ on; holds = ap (rounds w t.top k) from ∙ x.1; node = refl }) in
          absurd (false≢true (sym (ap (λ xs. is_among xs x.0.node) empty) ∙ among))
        where
          fresh_has : (k u : ℕ) → is_fresh w t.top k u ≡ true → is_some (rounds w t.top k u) ≡ true
          fresh_has zero u h = h
          fresh_has (suc k) u h = (and_parts (is_some (rounds w t.top (suc k) u)) _ h).0
