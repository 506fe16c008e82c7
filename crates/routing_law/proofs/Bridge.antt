-- A stable outcome of the lines is one of the graph.
use Rattle.std.proofs.Common.{◌≡◌, ℕ, ◌≤◌, Bool, true, false, List, [], ◌∷◌, Some, None, refl, sym, ap, ◌∙◌, subst}
use Rattle.std.specs.Option.{option_map, option_and_then}
use Rattle.std.proofs.lemmas.Bool.{false≢true}
use Rattle.std.proofs.lemmas.Option.{same_Some}
use Rattle.list_law.proofs.Options.{option_and_then_parts}
use Rattle.routing_law.specs.Graph.{run}
use Rattle.routing_law.specs.Laws.{LinesAreGraph}
use Rattle.routing_law.specs.Lines.{LineRoute, LineRoutes, Lines, LinesStable, Tag, line_heard, own_line}
use Rattle.routing_law.specs.Network.{chooses}
use Rattle.routing_law.specs.Outcome.{Route, Same, SameRoutes, Setup, Stable, heard, own_route, with_node, with_nodes}
use Rattle.routing_law.specs.Spells.{Written}
use Rattle.routing_law.proofs.Heard.{chooses_from, chooses_parts, own_parts}
use Rattle.routing_law.proofs.Sound.{Backed}
use Rattle.routing_law.proofs.Tied.{Behind, Given, Tied, given_up, heard_down, own_down}

-- what with_nodes gives, by who holds the route
module _ (w : Setup) (r : LineRoutes) where
  nodes_at_origin : (u : ℕ) → w.net.origin u ≡ true → with_nodes w r u ≡ own_route w u
  nodes_at_origin u o = rw o

  nodes_at_router : (u : ℕ) → w.net.origin u ≡ false → w.net.router u ≡ true → with_nodes w r u ≡ option_and_then (with_node w.graph) (r u)
  nodes_at_router u o ro = rw (o, ro)

  nodes_elsewhere : (u : ℕ) → w.net.origin u ≡ false → w.net.router u ≡ false → with_nodes w r u ≡ None
  nodes_elsewhere u o ro = rw (o, ro)

  -- the node of a route is that of the run along its path
  node_is : (u : ℕ) (x : LineRoute) (p : List ℕ) (n : ℕ) → w.net.origin u ≡ false → w.net.router u ≡ true → r u ≡ Some x → x.path ≡ p
      → run w.graph p ≡ Some n → with_nodes w r u ≡ Some (record { path = p; node = n })
  node_is u x p n o ro h e i =
      nodes_at_router u o ro ∙ ap (option_and_then (with_node w.graph)) h
      ∙ ap (λ q. option_map (λ m. record { path = q; node = m }) (run w.graph q)) e ∙ ap (option_map (λ m. record { path = p; node = m })) i

module _ (w : Setup) (tag : ℕ → Tag) (c : Lines) (r : LineRoutes) (written : Written w.net w.graph tag c) (stable : LinesStable w.net w.alive c r) where
  -- a router that has a route is alive
  pub live_of : (u : ℕ) (z : LineRoute) → w.net.router u ≡ true → r u ≡ Some z → w.alive.live u ≡ true
  live_of u z ro h = by (w.alive.live u) refl
    where
      by : (b : Bool) → w.alive.live u ≡ b → w.alive.live u ≡ true
      by true l = l
      by false l = let e = sym (stable.dead u ro l) ∙ h in absurd (cc)

  -- of a route that was chosen
  chosen_behind : (u t : ℕ) (z : LineRoute) → w.net.router u ≡ true → w.net.origin u ≡ false → r u ≡ Some z → (g : Given w tag (with_nodes w r) u t z) → Behind w tag (with_nodes w r) u z
  chosen_behind u t z ro o h g = record {
    rest = t ∷ g.rest;
    node = g.node;
    has = node_is w r u z (u ∷ t ∷ g.rest) g.node o ro h g.begins g.runs;
    begins = g.begins;
    runs = g.runs;
    tag_is = g.tag_is;
  }

  -- given that the routes from which z can come are those of the graph
  by_origin : (u v : ℕ) (z : LineRoute) → w.net.router u ≡ true → r u ≡ Some z → c.exported u v z.tag ≡ true
      → ((t : ℕ) (y : LineRoute) → z.path ≡ u ∷ y.path → w.net.router t ≡ true → r t ≡ Some y → c.exported t u y.tag ≡ true → Behind w tag (with_nodes w r) t y) → Behind w tag (with_nodes w r) u z
  by_origin u v z ro h ex again = by (w.net.origin u) refl
    where
      by : (b : Bool) → w.net.origin u ≡ b → Behind w tag (with_nodes w r) u z
      by true o =
          let l = live_of u z ro h in
          own_down w tag c written r (with_nodes w r) u v z ro o l (nodes_at_origin w r u o) (same_Some (own_line c u) z (sym (stable.own u ro o l) ∙ h)) ex
      by false o =
          let g = stable.given u z (chooses_from w u ro (live_of u z ro h) o) h in
          chosen_behind u g.0 z ro o h (heard_down w tag c written r (with_nodes w r) u g.0 z ro g.1 (nodes_at_origin w r) (λ y rt i f ext. again g.0 y f rt i ext))

  behind_at : (p : List ℕ) (u v : ℕ) (z : LineRoute) → z.path ≡ p → w.net.router u ≡ true → r u ≡ Some z → c.exported u v z.tag ≡ true → Behind w tag (with_nodes w r) u z
  behind_at [] u v z e ro h ex = by_origin u v z ro h ex (λ t y f rt i ext. let a = sym e ∙ f in absurd (cc))
  behind_at (a ∷ q) u v z e ro h ex = by_origin u v z ro h ex (λ t y f rt i ext. let b = sym f ∙ e in behind_at q t u y (cc) rt i ext)

  behind : (u v : ℕ) (z : LineRoute) → w.net.router u ≡ true → r u ≡ Some z → c.exported u v z.tag ≡ true → Behind w tag (with_nodes w r) u z
  behind u v z ro h ex = behind_at z.path u v z refl ro h ex

  hears : (v u : ℕ) (x : LineRoute) → w.net.router v ≡ true → line_heard w.net w.alive c r v u ≡ Some x → Given w tag (with_nodes w r) v u x
  hears v u x ro h = heard_down w tag c written r (with_nodes w r) v u x ro h (nodes_at_origin w r) (λ z rt e p ex. behind u v z rt e ex)

  -- a route that was chosen is given in the graph too, and held there
  record Chosen (v : ℕ) (x : LineRoute) : Type 0 where
    from : ℕ
    route : Route
    gives : heard w (with_nodes w r) v from ≡ Some route
    has : with_nodes w r v ≡ Some route
    same : Same w.graph tag x route

  chosen : (v : ℕ) (x : LineRoute) → chooses w.net w.alive v ≡ true → r v ≡ Some x → Chosen v x
  chosen v x k h =
      let a = chooses_parts w v k in
      let g = stable.given v x k h in
      let b = hears v g.0 x a.0 g.1 in
      record {
        from = g.0;
        route = record { path = v ∷ g.0 ∷ b.rest; node = b.node };
        gives = b.gives;
        has = node_is w r v x (v ∷ g.0 ∷ b.rest) b.node a.2 a.0 h b.begins b.runs;
        same = record { path_is = b.begins; tag_is = b.tag_is; pref_is = b.pref_is };
      }

  -- a route of the graph that was chosen comes from one of the lines
  chosen_up : (v : ℕ) (y : Route) → chooses w.net w.alive v ≡ true → with_nodes w r v ≡ Some y
      → (x : LineRoute) × (u : ℕ) × (r v ≡ Some x) × (heard w (with_nodes w r) v u ≡ Some y) × Same w.graph tag x y
  chosen_up v y k h =
      let a = chooses_parts w v k in
      let b = option_and_then_parts (with_node w.graph) (r v) y (sym (nodes_at_router w r v a.2 a.0) ∙ h) in
      let d = chosen v b.0 k b.1 in
      let same : d.route ≡ y = same_Some d.route y (sym d.has ∙ h) in
      (b.0, d.from, b.1, d.gives ∙ ap Some same, subst (Same w.graph tag b.0) same d.same)

  none : (v : ℕ) → w.net.origin v ≡ false → chooses w.net w.alive v ≡ false → with_nodes w r v ≡ None
  none v o k = by (w.net.router v) refl (w.alive.live v) refl
    where
      by : (b : Bool) → w.net.router v ≡ b → (d : Bool) → w.alive.live v ≡ d → with_nodes w r v ≡ None
      by false ro d l = nodes_elsewhere w r v o ro
      by true ro false l = nodes_at_router w r v o ro ∙ ap (option_and_then (with_node w.graph)) (stable.dead v ro l)
      by true ro true l = absurd (false≢true (sym k ∙ chooses_from w v ro l o))

  nodes_backed : Backed w (with_nodes w r)
  nodes_backed = record {
    own = nodes_at_origin w r;
    none = none;
    given = λ v y k h. let a = chosen_up v y k h in (a.1, a.3);
  }

  pub tied_nodes : Tied w tag c r (with_nodes w r)
  tied_nodes = record { backed = nodes_backed; down = behind; up = λ u y ro h. up u y ro h (w.net.origin u) refl (w.alive.live u) refl }
    where
      up : (u : ℕ) (y : Route) → w.net.router u ≡ true → with_nodes w r u ≡ Some y → (b : Bool) → w.net.origin u ≡ b → (d : Bool) → w.alive.live u ≡ d
          → (z : LineRoute) × (r u ≡ Some z) × (z.path ≡ y.path) × (z.tag ≡ tag y.node)
      up u y ro h true o d l =
          let a = own_parts w u y (sym (nodes_at_origin w r u o) ∙ h) in
          (own_line c u, stable.own u ro o a.0, sym a.2, written.lines.own u y.node ro a.1)
      up u y ro h false o true l = let a = chosen_up u y (chooses_from w u ro l o) h in (a.0, a.2, a.4.path_is, a.4.tag_is)
      up u y ro h false o false l =
          let z : None ≡ Some y = ap (option_and_then (with_node w.graph)) (sym (stable.dead u ro l)) ∙ sym (nodes_at_router w r u o ro) ∙ h in
          absurd (cc)

  pub same_routes : SameRoutes w tag r (with_nodes w r)
  same_routes = record {
    down = λ v x k h. let a = chosen v x k h in (a.route, a.has, a.same);
    up = λ v y k h. let a = chosen_up v y k h in (a.0, a.2, a.4);
  }

  pub graph_stable : Stable w (with_nodes w r)
  graph_stable = record {
    own = nodes_backed.own;
    none = nodes_backed.none;
    given = nodes_backed.given;
    best = λ v u y k h.
        let a = given_up w tag c written r (with_nodes w r) tied_nodes v u y (chooses_parts w v k).0 h in
        let b = stable.best v u a.0 k a.1 in
        let d = chosen v b.0 k b.1 in
        (d.route, d.has, subst (λ p. w.graph.number y.node ≤ p) d.same.pref_is (subst (λ p. p ≤ b.0.pref) a.2.pref_is b.2));
  }

pub lines_are_graph : LinesAreGraph
lines_are_graph w tag c r written stable = (graph_stable w tag c r written stable, same_routes w tag c r written stable)
