-- An outcome of the lines and one of the graph that go together: what the one gives, the other does.
use Rattle.std.proofs.Common.{◌≡◌, ℕ, Bool, true, false, cond, ◌&&◌, List, [], ◌∷◌, Some, None, eqb, refl, sym, ap, ◌∙◌}
use Rattle.std.specs.Option.{option_map, option_and_then}
use Rattle.std.proofs.lemmas.Bool.{and_parts, false≢true, eqb-true}
use Rattle.list_law.proofs.Options.{option_and_then_parts, option_map_parts, unless_parts, when_parts}
use Rattle.routing_law.specs.Graph.{run}
use Rattle.routing_law.specs.Lines.{LineRoute, LineRoutes, Lines, Tag, line_announced, line_extended, line_heard, own_line, taken_by}
use Rattle.routing_law.specs.Network.{stands_on}
use Rattle.routing_law.specs.Outcome.{Route, Routes, Same, Setup, heard, own_route}
use Rattle.routing_law.specs.Spells.{StepOver, Written}
use Rattle.routing_law.proofs.Heard.{Heard, heard_from, heard_parts, no_router, own_from, own_parts}
use Rattle.routing_law.proofs.Highest.{known_of, place_of}
use Rattle.routing_law.proofs.Sound.{Backed}
use Rattle.routing_law.proofs.Steps.{announcements_are_steps, imports_are_steps, own_routes_are_starts}

-- what the route z of u is in the graph: the same path, and the node of its tag at the end of the run
pub record Behind (w : Setup) (tag : ℕ → Tag) (s : Routes) (u : ℕ) (z : LineRoute) : Type 0 where
  pub rest : List ℕ
  pub node : ℕ
  pub has : s u ≡ Some (record { path = u ∷ rest; node = node })
  pub begins : z.path ≡ u ∷ rest
  pub runs : run w.graph (u ∷ rest) ≡ Some node
  pub tag_is : z.tag ≡ tag node

-- what the route x is in the graph, which v is given by u
pub record Given (w : Setup) (tag : ℕ → Tag) (s : Routes) (v u : ℕ) (x : LineRoute) : Type 0 where
  pub rest : List ℕ
  pub node : ℕ
  pub gives : heard w s v u ≡ Some (record { path = v ∷ u ∷ rest; node = node })
  pub begins : x.path ≡ v ∷ u ∷ rest
  pub runs : run w.graph (v ∷ u ∷ rest) ≡ Some node
  pub tag_is : x.tag ≡ tag node
  pub pref_is : x.pref ≡ w.graph.number node

pub record Tied (w : Setup) (tag : ℕ → Tag) (c : Lines) (r : LineRoutes) (s : Routes) : Type 0 where
  pub backed : Backed w s
  pub down : (u v : ℕ) (z : LineRoute) → w.net.router u ≡ true → r u ≡ Some z → c.exported u v z.tag ≡ true → Behind w tag s u z
  pub up : (u : ℕ) (y : Route) → w.net.router u ≡ true → s u ≡ Some y → (z : LineRoute) × (r u ≡ Some z) × (z.path ≡ y.path) × (z.tag ≡ tag y.node)

module _ (w : Setup) (tag : ℕ → Tag) (c : Lines) (written : Written w.net w.graph tag c) (r : LineRoutes) (s : Routes) where
  -- of an origin's own route, where it is exported
  pub own_down : (u v : ℕ) (z : LineRoute) → w.net.router u ≡ true → w.net.origin u ≡ true → w.alive.live u ≡ true → s u ≡ own_route w u
      → own_line c u ≡ z → c.exported u v z.tag ≡ true → Behind w tag s u z
  own_down u v z ro o l own e ex =
      let a = own_routes_are_starts w.net w.graph tag c written u v ro o (ap (λ (y : LineRoute). c.exported u v y.tag) e ∙ ex) in
      record { rest = []; node = a.0; has = own ∙ own_from w u a.0 l a.1; begins = ap (λ (y : LineRoute). y.path) (sym e); runs = a.1; tag_is = ap (λ (y : LineRoute). y.tag) (sym e) ∙ a.2 }

  -- where the neighbour's route is one of the graph, so is what it gives
  pub heard_down : (v u : ℕ) (x : LineRoute) → w.net.router v ≡ true → line_heard w.net w.alive c r v u ≡ Some x → ((o : ℕ) → w.net.origin o ≡ true → s o ≡ own_route w o)
      → ((z : LineRoute) → w.net.router u ≡ true → r u ≡ Some z → x.path ≡ v ∷ z.path → c.exported u v z.tag ≡ true → Behind w tag s u z) → Given w tag s v u x
  heard_down v u x rv h own behind =
      let a = when_parts (w.alive.carries u v) (cond (w.net.router u) (option_and_then (line_extended c v u) (r u)) (line_announced w.net w.alive c v u)) x h in
      by (w.net.router u) refl a.0 a.1
    where
      from_router : (z : LineRoute) (q : Tag × ℕ) → w.net.router u ≡ true → w.alive.carries u v ≡ true → stands_on v z.path ≡ false
          → c.imported v u z.tag ≡ Some q → taken_by v z.path q ≡ x → Behind w tag s u z → Given w tag s v u x
      from_router z q ro k off im e b =
          let a = imports_are_steps w.net w.graph tag c written u v b.node b.rest q ro rv b.runs (ap (c.imported v u) (sym b.tag_is) ∙ im) in
          record {
            rest = b.rest;
            node = a.0;
            gives = heard_from w s v u (record { path = u ∷ b.rest; node = b.node }) a.0 b.has k (ap (stands_on v) (sym b.begins) ∙ off) a.1;
            begins = ap (λ (y : LineRoute). y.path) (sym e) ∙ ap (λ p. v ∷ p) b.begins;
            runs = ap (option_and_then (λ n. w.graph.next n v)) b.runs ∙ a.1;
            tag_is = ap (λ (y : LineRoute). y.tag) (sym e) ∙ ap (λ (p : Tag × ℕ). p.0) a.2;
            pref_is = ap (λ (y : LineRoute). y.pref) (sym e) ∙ ap (λ (p : Tag × ℕ). p.1) a.2;
          }

      other : w.net.router u ≡ false → (t : Bool) → eqb u v ≡ t → stands_on v (u ∷ []) ≡ false
      other ru true i = absurd (false≢true (sym ru ∙ ap w.net.router (eqb-true u v i) ∙ rv))
      other ru false i = rw i

      from_peer : (q : Tag × ℕ) → w.net.router u ≡ false → w.alive.carries u v ≡ true → w.net.origin u ≡ true → w.alive.live u ≡ true
          → c.from_peer v u ≡ Some q → taken_by v (u ∷ []) q ≡ x → Given w tag s v u x
      from_peer q ru k o l im e =
          let a = announcements_are_steps w.net w.graph tag c written u v q ru rv o im in
          record {
            rest = [];
            node = a.1;
            gives = heard_from w s v u (record { path = u ∷ []; node = a.0 }) a.1 (own u o ∙ own_from w u a.0 l a.2) k (other ru (eqb u v) refl) a.3;
            begins = ap (λ (y : LineRoute). y.path) (sym e);
            runs = ap (option_and_then (λ n. w.graph.next n v)) a.2 ∙ a.3;
            tag_is = ap (λ (y : LineRoute). y.tag) (sym e) ∙ ap (λ (p : Tag × ℕ). p.0) a.4;
            pref_is = ap (λ (y : LineRoute). y.pref) (sym e) ∙ ap (λ (p : Tag × ℕ). p.1) a.4;
          }

      by : (b : Bool) → w.net.router u ≡ b → w.alive.carries u v ≡ true → cond b (option_and_then (line_extended c v u) (r u)) (line_announced w.net w.alive c v u) ≡ Some x → Given w tag s v u x
      by true ro k e =
          let a = option_and_then_parts (line_extended c v u) (r u) x e in
          let b = unless_parts (stands_on v a.0.path) (cond (c.exported u v a.0.tag) (option_map (taken_by v a.0.path) (c.imported v u a.0.tag)) None) x a.2 in
          let d = when_parts (c.exported u v a.0.tag) (option_map (taken_by v a.0.path) (c.imported v u a.0.tag)) x b.1 in
          let g = option_map_parts (taken_by v a.0.path) (c.imported v u a.0.tag) x d.1 in
          from_router a.0 g.0 ro k b.0 g.1 g.2 (behind a.0 ro a.1 (ap (λ (y : LineRoute). y.path) (sym g.2)) d.0)
      by false ru k e =
          let a = when_parts (w.net.origin u && w.alive.live u) (option_map (taken_by v (u ∷ [])) (c.from_peer v u)) x e in
          let b = and_parts (w.net.origin u) (w.alive.live u) a.0 in
          let g = option_map_parts (taken_by v (u ∷ [])) (c.from_peer v u) x a.1 in
          from_peer g.0 ru k b.0 b.1 g.1 g.2

  module _ (tied : Tied w tag c r s) where
    pub given_down : (v u : ℕ) (x : LineRoute) → w.net.router v ≡ true → line_heard w.net w.alive c r v u ≡ Some x → (y : Route) × (heard w s v u ≡ Some y) × Same w.graph tag x y
    given_down v u x rv h =
        let g = heard_down v u x rv h tied.backed.own (λ z ro e p ex. tied.down u v z ro e ex) in
        (record { path = v ∷ u ∷ g.rest; node = g.node }, g.gives, record { path_is = g.begins; tag_is = g.tag_is; pref_is = g.pref_is })

    -- a step from the node of a route
    pub step_of : (u v : ℕ) (y : Route) (m : ℕ) → s u ≡ Some y → w.graph.next y.node v ≡ Some m → StepOver w.graph u v y.node m
    step_of u v y m h st = record { node = known_of w written.formed s tied.backed u y h; place = place_of w written.formed s tied.backed u y h; step = st }

    pub given_up : (v u : ℕ) (y : Route) → w.net.router v ≡ true → heard w s v u ≡ Some y → (x : LineRoute) × (line_heard w.net w.alive c r v u ≡ Some x) × Same w.graph tag x y
    given_up v u y rv h = by (heard_parts w s v u y h) (w.net.router u) refl (w.net.origin u) refl
      where
        announced : w.alive.carries u v ≡ true → w.net.router u ≡ false → w.net.origin u ≡ true → w.alive.live u ≡ true
            → c.from_peer v u ≡ Some (tag y.node, w.graph.number y.node)
            → line_heard w.net w.alive c r v u ≡ Some (taken_by v (u ∷ []) (tag y.node, w.graph.number y.node))
        announced ca ro o l im = rw (ca, ro, o, l, im)

        extend : (z : LineRoute) → w.net.router u ≡ true → stands_on v z.path ≡ false → c.exported u v z.tag ≡ true
            → c.imported v u z.tag ≡ Some (tag y.node, w.graph.number y.node) → w.alive.carries u v ≡ true → r u ≡ Some z
            → line_heard w.net w.alive c r v u ≡ Some (taken_by v z.path (tag y.node, w.graph.number y.node))
        extend z ro off ex im ca e = rw (ca, ro, e, off, ex, im)

        by : Heard w s v u y → (b : Bool) → w.net.router u ≡ b → (d : Bool) → w.net.origin u ≡ d → (x : LineRoute) × (line_heard w.net w.alive c r v u ≡ Some x) × Same w.graph tag x y
        by a true ro d o =
            let z = tied.up u a.from ro a.has in
            let over = step_of u v a.from y.node a.has a.step in
            let ex : c.exported u v z.0.tag ≡ true = ap (c.exported u v) z.3 ∙ written.lines.exports u v a.from.node y.node ro over in
            let im : c.imported v u z.0.tag ≡ Some (tag y.node, w.graph.number y.node) = ap (c.imported v u) z.3 ∙ written.lines.imports u v a.from.node y.node ro rv over in (
              taken_by v z.0.path (tag y.node, w.graph.number y.node),
              extend z.0 ro (ap (stands_on v) z.2 ∙ a.off) ex im a.carries z.1,
              record { path_is = ap (λ p. v ∷ p) z.2 ∙ sym a.path; tag_is = refl; pref_is = refl },
            )
        by a false ru true o =
            let p = own_parts w u a.from (sym (tied.backed.own u o) ∙ a.has) in
            let im = written.lines.peers u v a.from.node y.node ru rv (step_of u v a.from y.node a.has a.step) in
            (taken_by v (u ∷ []) (tag y.node, w.graph.number y.node), announced a.carries ru o p.0 im, record { path_is = ap (λ q. v ∷ q) (sym p.2) ∙ sym a.path; tag_is = refl; pref_is = refl })
        by a false ru false o = let z = sym (tied.backed.none u o (no_router w u ru)) ∙ a.has in absurd (cc)
