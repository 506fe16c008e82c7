-- Outcomes in terms of the graph: each route is a path and the node in which its run ends.
use Rattle.std.specs.Prelude.{ℕ, ◌≡◌, ◌≤◌, true, false, ◌∷◌, [], List, length, Option, Some, None, if◌then◌else◌}
use Rattle.std.specs.Option.{option_map, option_and_then}
use Rattle.routing_law.specs.Graph.{Graph, run}
use Rattle.routing_law.specs.Lines.{LineRoute, LineRoutes, Lines, Tag, own_line}
use Rattle.routing_law.specs.Network.{Alive, Network, chooses, giver, stands_on, survives}

-- what the laws speak of: a network, what of it is alive, and a graph
pub record Setup : Type 0 where
  pub net : Network
  pub alive : Alive
  pub graph : Graph

pub record Route : Type 0 where
  pub path : List ℕ
  pub node : ℕ

abbrev pub Routes : Type 0
Routes = ℕ → Option Route

-- an origin's own route
abbrev pub own_route : Setup → ℕ → Option Route
own_route w v = if w.alive.live v then option_map (λ s. record { path = v ∷ []; node = s }) (w.graph.start v) else None

-- what v makes of a route that comes to it
abbrev pub extended : Setup → ℕ → Route → Option Route
extended w v x = if stands_on v x.path then None else option_map (λ n. record { path = v ∷ x.path; node = n }) (w.graph.next x.node v)

-- what v is given by u
abbrev pub heard : Setup → Routes → ℕ → ℕ → Option Route
heard w r v u = if w.alive.carries u v then option_and_then (extended w v) (r u) else None

-- a stable outcome of the graph; here a peer that is an origin holds its route
pub record Stable (w : Setup) (r : Routes) : Type 0 where
  pub own : (v : ℕ) → w.net.origin v ≡ true → r v ≡ own_route w v
  pub none : (v : ℕ) → w.net.origin v ≡ false → chooses w.net w.alive v ≡ false → r v ≡ None
  pub given : (v : ℕ) (x : Route) → chooses w.net w.alive v ≡ true → r v ≡ Some x → (u : ℕ) × (heard w r v u ≡ Some x)
  pub best : (v u : ℕ) (y : Route) → chooses w.net w.alive v ≡ true → heard w r v u ≡ Some y → (x : Route) × (r v ≡ Some x) × (w.graph.number y.node ≤ w.graph.number x.node)

-- x comes no later than y: a higher number first, then fewer locations, then the lower identifier of the neighbour
pub record NoLater (w : Setup) (x y : Route) : Type 0 where
  pub number : w.graph.number y.node ≤ w.graph.number x.node
  pub fewer : w.graph.number y.node ≡ w.graph.number x.node → length x.path ≤ length y.path
  pub lower : w.graph.number y.node ≡ w.graph.number x.node → length x.path ≡ length y.path → w.net.name (giver x.path) ≤ w.net.name (giver y.path)

-- a stable outcome in which ties are broken by the full order
pub record FullyStable (w : Setup) (r : Routes) : Type 0 where
  pub stable : Stable w r
  pub first : (v u : ℕ) (x y : Route) → chooses w.net w.alive v ≡ true → r v ≡ Some x → heard w r v u ≡ Some y → NoLater w x y

-- a node is reached along a surviving walk, which may pass a location more than once
pub record ReachedAt (w : Setup) (v n : ℕ) : Type 0 where
  pub rest : List ℕ
  pub runs : run w.graph (v ∷ rest) ≡ Some n
  pub lives : survives w.alive (v ∷ rest) ≡ true

-- a route of the lines and one of the graph are the same
pub record Same (g : Graph) (tag : ℕ → Tag) (x : LineRoute) (y : Route) : Type 0 where
  pub path_is : x.path ≡ y.path
  pub tag_is : x.tag ≡ tag y.node
  pub pref_is : x.pref ≡ g.number y.node

-- the outcomes are the same for the routers that choose
pub record SameRoutes (w : Setup) (tag : ℕ → Tag) (r : LineRoutes) (s : Routes) : Type 0 where
  pub down : (v : ℕ) (x : LineRoute) → chooses w.net w.alive v ≡ true → r v ≡ Some x → (y : Route) × (s v ≡ Some y) × Same w.graph tag x y
  pub up : (v : ℕ) (y : Route) → chooses w.net w.alive v ≡ true → s v ≡ Some y → (x : LineRoute) × (r v ≡ Some x) × Same w.graph tag x y

-- an outcome of the lines, with the nodes in which its paths end
abbrev pub with_node : Graph → LineRoute → Option Route
with_node g x = option_map (λ n. record { path = x.path; node = n }) (run g x.path)

abbrev pub with_nodes : Setup → LineRoutes → Routes
with_nodes w r v = if w.net.origin v then own_route w v else if w.net.router v then option_and_then (with_node w.graph) (r v) else None

-- an outcome of the graph, with the tags and numbers of its nodes
abbrev pub with_tag : Graph → (ℕ → Tag) → Route → LineRoute
with_tag g tag y = record { path = y.path; tag = tag y.node; pref = g.number y.node }

abbrev pub with_tags : Setup → (ℕ → Tag) → Lines → Routes → LineRoutes
with_tags w tag c s v = if w.net.origin v then (if w.alive.live v then Some (own_line c v) else None) else option_map (with_tag w.graph tag) (s v)
