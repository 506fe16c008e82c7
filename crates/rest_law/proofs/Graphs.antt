-- Speakers whose routes are those of a graph.
use Rattle.std.specs.Prelude.{◌≡◌, ℕ, ◌<◌, true, false, List, [], ◌∷◌, Option, Some, if◌then◌else◌}
use Rattle.std.specs.Option.{option_map}
use Rattle.event_base.specs.World.{Speakers, World, live}
use Rattle.rest_law.specs.Orders.{Order, Takes, at_rest, rests, said}
use Rattle.routing_law.specs.Graph.{run}
use Rattle.routing_law.specs.Network.{chooses, stands_on}
use Rattle.routing_law.specs.Outcome.{NoLater, Route, Routes, Setup, own_route}

-- y is held by x, and has a run to its node
pub record Runs (setup : Setup) (x : ℕ) (y : Route) : Type 0 where
  pub rest : List ℕ
  pub begins : y.path ≡ x ∷ rest
  pub runs : run setup.graph y.path ≡ Some y.node

-- in the graph v takes y of x, and comes to the node m
pub record Steps (setup : Setup) (x v : ℕ) (y : Route) (m : ℕ) : Type 0 where
  pub carries : setup.alive.carries x v ≡ true
  pub off : stands_on v y.path ≡ false
  pub step : setup.graph.next y.node v ≡ Some m

abbrev pub stepped : ℕ → Route → ℕ → Route
stepped v y m = record { path = v ∷ y.path; node = m }

-- In a world the speakers say and take what the graph does over what lives, where a route of the graph stands for one of theirs.
pub record AreOfGraph {R : Type 0} (net : Speakers R) (w : World R) (takes : Takes R) (no_later : Order R) (setup : Setup) (route_of : Route → R) : Type 0 where
  -- who chooses
  pub chooser : (r : ℕ) → rests net w r ≡ false → chooses setup.net setup.alive r ≡ true
  pub rester : (r : ℕ) → chooses setup.net setup.alive r ≡ true → rests net w r ≡ false
  pub below : (r : ℕ) → chooses setup.net setup.alive r ≡ true → r < setup.net.size
  -- the order of what neighbours give
  pub order : (v u t : ℕ) (x y : Route) (p q : List ℕ) → x.path ≡ v ∷ u ∷ p → y.path ≡ v ∷ t ∷ q → no_later (u, route_of x) (t, route_of y) → NoLater setup x y
  -- what is taken of those that rest: they are origins
  pub own_down : (x v : ℕ) (h : R) → rests net w x ≡ true → chooses setup.net setup.alive v ≡ true → live net w x v ≡ true → takes v x (said net w x v (at_rest net w x)) ≡ Some h
      → (setup.net.origin x ≡ true) × ((y : Route) × (m : ℕ) × (own_route setup x ≡ Some y) × (y.path ≡ x ∷ []) × Steps setup x v y m × (h ≡ route_of (stepped v y m)))
  pub own_up : (x v : ℕ) (y : Route) (m : ℕ) → setup.net.origin x ≡ true → own_route setup x ≡ Some y → chooses setup.net setup.alive v ≡ true → Steps setup x v y m
      → (rests net w x ≡ true) × (live net w x v ≡ true) × (takes v x (said net w x v (at_rest net w x)) ≡ Some (route_of (stepped v y m)))
  -- and of the others
  pub down : (x v : ℕ) (y : Route) (h : R) → chooses setup.net setup.alive x ≡ true → chooses setup.net setup.alive v ≡ true → Runs setup x y
      → live net w x v ≡ true → takes v x (said net w x v (Some (route_of y))) ≡ Some h
      → (m : ℕ) × Steps setup x v y m × (h ≡ route_of (stepped v y m))
  pub up : (x v : ℕ) (y : Route) (m : ℕ) → chooses setup.net setup.alive x ≡ true → chooses setup.net setup.alive v ≡ true → Runs setup x y → Steps setup x v y m
      → (live net w x v ≡ true) × (takes v x (said net w x v (Some (route_of y))) ≡ Some (route_of (stepped v y m)))

-- what the speakers hold in an outcome of the graph
abbrev pub held_in : {R : Type 0} → Speakers R → World R → (Route → R) → Routes → ℕ → Option R
held_in net w route_of s r = if rests net w r then at_rest net w r else option_map route_of (s r)
