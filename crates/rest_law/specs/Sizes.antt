-- Sizes of routes: of their paths, say, or of their whole AS paths. And which open router can be the next to settle where ties are free.
use Rattle.std.specs.Prelude.{ℕ, suc, ◌≡◌, ◌≤◌, ◌<◌, ◌⊎◌, true, List, ◌∷◌, Some}
use Rattle.routing_law.specs.Network.{chooses}
use Rattle.routing_law.specs.Outcome.{Route, Routes, Setup, heard}
use Rattle.rest_law.specs.Partial.{Detour, IsOpen}

abbrev pub Size : Type 0
Size = List ℕ → ℕ

-- a path has some size, and with each hop from a router that chooses it grows by one; with the first hop, from an origin, by anything
pub record IsSize (w : Setup) (size : Size) : Type 0 where
  pub some : (v : ℕ) (p : List ℕ) → 1 ≤ size (v ∷ p)
  pub grows : (v u : ℕ) (p : List ℕ) → chooses w.net w.alive u ≡ true → size (v ∷ u ∷ p) ≡ suc (size (u ∷ p))

-- x comes before y, whoever gave them: by a higher number, or the same and a lower size
abbrev pub Sooner : Setup → Size → Route → Route → Type 0
Sooner w size x y = (w.graph.number y.node < w.graph.number x.node) ⊎ ((w.graph.number y.node ≡ w.graph.number x.node) × (size x.path < size y.path))

-- y doesn't
pub record NoneSooner (w : Setup) (size : Size) (x y : Route) : Type 0 where
  pub number : w.graph.number y.node ≤ w.graph.number x.node
  pub shorter : w.graph.number y.node ≡ w.graph.number x.node → size x.path ≤ size y.path

-- A settled neighbour gives the open router v a route, none that settled neighbours give comes sooner, and it comes before all that open ones
-- can come to give. So what ties with it is given by settled neighbours alone, and whichever of these v takes, it will be one of them.
pub record IsNext (w : Setup) (size : Size) (r : Routes) (v : ℕ) (x : Route) : Type 0 where
  pub is_open : IsOpen w r v
  pub from : ℕ
  pub gives : heard w r v from ≡ Some x
  pub first : (u : ℕ) (y : Route) → heard w r v u ≡ Some y → NoneSooner w size x y
  pub before : (y : Route) → Detour w r v y → Sooner w size x y
