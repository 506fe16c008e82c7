-- Partial settlements: some routers are settled, and keep what they have; the others are open.
use Rattle.std.specs.Prelude.{ℕ, suc, ◌≡◌, ◌≤◌, ◌<◌, ◌⊎◌, ◌==◌, true, false, List, [], ◌∷◌, length, Some, None, if◌then◌else◌}
use Rattle.routing_law.specs.Network.{chooses}
use Rattle.routing_law.specs.Outcome.{NoLater, Route, Routes, Setup, heard, own_route}

-- origins have their own routes, and the route of a settled router is given by a settled neighbour
pub record PartlySettled (w : Setup) (r : Routes) : Type 0 where
  pub own : (v : ℕ) → w.net.origin v ≡ true → r v ≡ own_route w v
  pub none : (v : ℕ) → w.net.origin v ≡ false → chooses w.net w.alive v ≡ false → r v ≡ None
  pub given : (v : ℕ) (x : Route) → chooses w.net w.alive v ≡ true → r v ≡ Some x → (u : ℕ) × (heard w r v u ≡ Some x)

-- a router that chooses, and isn't settled
abbrev pub IsOpen : Setup → Routes → ℕ → Type 0
IsOpen w r v = (chooses w.net w.alive v ≡ true) × (r v ≡ None)

abbrev pub AllOpen : Setup → Routes → List ℕ → Type 0
AllOpen w r [] = Unit {0}
AllOpen w r (v ∷ p) = IsOpen w r v × AllOpen w r p

-- An open router can come to hold this path with this node: its neighbour on the path is settled with the rest, or is open and
-- can come to hold the rest. Nothing is asked of loops.
abbrev pub CanHold : Setup → Routes → List ℕ → ℕ → Type 0
CanHold w r [] n = ⊥
CanHold w r (v ∷ []) n = ⊥
CanHold w r (v ∷ u ∷ p) n = IsOpen w r v × (w.alive.carries u v ≡ true) × ((m : ℕ) × (w.graph.next m v ≡ Some n) × ((r u ≡ Some (record { path = u ∷ p; node = m })) ⊎ CanHold w r (u ∷ p) m))

-- an open neighbour can come to give y to v
pub record Detour (w : Setup) (r : Routes) (v : ℕ) (y : Route) : Type 0 where
  pub by : ℕ
  pub rest : List ℕ
  pub node : ℕ
  pub path : y.path ≡ v ∷ by ∷ rest
  pub carries : w.alive.carries by v ≡ true
  pub held : CanHold w r (by ∷ rest) node
  pub step : w.graph.next node v ≡ Some y.node

-- x comes before y, whoever gave them: by a higher number, or the same and fewer locations
abbrev pub Before : Setup → Route → Route → Type 0
Before w x y = (w.graph.number y.node < w.graph.number x.node) ⊎ ((w.graph.number y.node ≡ w.graph.number x.node) × (length x.path < length y.path))

-- no settled neighbour gives v a route that comes sooner than x, and x comes before all that open neighbours can come to give it
pub record IsFirm (w : Setup) (r : Routes) (v : ℕ) (x : Route) : Type 0 where
  pub first : (u : ℕ) (y : Route) → heard w r v u ≡ Some y → NoLater w x y
  pub before : (y : Route) → Detour w r v y → Before w x y

-- what a settled neighbour gives v, or an open one can come to give it
abbrev pub IsCandidate : Setup → Routes → ℕ → Route → Type 0
IsCandidate w r v y = ((u : ℕ) × (heard w r v u ≡ Some y)) ⊎ Detour w r v y

-- a settled neighbour gives the open router v such a route
pub record IsSecure (w : Setup) (r : Routes) (v : ℕ) (x : Route) : Type 0 where
  pub is_open : IsOpen w r v
  pub from : ℕ
  pub gives : heard w r v from ≡ Some x
  pub firm : IsFirm w r v x

-- a partial settlement in which each settled router's route is firm
pub record FirmlySettled (w : Setup) (r : Routes) : Type 0 where
  pub partly : PartlySettled w r
  pub firm : (v : ℕ) (x : Route) → chooses w.net w.alive v ≡ true → r v ≡ Some x → IsFirm w r v x

-- where only the origins are settled
abbrev pub at_first : Setup → Routes
at_first w v = if w.net.origin v then own_route w v else None

-- and v with x
abbrev pub settled_with : Routes → ℕ → Route → Routes
settled_with r v x u = if u == v then Some x else r u

-- An order in which routers settle, from the origins to the outcome s, each of them secure when it does.
pub record SettlingOrder (w : Setup) (s : Routes) : Type 0 where
  pub count : ℕ
  pub few : count ≤ w.net.size
  -- what is settled when so many routers are
  pub stage : ℕ → Routes
  pub begins : stage 0 ≡ at_first w
  pub firm : (i : ℕ) → i ≤ count → FirmlySettled w (stage i)
  pub next : (i : ℕ) → i < count → (v : ℕ) × (x : Route) × IsSecure w (stage i) v x × (s v ≡ Some x) × (stage (suc i) ≡ settled_with (stage i) v x)
  pub ends : (v : ℕ) → stage count v ≡ s v
