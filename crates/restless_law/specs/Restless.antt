-- Networks that never rest. Each lacks one thing that `steady_law` asks for and has all the others.
use Rattle.std.specs.Prelude.{ℕ, suc, ◌≡◌, ◌≤◌, true, List, ◌∷◌, Some}
use Rattle.routing_law.specs.Graph.{MeetsRules, WellFormed}
use Rattle.routing_law.specs.Network.{NamesDiffer, chooses, giver}
use Rattle.routing_law.specs.Outcome.{Route, Routes, Setup, heard}
use Rattle.tie_law.specs.Ties.{IsSize, Size}
use Rattle.steady_law.specs.Histories.{History, HoldsRuns, IsRound, IsSteady}

-- from no time on each location holds one route
abbrev pub NeverSettles : History → Type 0
NeverSettles h = (start : ℕ) (s : Routes) → ((t v : ℕ) → start ≤ t → h t v ≡ s v) → ⊥

-- Routers take one of the first of what they are given, each time whichever they like.
pub record WithFreeTies : Type 0 where
  pub setup : Setup
  pub size : Size
  pub sized : IsSize setup size
  pub formed : WellFormed setup.net setup.graph
  pub rules : MeetsRules setup.net setup.graph
  pub history : History
  pub holds : HoldsRuns setup history 0
  pub rounds : (k : ℕ) → IsRound setup size history k (suc k)
  pub never : NeverSettles history

-- Lengths aren't compared: all paths have one size. Ties go to the lowest identifier: of what a router was given a moment before, of the same
-- number and size, no neighbour with a lower identifier gave any.
pub record WithoutLengths : Type 0 where
  pub setup : Setup
  pub size : Size
  pub alike : (p q : List ℕ) → size p ≡ size q
  pub some : (v : ℕ) (p : List ℕ) → 1 ≤ size (v ∷ p)
  pub formed : WellFormed setup.net setup.graph
  pub rules : MeetsRules setup.net setup.graph
  pub differ : NamesDiffer setup.net
  pub history : History
  pub holds : HoldsRuns setup history 0
  pub rounds : (k : ℕ) → IsRound setup size history k (suc k) × IsSteady setup size history k (suc k)
  pub named : (t v u : ℕ) (x y : Route) → chooses setup.net setup.alive v ≡ true → history (suc t) v ≡ Some x → heard setup (history t) v u ≡ Some y
      → setup.graph.number y.node ≡ setup.graph.number x.node → setup.net.name (giver x.path) ≤ setup.net.name (giver y.path)
  pub never : NeverSettles history
