-- What failures leave of a graph.
use Rattle.std.specs.Prelude.{◌≡◌, ℕ, Bool, not, ◌&&◌, IsTrue, List, [], ◌∷◌}
use Rattle.net_base.specs.Network.{PlainNet}
use Rattle.graph_base.specs.Graphs.{PlainGraph}
use Rattle.graph_base.specs.Runs.{place_of, is_start, has_step}
use Rattle.outcome_base.specs.Outcomes.{Failures, is_dead, is_dead_link}
use Rattle.scenarios.specs.Surviving.{AreSurvivors}
use Rattle.scenarios.specs.declared.survivors.Survivors.{Survivors}
use Rattle.settled_outcome.specs.Surviving.{left_by}

-- the link of two locations and both ends aren't dead
abbrev pub spares : Failures → ℕ → ℕ → Bool
spares f a b = not (is_dead_link f a b) && not (is_dead f a) && not (is_dead f b)

-- a start at a location that isn't dead
abbrev pub is_open_start : PlainGraph → Failures → ℕ → Bool
is_open_start g f n = is_start g n && not (is_dead f (place_of g n))

-- a step over what isn't dead
abbrev pub is_open_step : PlainGraph → Failures → ℕ → ℕ → Bool
is_open_step g f m n = has_step g m n && spares f (place_of g m) (place_of g n)

-- open steps lead from a through these nodes, of which the last is b
abbrev pub IsOpenTrail : PlainGraph → Failures → ℕ → List ℕ → ℕ → Type 0
IsOpenTrail g f a [] b = a ≡ b
IsOpenTrail g f a (c ∷ cs) b = IsTrue (is_open_step g f a c) × IsOpenTrail g f c cs b

-- open steps lead to a node from an open start
abbrev pub IsLeft : PlainGraph → Failures → ℕ → Type 0
IsLeft g f n = (a : ℕ) × IsTrue (is_open_start g f a) × (via : List ℕ) × IsOpenTrail g f a via n

-- the second graph is what the failures leave of the first
pub record IsOpened (net : PlainNet) (f : Failures) (g opened : PlainGraph) : Type 0 where
  pub survivors : Survivors
  pub are : AreSurvivors net f survivors
  pub is : opened ≡ left_by net survivors g
