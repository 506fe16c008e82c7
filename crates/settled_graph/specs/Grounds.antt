-- What the laws of routing speak of, as lists.
use Rattle.std.specs.Prelude.{◌≡◌, ◌↔◌, ℕ, ◌<◌, true, IsTrue, List, length, Option, Some, option_map}
use Rattle.net_base.specs.declared.loc.LocSet.{LocSet}
use Rattle.net_base.specs.Network.{PlainNet, id_of}
use Rattle.net_base.specs.Sets.{holds}
use Rattle.net_base.specs.declared.limits.TheConstants.{LOCATIONS}
use Rattle.graph_base.specs.Graphs.{PlainGraph}
use Rattle.graph_base.specs.Runs.{place_of, is_start, has_step}
use Rattle.routing_law.specs.Graph.{MeetsRules, WellFormed}
use Rattle.routing_law.specs.Network.{NamesDiffer, chooses}
use Rattle.routing_law.specs.Outcome.{Route, Setup}
use Rattle.settled_graph.specs.declared.settled.Settled.{Settled}
use Rattle.graph_base.specs.Preferences.{number_in}
use Rattle.settled_graph.specs.Best.{entry_at}

-- The network names the locations; the graph is the part that is alive: the starts at live locations, and the steps over which what one
-- announces comes to the other; the set has the locations that choose.
pub record IsGround (net : PlainNet) (g : PlainGraph) (numbers : List ℕ) (choosers : LocSet) (w : Setup) : Type 0 where
  pub formed : WellFormed w.net w.graph
  pub rules : MeetsRules w.net w.graph
  pub differ : NamesDiffer w.net
  pub name : (v : ℕ) → w.net.name v ≡ id_of net v
  pub count : w.graph.nodes ≡ length g.nodes
  pub place : (n : ℕ) → w.graph.place n ≡ place_of g n
  pub number : (n : ℕ) → w.graph.number n ≡ number_in numbers n
  pub choice : (v : ℕ) → chooses w.net w.alive v ≡ holds choosers v
  pub within : (v : ℕ) → chooses w.net w.alive v ≡ true → v < LOCATIONS
  pub ends : (u v : ℕ) → w.alive.carries u v ≡ true → w.alive.live v ≡ true
  pub starts : (s : ℕ) → IsTrue (is_start g s) ↔ ((w.alive.live (w.graph.place s) ≡ true) × (w.graph.start (w.graph.place s) ≡ Some s))
  pub steps : (m n : ℕ) → IsTrue (has_step g m n) ↔ ((w.alive.carries (w.graph.place m) (w.graph.place n) ≡ true) × (w.graph.next m (w.graph.place n) ≡ Some n))

abbrev pub route_of : Settled → Route
route_of x = record { path = x.path; node = x.node }

-- what each location holds
abbrev pub held_in : List (Option Settled) → ℕ → Option Route
held_in routes v = option_map route_of (entry_at routes v)
