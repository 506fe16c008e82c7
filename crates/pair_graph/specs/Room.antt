-- How many steps the graph of pairs has, and when these are more than there is room for.
use Rattle.std.specs.Prelude.{◌≡◌, ℕ, ◌<◌, IsTrue, is_some, List, Some, length, slice_get}
use Rattle.list_law.specs.Members.{IsIn}
use Rattle.graph_base.specs.Graphs.{PlainGraph}
use Rattle.pair_graph.specs.declared.pair.NodePair.{NodePair}
use Rattle.pair_graph.specs.Pairs.{run_pair, step_pair}

-- a walk leads to the pair, and goes on to the location
pub record GoesOn (g h : PlainGraph) (x : NodePair) (l : ℕ) : Type 0 where
  pub path : List ℕ
  pub leads : run_pair g h path ≡ Some x
  pub on : IsTrue (is_some (step_pair g h x l))

-- Walks of pairs go on from pairs to locations in these ways, none of which is there twice.
pub record AreWays (g h : PlainGraph) (ways : List (NodePair × ℕ)) : Type 0 where
  pub apart : (i j : ℕ) (way : NodePair × ℕ) → slice_get ways i ≡ Some way → slice_get ways j ≡ Some way → i ≡ j
  pub taken : (i : ℕ) (way : NodePair × ℕ) → slice_get ways i ≡ Some way → GoesOn g h way.0 way.1

-- They go on in so many ways: each is a step of the graph of pairs.
pub record HasPairSteps (g h : PlainGraph) (count : ℕ) : Type 0 where
  pub ways : List (NodePair × ℕ)
  pub are : AreWays g h ways
  pub all : (x : NodePair) (l : ℕ) → GoesOn g h x l → IsIn ways (x, l)
  pub steps : count ≡ length ways

-- They go on in more ways than there is room for.
pub record PassesRoom (g h : PlainGraph) (room : ℕ) : Type 0 where
  pub ways : List (NodePair × ℕ)
  pub are : AreWays g h ways
  pub more : room < length ways
