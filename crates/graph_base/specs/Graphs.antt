-- Graphs without where they lie in memory.
use Rattle.std.specs.Prelude.{ℕ, ◌<◌, ◌≤◌, List, length}
use Rattle.std.specs.List.{AllByRecursion}
use Rattle.graph_base.specs.declared.graph.Node.{Node}
use Rattle.graph_base.specs.declared.graph.TheConstants.{MAX_NODES}

pub record PlainGraph : Type 0 where
  pub nodes : List Node
  pub starts : List ℕ
  pub steps : List (ℕ × ℕ)

-- What every graph keeps: its starts and steps name nodes of its list.
pub record IsGraph (g : PlainGraph) : Type 0 where
  pub count : length g.nodes ≤ MAX_NODES
  pub starts : AllByRecursion (λ n. n < length g.nodes) g.starts
  pub steps : AllByRecursion (λ (s : ℕ × ℕ). (s.0 < length g.nodes) × (s.1 < length g.nodes)) g.steps
