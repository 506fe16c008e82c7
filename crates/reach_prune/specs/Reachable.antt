-- Which nodes of a graph can be reached, as a table with a row for each node.
use Rattle.std.specs.Prelude.{◌≡◌, ◌↔◌, ℕ, ◌<◌, Bool, IsTrue, length}
use Rattle.bit_rows.specs.Tables.{PlainRows, has_at}
use Rattle.graph_base.specs.Graphs.{PlainGraph}
use Rattle.graph_base.specs.Runs.{Reaches}

-- the row of a node has the nodes from which it can be reached
abbrev pub can_reach : PlainRows → ℕ → ℕ → Bool
can_reach rows from to = has_at rows to from

-- the table of this graph: it tells of each two nodes whether the second can be reached from the first
pub record IsReachOf (g : PlainGraph) (rows : PlainRows) : Type 0 where
  pub count : rows.count ≡ length g.nodes
  pub bits : rows.bits ≡ length g.nodes
  pub exact : (a b : ℕ) → a < length g.nodes → b < length g.nodes → IsTrue (can_reach rows a b) ↔ Reaches g a b
