-- The relation of a graph as it is held.
use Rattle.std.specs.Prelude.{◌≡◌, ℕ, ◌≤◌, Bool, ◌&&◌, ◌||◌, ◌==◌, IsTrue, List, length, map, nat_lt, slice_index_or}
use Rattle.bit_rows.specs.Tables.{PlainRows, has_at}
use Rattle.graph_base.specs.declared.graph.Node.{Node}
use Rattle.graph_base.specs.declared.graph.TheConstants.{MAX_NODES}
use Rattle.graph_base.specs.Graphs.{PlainGraph}
use Rattle.net_base.specs.declared.loc.LocSet.{LocSet}
use Rattle.relation_law.specs.Relations.{IsGreatest}
use Rattle.relation_law.specs.Rounds.{TakesNothingMore, left_after}
use Rattle.relation_law.specs.Views.{view_of}

-- the location of each node, what is claimed, and a row for each node: which nodes may stand at least as high
pub record PlainRelation : Type 0 where
  pub places : List ℕ
  pub claimed : LocSet
  pub rows : PlainRows

-- so many rows of as many bits
pub record IsSquare (size : ℕ) (rows : PlainRows) : Type 0 where
  pub count : rows.count ≡ size
  pub bits : rows.bits ≡ size
  pub few : size ≤ MAX_NODES

-- two nodes at one location
abbrev pub are_together : PlainRelation → ℕ → ℕ → Bool
are_together r m n = nat_lt m (length r.places) && (nat_lt n (length r.places) && slice_index_or r.places m 0 == slice_index_or r.places n 0)

-- m, at the location of n, may stand at least as high
abbrev pub has : PlainRelation → ℕ → ℕ → Bool
has r m n = are_together r m n && has_at r.rows n m

-- of a node and each other at its location, itself included, one direction is left
abbrev pub HasEachOf : PlainRelation → ℕ → Type 0
HasEachOf r m = (n : ℕ) → IsTrue (are_together r m n) → IsTrue (has r m n || has r n m)

abbrev pub HasEach : PlainRelation → Type 0
HasEach r = (m : ℕ) → HasEachOf r m

-- it is the greatest relation of this graph for the claimed set that it keeps
pub record IsRelationOf (g : PlainGraph) (r : PlainRelation) : Type 0 where
  pub places : r.places ≡ map (λ (node : Node). node.loc) g.nodes
  pub greatest : IsGreatest (view_of g r.claimed) (has r)

-- It is what the rounds leave, up to one that takes no pair away. In which round each other pair goes, the graph, what can
-- be reached and what is claimed tell.
pub record IsLeftByRounds (g : PlainGraph) (reach : ℕ → ℕ → Bool) (r : PlainRelation) : Type 0 where
  pub rounds : ℕ
  pub settled : TakesNothingMore (view_of g r.claimed) reach rounds
  pub left : (m n : ℕ) → has r m n ≡ left_after (view_of g r.claimed) reach rounds m n
