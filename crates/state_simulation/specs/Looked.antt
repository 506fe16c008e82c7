-- Lists by which the nodes of a graph are looked up.
use Rattle.std.specs.Prelude.{◌≡◌, ℕ, ◌<◌, Bool, false, ◌&&◌, ◌==◌, IsTrue, List, Option, All, length, nat_lt}
use Rattle.std.specs.List.{list_any}
use Rattle.bit_rows.specs.Tables.{PlainRows, has_at}
use Rattle.graph_base.specs.Graphs.{PlainGraph}
use Rattle.graph_base.specs.Runs.{has_step, place_of}
use Rattle.reach_prune.specs.Searches.{is_among, is_listed}
use Rattle.relation_law.specs.Views.{View, view_with}

-- the graph, where nothing is claimed
abbrev pub shown : PlainGraph → View
shown g = view_with g (λ l. false)

pub record AreMaps (g : PlainGraph) (successors before peers : List (List ℕ)) : Type 0 where
  -- steps are of nodes
  pub ends : (m n : ℕ) → IsTrue (has_step g m n) → (m < length g.nodes) × (n < length g.nodes)
  pub ahead : length successors ≡ length g.nodes
  pub steps : (m n : ℕ) → is_listed successors m n ≡ has_step g m n
  pub behind : length before ≡ length g.nodes
  pub turned : (n m : ℕ) → is_listed before n m ≡ has_step g m n
  pub located : (n : ℕ) → n < length g.nodes → place_of g n < length peers
  pub placed : (p n : ℕ) → is_listed peers p n ≡ (nat_lt n (length g.nodes) && place_of g n == p)

-- the nodes of the graph, each of them among them
pub record IsOrder (g : PlainGraph) (order : List ℕ) : Type 0 where
  pub within : All (λ n. n < length g.nodes) order
  pub each : (n : ℕ) → n < length g.nodes → IsTrue (is_among order n)

-- a row for each location, up to the greatest one of a node, with the nodes that stand there
pub record AreLocated (g : PlainGraph) (rows : PlainRows) : Type 0 where
  pub bits : rows.bits ≡ length g.nodes
  pub places : (n : ℕ) → n < length g.nodes → place_of g n < rows.count
  pub nodes : (p n : ℕ) → p < rows.count → has_at rows p n ≡ (nat_lt n (length g.nodes) && place_of g n == p)

-- the node stands in the list, whatever its location and rank there
abbrev pub is_keyed : List (ℕ × Option ℕ × ℕ) → ℕ → Bool
is_keyed keyed n = list_any (λ (x : ℕ × Option ℕ × ℕ). x.2 == n) keyed
