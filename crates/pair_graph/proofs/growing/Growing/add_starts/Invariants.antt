use Rattle.std.proofs.Common.{◌≡◌, ℕ, ◌≤◌, length}
use Rattle.graph_base.specs.Graphs.{PlainGraph}
use Rattle.pair_graph.specs.Nexts.{AreNextsBelow}
use Rattle.pair_graph.specs.Pairs.{start_pair}
use Rattle.pair_graph.specs.Sides.{AreSides}
use Rattle.pair_graph.specs.Ways.{IsCut}
use Rattle.pair_graph.proofs.Nexts.{at_place}
use Rattle.pair_graph.proofs.growing.Growing.add_starts.Given as goal

abbrev pub invariant-loop-i : goal.invariant-loop-i
invariant-loop-i l = record {
  begun : (g h : PlainGraph) → AreSides g h l.sides → (b : ℕ) × AreNextsBelow (start_pair g h) l.self.pairs.keys b × IsCut at_place l.starts.items b l.i;
  few : length l.self.pairs.keys ≤ 4294967000;
  size : length l.self.before.items ≡ length l.self.pairs.keys;
  steps : l.self.steps ≡ l.fn.self.steps;
}
