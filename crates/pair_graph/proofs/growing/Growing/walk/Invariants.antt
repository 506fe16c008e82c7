use Rattle.std.proofs.Common.{◌≡◌, ℕ, ◌≤◌, length}
use Rattle.graph_base.specs.Graphs.{PlainGraph}
use Rattle.pair_graph.specs.Growth.{IsGrown}
use Rattle.pair_graph.specs.Pairs.{walks_of}
use Rattle.pair_graph.specs.Sides.{AreSides}
use Rattle.pair_graph.proofs.growing.Growing.walk.Given as goal

abbrev pub invariant-loop-number : goal.invariant-loop-number
invariant-loop-number l = record {
  grown : (g h : PlainGraph) (starts : ℕ) → AreSides g h l.sides
      → IsGrown (walks_of g h) starts l.fn.self.pairs.keys l.fn.self.before.items l.fn.self.steps.items 0 0
      → IsGrown (walks_of g h) starts l.self.pairs.keys l.self.before.items l.self.steps.items l.number 0;
  few : length l.self.pairs.keys ≤ 4294967000;
  size : length l.self.before.items ≡ length l.self.pairs.keys;
  room : length l.self.steps.items ≤ l.room;
}
