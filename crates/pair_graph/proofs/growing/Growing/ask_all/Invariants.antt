use Rattle.std.proofs.Common.{◌≡◌, ℕ, ◌≤◌, Some, length}
use Rattle.std.specs.Prelude.{slice_get}
use Rattle.graph_base.specs.Graphs.{PlainGraph}
use Rattle.pair_graph.specs.Growth.{IsGrown}
use Rattle.pair_graph.specs.Pairs.{walks_of}
use Rattle.pair_graph.specs.Sides.{AreSides}
use Rattle.pair_graph.specs.Ways.{IsCut}
use Rattle.pair_graph.proofs.Nexts.{at_place}
use Rattle.pair_graph.proofs.growing.Growing.ask_all.Given as goal

abbrev pub invariant-loop-i : goal.invariant-loop-i
invariant-loop-i l = record {
  grown : (g h : PlainGraph) (starts : ℕ) → AreSides g h l.sides
      → IsGrown (walks_of g h) starts l.fn.self.pairs.keys l.fn.self.before.items l.fn.self.steps.items l.number 0
      → (b : ℕ) × IsGrown (walks_of g h) starts l.self.pairs.keys l.self.before.items l.self.steps.items l.number b × IsCut at_place l.nexts.items b l.i;
  few : length l.self.pairs.keys ≤ 4294967000;
  size : length l.self.before.items ≡ length l.self.pairs.keys;
  room : length l.self.steps.items ≤ l.room;
  pair : slice_get l.self.pairs.keys l.number ≡ Some l.pair;
}
