use Rattle.std.proofs.Common.{◌≡◌, ◌+◌, length}
use Rattle.pair_graph.specs.Ways.{AreRuns, IsCut, from_of}
use Rattle.pair_graph.proofs.runs.begins_of.Given as goal

abbrev pub invariant-loop-node : goal.invariant-loop-node
invariant-loop-node l = record {
  count : length l.begins.items ≡ l.node + 1;
  runs : AreRuns l.ways l.begins.items;
  place : IsCut from_of l.ways l.node l.place;
}
