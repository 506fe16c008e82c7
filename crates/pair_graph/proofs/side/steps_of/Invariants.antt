use Rattle.std.proofs.Common.{◌≡◌, map, take}
use Rattle.pair_graph.specs.Ways.{AreLow}
use Rattle.pair_graph.proofs.GraphWays.{step_way}
use Rattle.pair_graph.proofs.side.steps_of.Given as goal

abbrev pub invariant-loop-i : goal.invariant-loop-i
invariant-loop-i l = record {
  ways : l.ways.items ≡ map (step_way l.graph) (take l.i l.graph.steps);
  low : AreLow l.ways.items;
}
