use Rattle.std.proofs.Common.{◌≡◌, map, take}
use Rattle.pair_graph.proofs.GraphWays.{start_way}
use Rattle.pair_graph.proofs.side.starts_of.Given as goal

abbrev pub invariant-loop-i : goal.invariant-loop-i
invariant-loop-i l = l.ways.items ≡ map (start_way l.graph) (take l.i l.graph.starts)
