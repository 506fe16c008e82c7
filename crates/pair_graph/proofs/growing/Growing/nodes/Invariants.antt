use Rattle.std.proofs.Common.{◌≡◌, map, take}
use Rattle.pair_graph.specs.Made.{pair_node}
use Rattle.pair_graph.proofs.growing.Growing.nodes.Given as goal

abbrev pub invariant-loop-number : goal.invariant-loop-number
invariant-loop-number l = l.nodes.items ≡ map pair_node (take l.number l.self.pairs.keys)
