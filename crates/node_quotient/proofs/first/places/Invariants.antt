use Rattle.std.proofs.Common.{◌≡◌, map, take}
use Rattle.graph_base.specs.declared.graph.Node.{Node}
use Rattle.node_quotient.proofs.first.places.Given as goal

abbrev pub invariant-loop-node : goal.invariant-loop-node
invariant-loop-node l = l.places.items ≡ map (λ (n : Node). n.loc) (take l.node-index l.nodes)
