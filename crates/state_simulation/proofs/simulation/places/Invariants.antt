use Rattle.std.proofs.Common.{◌≡◌, map, take}
use Rattle.graph_base.specs.declared.graph.Node.{Node}
use Rattle.state_simulation.proofs.simulation.places.Given as goal

abbrev pub invariant-loop-node : goal.invariant-loop-node
invariant-loop-node l = l.places ≡ map (λ (node : Node). node.loc) (take l.node-index l.node-items)
