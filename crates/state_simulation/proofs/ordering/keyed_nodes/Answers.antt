use Rattle.state_simulation.proofs.Locating.{keyed_more}
use Rattle.state_simulation.proofs.ordering.keyed_nodes.Goals as goal

pub loop-node-preserved : goal.loop-node-preserved
loop-node-preserved c = λ n. keyed_more c.loop-node.keyed.items c.push.new.self.items c.location.result c.rank.result c.loop-node.node n c.in_ok-push.ensures.items (c.loop-node.invariant n)
