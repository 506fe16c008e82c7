use Rattle.std.proofs.Common.{◌∙◌}
use Rattle.graph_base.specs.Runs.{place_of}
use Rattle.state_simulation.proofs.Locating.{placed_more}
use Rattle.state_simulation.proofs.maps.placed_nodes.Goals as goal

pub loop-node-preserved : goal.loop-node-preserved
loop-node-preserved c =
    λ p n. placed_more (place_of c.args.graph.now) c.loop-node.placed.items c.push.new.self.items c.loop-node.node c.number.result p n
    c.in_ok-push.ensures.items (c.number.ensures ∙ c.location.ensures) (c.loop-node.invariant p n)
