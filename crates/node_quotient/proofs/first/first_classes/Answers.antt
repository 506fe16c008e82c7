use Rattle.std.proofs.Common.{◌≡◌, length, ap, arith}
use Rattle.node_quotient.proofs.Firsts.{one_more}
use Rattle.node_quotient.proofs.first.first_classes.Goals as goal

pub loop-node-preserved : goal.loop-node-preserved
loop-node-preserved c =
    let graph = c.args.graph.now in
    let size : length c.nodes-size.result.now ≡ length graph.nodes = ap length c.nodes-size.ensures.nodes in
    let first = c.first_same.ensures in
    record {
      end = omega (arith, c.loop-node-test.true, size);
      firsts =
          rw c.in_ok-push.ensures.items
          (one_more graph c.loop-node.node c.first_same.result c.loop-node.least.items c.loop-node.invariant.firsts first.le first.same first.first);
    }
